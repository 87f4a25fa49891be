-- By either tie rule exactly one frame of a class is sent, and it is least_frame_by; its energy and that of its largest block are the same by both.
-- The last among the least of a class is the first among those of the negated class, negated. Assumes nothing.
use mathlib.Core.Path.{◌≡◌, refl, sym, ap, ap₂, ◌∙◌, subst}
use mathlib.Core.Bool.{Bool, true, false}
use mathlib.Core.List.{List, [], ◌++◌}
use Prim.Native.Nat.{ℕ, suc, ◌*◌, ◌<◌}
use native.Mathlib.Omega.{arith}
use lib.ListN.{length, take, drop, length-take, length-drop}
use lib.Seq.{take_all, take_at, drop_at}
use lib.IntN.{ℤ}
use Rattle.e8.specs.Energy.{energy, Within}
use Rattle.e8.specs.Order.{Reads}
use Rattle.e8.specs.Lattice.{InBlock, part, Differ}
use Rattle.e8.specs.Largest.{largest_to, largest_block}
use Rattle.e8.specs.Least.{GoesBefore, IsLeast, least_block, least_frame}
use Rattle.e8.specs.Ties.{negated, least_block_by, least_frame_by}
use Rattle.e8.proofs.Order.{reads-antisym}
use Rattle.e8.proofs.Group.{block-length}
use Rattle.e8.proofs.Frame.{differ-sym, differ-trans, block_size, frame-size, least_frame-is, least_frame-within, least_frame-snoc, least_frame-part}
use Rattle.e8.proofs.Largest.{largest-same}
use Rattle.e8.proofs.Negation.{negated-twice, negated-length, negated-append, negated-part, negated-within}
use Rattle.e8.proofs.Negation.{negated-energy, negated-reads, differ-negated}

-- ---- what the rule asks, and the only one

-- what is least and first in the negated class is, negated, least and last
turned-back : (H n : ℕ) (x z : List ℤ) → IsLeast false H n (negated x) z → IsLeast true H n x (negated z)
turned-back H n x z i = record {
  member = subst (λ l. Differ H n l (negated z)) (negated-twice x) (differ-negated H n (negated x) z i.member);
  least = λ t d. omega (arith, negated-energy z, negated-energy t, i.least (negated t) (turned t d));
  tie = λ t d e. subst (λ l. Reads l (negated z)) (negated-twice t)
      (negated-reads z (negated t) (i.member.long ∙ sym (turned t d).long)
      (i.tie (negated t) (turned t d) (negated-energy t ∙ e ∙ negated-energy z)));
}
  where
    turned : (t : List ℤ) → Differ H n x t → Differ H n (negated x) (negated t)
    turned t d = differ-negated H n x t d

-- two frames of one rule in one class are one
same-least : (last : Bool) (H n : ℕ) (x y z : List ℤ) → IsLeast last H n x y → IsLeast last H n x z → y ≡ z
same-least last H n x y z i j = both last (i.tie z j.member (sym e)) (j.tie y i.member e)
  where
    e : energy y ≡ energy z
    e = omega (arith, i.least z j.member, j.least y i.member)

    both : (last : Bool) → GoesBefore last y z → GoesBefore last z y → y ≡ z
    both false a b = reads-antisym y z a b
    both true a b = reads-antisym y z b a

module _ (H : ℕ) (pos-H : 0 < H) (n : ℕ) where
  -- least_frame_by is what the rule asks
  pub least_frame_by-is : (last : Bool) (x : List ℤ) → length x ≡ 8 * n → IsLeast last H n x (least_frame_by last H n x)
  unfolding least_frame_by
  least_frame_by-is false x l = least_frame-is H pos-H n x l
  least_frame_by-is true x l = turned-back H n x (least_frame H n (negated x)) (least_frame-is H pos-H n (negated x) (negated-length x ∙ l))

  -- and the only frame like that
  pub least_frame_by-only : (last : Bool) (x z : List ℤ) → length x ≡ 8 * n → IsLeast last H n x z → z ≡ least_frame_by last H n x
  least_frame_by-only last x z l i = same-least last H n x z (least_frame_by last H n x) i (least_frame_by-is last x l)

  -- the energy is the same by both rules
  pub same-energy : (last other : Bool) (x : List ℤ) → length x ≡ 8 * n → energy (least_frame_by last H n x) ≡ energy (least_frame_by other H n x)
  same-energy last other x l =
      let i : IsLeast last H n x (least_frame_by last H n x) = least_frame_by-is last x l in
      let j : IsLeast other H n x (least_frame_by other H n x) = least_frame_by-is other x l in
      omega (arith, i.least (least_frame_by other H n x) j.member, j.least (least_frame_by last H n x) i.member)

  -- members of one class have one least frame
  pub least_frame_by-class : (last : Bool) (x y : List ℤ) → length x ≡ 8 * n → Differ H n x y → least_frame_by last H n x ≡ least_frame_by last H n y
  least_frame_by-class last x y l d = least_frame_by-only last y (least_frame_by last H n x) (d.long ∙ l) (record {
    member = differ-trans H n y x (least_frame_by last H n x) (differ-sym H n x y d) i.member;
    least = λ t e. i.least t (differ-trans H n x y t d e);
    tie = λ t e. i.tie t (differ-trans H n x y t d e);
  })
    where
      i : IsLeast last H n x (least_frame_by last H n x)
      i = least_frame_by-is last x l

-- THE LAST among the least of a class is the first among those of the negated class, negated
pub last-is : (H n : ℕ) (x : List ℤ) → least_frame_by true H n x ≡ negated (least_frame_by false H n (negated x))
unfolding least_frame_by
last-is H n x = refl

-- ---- block by block

-- no block
pub least_frame_by-none : (last : Bool) (H : ℕ) (x : List ℤ) → least_frame_by last H 0 x ≡ []
unfolding least_frame_by least_frame
least_frame_by-none false H x = refl
least_frame_by-none true H x = refl

-- the last block added, as a loop over blocks does it
pub least_frame_by-snoc : (last : Bool) (H n : ℕ) (x : List ℤ) → least_frame_by last H (suc n) x ≡ least_frame_by last H n x ++ least_block_by last H (part n x)
unfolding least_frame_by least_block_by
least_frame_by-snoc false H n x = least_frame-snoc H n x
least_frame_by-snoc true H n x =
    ap negated (least_frame-snoc H n (negated x) ∙ ap (λ l. least_frame H n (negated x) ++ least_block H l) (sym (negated-part n x)))
    ∙ negated-append (least_frame H n (negated x)) (least_block H (negated (part n x)))

-- a block before the others, by the first
first-least : (H n : ℕ) (a x : List ℤ) → length a ≡ 8 → least_frame H (suc n) (a ++ x) ≡ least_block H a ++ least_frame H n x
unfolding least_frame
first-least H n a x l = ap₂ (λ p q. least_block H p ++ least_frame H n q) (take_at a x 8 l) (drop_at a x 8 l)

-- and by either rule
pub least_frame_by-cons : (last : Bool) (H n : ℕ) (a x : List ℤ) → length a ≡ 8
    → least_frame_by last H (suc n) (a ++ x) ≡ least_block_by last H a ++ least_frame_by last H n x
unfolding least_frame_by least_block_by
least_frame_by-cons false H n a x l = first-least H n a x l
least_frame_by-cons true H n a x l =
    ap negated (ap (least_frame H (suc n)) (negated-append a x) ∙ first-least H n (negated a) (negated x) (negated-length a ∙ l))
    ∙ negated-append (least_block H (negated a)) (least_frame H n (negated x))

-- one block
one-least : (last : Bool) (H : ℕ) (x : List ℤ) → length x ≡ 8 → least_frame_by last H 1 x ≡ least_block_by last H x
one-least last H x l = least_frame_by-snoc last H 0 x ∙ ap₂ (λ a b. a ++ least_block_by last H b) (least_frame_by-none last H x) (take_all 8 x (omega arith))

module _ (H : ℕ) (pos-H : 0 < H) where
  -- a block of eight stays one
  pub block_by-size : (last : Bool) (x : List ℤ) → length x ≡ 8 → length (least_block_by last H x) ≡ 8
  unfolding least_block_by
  block_by-size false x l = block_size H pos-H x l
  block_by-size true x l = negated-length (least_block H (negated x)) ∙ block_size H pos-H (negated x) (negated-length x ∙ l)

  -- and a frame of n blocks
  pub least_frame_by-size : (last : Bool) (n : ℕ) (x : List ℤ) → length x ≡ 8 * n → length (least_frame_by last H n x) ≡ 8 * n
  unfolding least_frame_by
  least_frame_by-size false n x l = frame-size H pos-H n x l
  least_frame_by-size true n x l = negated-length (least_frame H n (negated x)) ∙ frame-size H pos-H n (negated x) (negated-length x ∙ l)

  -- every coordinate is at most M in size
  pub least_frame_by-within : (last : Bool) (n : ℕ) (x : List ℤ) → Within (2 * H) (least_frame_by last H n x)
  unfolding least_frame_by
  least_frame_by-within false n x = least_frame-within H pos-H n x
  least_frame_by-within true n x = negated-within (2 * H) (least_frame H n (negated x)) (least_frame-within H pos-H n (negated x))

  -- and so in a block
  pub block_by-within : (last : Bool) (x : List ℤ) → length x ≡ 8 → Within (2 * H) (least_block_by last H x)
  block_by-within last x l = subst (Within (2 * H)) (one-least last H x l) (least_frame_by-within last 1 x)

  -- block i of the least frame is the least block of block i
  pub least_frame_by-part : (last : Bool) (n : ℕ) (x : List ℤ) → length x ≡ 8 * n → (i : ℕ) → i < n
      → part i (least_frame_by last H n x) ≡ least_block_by last H (part i x)
  unfolding least_frame_by least_block_by
  least_frame_by-part false n x l i h = least_frame-part H pos-H n x l i h
  least_frame_by-part true n x l i h =
      sym (negated-part i (least_frame H n (negated x)))
      ∙ ap negated (least_frame-part H pos-H n (negated x) (negated-length x ∙ l) i h ∙ ap (least_block H) (sym (negated-part i x)))

  -- members of one class of blocks have one least block
  pub block_by-class : (last : Bool) (x y : List ℤ) → length x ≡ 8 → InBlock H x y → least_block_by last H x ≡ least_block_by last H y
  block_by-class last x y l i =
      sym (one-least last H x l) ∙ least_frame_by-class H pos-H 1 last x y l (record { whole = l; long = long; blocks = blocks }) ∙ one-least last H y (long ∙ l)
    where
      long : length y ≡ length x
      long = block-length H x y i

      first : (j : ℕ) → j < 1 → (z : List ℤ) → length z ≡ 8 → z ≡ part j z
      first j h z m = let e : 8 * j ≡ 0 = omega arith in sym (ap (λ (n : ℕ). take 8 (drop n z)) e ∙ take_all 8 z (omega (arith, m)))

      blocks : (j : ℕ) → j < 1 → InBlock H (part j x) (part j y)
      blocks j h = subst (InBlock H (part j x)) (first j h y (long ∙ l)) (subst (λ (z : List ℤ). InBlock H z y) (first j h x l) i)

  -- the energy of a block is the same by both rules
  block-energy : (last other : Bool) (x : List ℤ) → length x ≡ 8 → energy (least_block_by last H x) ≡ energy (least_block_by other H x)
  block-energy last other x l =
      ap energy (sym (one-least last H x l)) ∙ same-energy H pos-H 1 last other x l ∙ ap energy (one-least other H x l)

  -- and so is that of the largest block
  pub same-largest : (last other : Bool) (n : ℕ) (x : List ℤ) → length x ≡ 8 * n
      → largest_block (least_frame_by last H n x) ≡ largest_block (least_frame_by other H n x)
  same-largest last other n x l =
      largest-to last ∙ largest-same n (least_frame_by last H n x) (least_frame_by other H n x) each ∙ sym (largest-to other)
    where
      largest-to : (t : Bool) → largest_block (least_frame_by t H n x) ≡ largest_to n (least_frame_by t H n x)
      largest-to t = ap (λ (m : ℕ). largest_to m (least_frame_by t H n x)) (omega (arith, least_frame_by-size t n x l))

      each : (i : ℕ) → i < n → energy (part i (least_frame_by last H n x)) ≡ energy (part i (least_frame_by other H n x))
      each i h =
          ap energy (least_frame_by-part last n x l i h) ∙ block-energy last other (part i x) (simp (length-take, length-drop) (omega arith))
          ∙ ap energy (sym (least_frame_by-part other n x l i h))
