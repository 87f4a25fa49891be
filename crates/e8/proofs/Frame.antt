-- Frames of n blocks: to differ by a point of the shaping lattice is an equivalence, and least_frame is what the rule of the first among the least asks
use mathlib.Core.Path.{◌≡◌, refl, sym, ◌∙◌, ap, subst, subst₂}
use mathlib.Core.Logic.{inl, inr}
use mathlib.Core.Bool.{false}
use mathlib.Core.List.{List, [], ◌∷◌, ◌++◌, append-nil, append_assoc}
use Prim.Native.Nat.{ℕ, zero, suc, ◌+◌, ◌*◌, ◌-◌, ◌<◌}
use native.Mathlib.Omega.{arith}
use lib.ListN.{length, take, drop, length-take, length-drop, length-append, take-append-drop}
use lib.Seq.{drop-drop, take_at, drop_at}
use lib.IntN.{ℤ}
use Rattle.e8.specs.Energy.{Within}
use Rattle.e8.specs.Lattice.{InBlock, part, Differ}
use Rattle.e8.specs.Least.{IsLeast, least_block, least_frame}
use Rattle.e8.proofs.Order.{◌≼◌, append-mono}
use Rattle.e8.proofs.Cent.{Range, range-abs}
use Rattle.e8.proofs.Best.{All}
use Rattle.e8.proofs.Group.{block-refl, block-sym, block-trans, block-length}
use Rattle.e8.proofs.Block.{block_in, block-least, block-range}

-- ---- classes

pub differ-refl : (H n : ℕ) (xs : List ℤ) → length xs ≡ 8 * n → Differ H n xs xs
differ-refl H n xs l = record { whole = l; long = refl; blocks = λ i h. block-refl H (part i xs) }

pub differ-sym : (H n : ℕ) (xs ys : List ℤ) → Differ H n xs ys → Differ H n ys xs
differ-sym H n xs ys d = record {
  whole = d.long ∙ d.whole;
  long = sym d.long;
  blocks = λ i h. block-sym H (part i xs) (part i ys) (d.blocks i h);
}

pub differ-trans : (H n : ℕ) (xs ys zs : List ℤ) → Differ H n xs ys → Differ H n ys zs → Differ H n xs zs
differ-trans H n xs ys zs d e = record {
  whole = d.whole;
  long = e.long ∙ d.long;
  blocks = λ i h. block-trans H (part i xs) (part i ys) (part i zs) (d.blocks i h) (e.blocks i h);
}

-- ---- one block and the rest

part-next : (i : ℕ) (xs : List ℤ) → part i (drop 8 xs) ≡ part (suc i) xs
part-next i xs = ap (take 8) (drop-drop (8 * i) 8 xs ∙ ap (λ (m : ℕ). drop m xs) {x = 8 + 8 * i} {y = 8 * suc i} (omega arith))

-- block i as the part from 8i to 8i + 8, which is how code hands it on
pub part-is : (i : ℕ) (xs : List ℤ) → take (8 * i + 8 - 8 * i) (drop (8 * i) xs) ≡ part i xs
part-is i xs = let e : 8 * i + 8 - 8 * i ≡ 8 = omega arith in ap (λ (m : ℕ). take m (drop (8 * i) xs)) e

module _ (H n : ℕ) (xs zs : List ℤ) where
  differ-first : Differ H (suc n) xs zs → InBlock H (take 8 xs) (take 8 zs)
  differ-first d = d.blocks 0 (omega arith)

  differ-rest : Differ H (suc n) xs zs → Differ H n (drop 8 xs) (drop 8 zs)
  differ-rest d = record {
    whole = simp length-drop (omega (arith, d.whole));
    long = simp length-drop (omega (arith, d.long));
    blocks = λ i h. subst₂ (InBlock H) (sym (part-next i xs)) (sym (part-next i zs)) (d.blocks (suc i) (omega arith));
  }

  differ-join : length xs ≡ 8 * suc n → length zs ≡ length xs → InBlock H (take 8 xs) (take 8 zs) → Differ H n (drop 8 xs) (drop 8 zs) → Differ H (suc n) xs zs
  differ-join w l a d = record { whole = w; long = l; blocks = go }
    where
      go : (i : ℕ) → i < suc n → InBlock H (part i xs) (part i zs)
      go zero h = a
      go (suc i) h = subst₂ (InBlock H) (part-next i xs) (part-next i zs) (d.blocks i (omega arith))

-- ---- every coordinate

all_append : (P : ℤ → Type 0) (a b : List ℤ) → All P a → All P b → All P (a ++ b)
all_append P [] b h k = k
all_append P (z ∷ a) b h k = (h.0, all_append P a b h.1 k)

range-within : (M : ℕ) (zs : List ℤ) → All (Range M) zs → Within M zs
range-within M [] h = tt
range-within M (z ∷ zs) h = (range-abs M z h.0, range-within M zs h.1)

-- ---- the least frame

module _ (H : ℕ) (pos-H : 0 < H) where
  pub block_size : (x : List ℤ) → length x ≡ 8 → length (least_block H x) ≡ 8
  block_size x l = block-length H x (least_block H x) (block_in H pos-H 1 x l) ∙ l

  pub frame-size : (n : ℕ) (x : List ℤ) → length x ≡ 8 * n → length (least_frame H n x) ≡ 8 * n
  unfolding least_frame
  frame-size zero x l = omega arith
  frame-size (suc n) x l =
      let a = block_size (take 8 x) (simp length-take (omega arith)) in
      let b = frame-size n (drop 8 x) (simp length-drop (omega arith)) in
      simp length-append (omega (arith, a, b))

  frame-in : (n : ℕ) (x : List ℤ) → length x ≡ 8 * n → Differ H n x (least_frame H n x)
  unfolding least_frame
  frame-in zero x l = record { whole = l; long = omega arith; blocks = λ i h. absurd (omega arith) }
  frame-in (suc n) x l =
      let la : length (take 8 x) ≡ 8 = simp length-take (omega arith) in
      let lb : length (drop 8 x) ≡ 8 * n = simp length-drop (omega arith) in
      let a : List ℤ = least_block H (take 8 x) in
      let b : List ℤ = least_frame H n (drop 8 x) in
      differ-join H n x (a ++ b) l (frame-size (suc n) x l ∙ sym l)
      (subst (InBlock H (take 8 x)) (sym (take_at a b 8 (block_size (take 8 x) la))) (block_in H pos-H 1 (take 8 x) la))
      (subst (Differ H n (drop 8 x)) (sym (drop_at a b 8 (block_size (take 8 x) la))) (frame-in n (drop 8 x) lb))

  frame-least : (n : ℕ) (x t : List ℤ) → length x ≡ 8 * n → Differ H n x t → least_frame H n x ≼ t
  unfolding least_frame
  frame-least zero x [] l d = inr (refl, tt)
  frame-least zero x (z ∷ t) l d = absurd (omega (arith, d.long))
  frame-least (suc n) x t l d =
      let la : length (take 8 x) ≡ 8 = simp length-take (omega arith) in
      let lb : length (drop 8 x) ≡ 8 * n = simp length-drop (omega arith) in
      let lt : length (take 8 t) ≡ 8 = simp length-take (omega (arith, d.long)) in
      subst (λ s. least_frame H (suc n) x ≼ s) (take-append-drop 8 t)
      (append-mono (least_block H (take 8 x)) (take 8 t) (least_frame H n (drop 8 x)) (drop 8 t) (block_size (take 8 x) la ∙ sym lt)
      (block-least H pos-H 1 (take 8 x) (take 8 t) la (differ-first H n x t d)) (frame-least n (drop 8 x) (drop 8 t) lb (differ-rest H n x t d)))

  pub least_frame-is : (n : ℕ) (x : List ℤ) → length x ≡ 8 * n → IsLeast false H n x (least_frame H n x)
  least_frame-is n x l = record {
    member = frame-in n x l;
    least = λ t d. elim (frame-least n x t l d) [ inl h ↦ omega arith | inr h ↦ omega (arith, h.0) ];
    tie = λ t d e. elim (frame-least n x t l d) [ inl h ↦ absurd (omega arith) | inr h ↦ h.1 ];
  }

  -- every coordinate is in [−M, M)
  frame-range : (n : ℕ) (x : List ℤ) → All (Range (2 * H)) (least_frame H n x)
  unfolding least_frame
  frame-range zero x = tt
  frame-range (suc n) x =
      all_append (Range (2 * H)) (least_block H (take 8 x)) (least_frame H n (drop 8 x)) (block-range H pos-H (take 8 x)) (frame-range n (drop 8 x))

  pub least_frame-within : (n : ℕ) (x : List ℤ) → Within (2 * H) (least_frame H n x)
  least_frame-within n x = range-within (2 * H) (least_frame H n x) (frame-range n x)

-- ---- the blocks of the least frame

-- the last block added, as a loop over blocks does it
pub least_frame-snoc : (H n : ℕ) (x : List ℤ) → least_frame H (suc n) x ≡ least_frame H n x ++ least_block H (part n x)
unfolding least_frame
least_frame-snoc H zero x = append-nil (least_block H (take 8 x))
least_frame-snoc H (suc n) x =
    ap (λ l. least_block H (take 8 x) ++ l) (least_frame-snoc H n (drop 8 x) ∙ ap (λ p. least_frame H n (drop 8 x) ++ least_block H p) (part-next n x))
    ∙ sym (append_assoc (least_block H (take 8 x)) (least_frame H n (drop 8 x)) (least_block H (part (suc n) x)))

-- block i of the least frame is the least block of block i
pub least_frame-part : (H : ℕ) → 0 < H → (n : ℕ) (x : List ℤ) → length x ≡ 8 * n → (i : ℕ) → i < n → part i (least_frame H n x) ≡ least_block H (part i x)
unfolding least_frame
least_frame-part H pos-H zero x l i h = absurd (omega arith)
least_frame-part H pos-H (suc n) x l zero h =
    take_at (least_block H (take 8 x)) (least_frame H n (drop 8 x)) 8 (block_size H pos-H (take 8 x) (simp length-take (omega arith)))
least_frame-part H pos-H (suc n) x l (suc i) h =
    sym (part-next i (least_block H (take 8 x) ++ least_frame H n (drop 8 x)))
    ∙ ap (part i) (drop_at (least_block H (take 8 x)) (least_frame H n (drop 8 x)) 8 (block_size H pos-H (take 8 x) (simp length-take (omega arith))))
    ∙ least_frame-part H pos-H n (drop 8 x) (simp length-drop (omega arith)) i (omega arith)
    ∙ ap (least_block H) (part-next i x)
