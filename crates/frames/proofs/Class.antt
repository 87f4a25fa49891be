-- The class of a frame: the lattice point by which two members differ, coordinate by coordinate, and what it leaves alone. Assumes nothing.
use Prim.Native.Nat.{ℕ, suc, ◌+◌, ◌-◌, ◌*◌, ◌%◌, ◌/◌, ◌^◌, ◌<◌}
use mathlib.Core.Path.{◌≡◌, sym, ap, ◌∙◌, subst}
use mathlib.Core.List.{List, []}
use native.Mathlib.Decide.{dec_lt}
use native.Mathlib.Nat.{pow-succ'}
use native.Mathlib.Omega.{arith}
use lib.ListN.{length}
use lib.Pow.{pow-add}
use lib.IntN.{ℤ, pos, neg_ℤ, ◌-ℤ◌, ◌*ℤ◌}
use Rattle.integers.proofs.Zed.{`◌, #◌, ◌⊕◌, ◌⊖◌, ◌⊗◌, ⊝◌, eq! }
use Rattle.e8.specs.Lattice.{TwoE8, moved, part, Differ}
use Rattle.frames.specs.Kind.{degrees, levels, blocks, scale}
use Rattle.frames.specs.Frame.{half, SameClass}
use Rattle.frames.proofs.Levels.{Fit, Codes}
use Rattle.frames.proofs.Stacked.{Plus, codes-plus}
use Rattle.frames.proofs.Frame.{at, part_length, part_at, moved_at}

-- what the laws need of a kind: level codes that exist at its length, and whole blocks
pub record Shape (k : ℕ) : Type 0 where
  pub fit : Fit k (degrees k)
  pub whole : 8 * blocks k ≡ 2 ^ k

-- ---- the scale, at grade c + 1: M = 2·H and H = 2^a·2^c

pub half_is : (k c : ℕ) → half k (suc c) ≡ 2 ^ levels k * 2 ^ c
unfolding half
half_is k c = let e : levels k + suc c - 1 ≡ levels k + c = omega arith in ap (λ (n : ℕ). 2 ^ n) e ∙ pow-add 2 (levels k) c

pub scale-is : (k c : ℕ) → scale k (suc c) ≡ 2 * half k (suc c)
unfolding half scale
scale-is k c =
    let e : levels k + suc c ≡ suc (levels k + suc c - 1) = omega arith in
    ap (λ (n : ℕ). 2 ^ n) e ∙ pow-succ' 2 (levels k + suc c - 1)

-- ---- the lattice point

module _ {H n : ℕ} {f g : List ℤ} (d : Differ H n f g) where
  point_at : (i : ℕ) → Dec (i < n) → List ℤ
  point_at i (yes h) = (d.blocks i h).ws
  point_at i (no h) = []

  -- twice the point of E8 in block i
  pub point : ℕ → List ℤ
  point i = point_at i (dec_lt i n)

  pub record At (i : ℕ) (ws : List ℤ) : Type 0 where
    pub long : length ws ≡ length (part i f)
    pub is : part i g ≡ moved H (part i f) ws
    pub two : TwoE8 ws

  pub point_at_lem : (i : ℕ) → i < n → At i (point i)
  unfolding point point_at
  point_at_lem i h = go (dec_lt i n)
    where
      go : (t : Dec (i < n)) → At i (point_at i t)
      go (yes l) = record { long = (d.blocks i l).long; is = (d.blocks i l).is; two = (d.blocks i l).point }
      go (no k) = absurd (k h)

  module _ (lf : length f ≡ 8 * n) where
    lg : length g ≡ 8 * n
    lg = d.long ∙ lf

    pub point-long : (i : ℕ) → i < n → length (point i) ≡ 8
    point-long i h = (point_at_lem i h).long ∙ part_length f n i lf h

    pub minus-point : (i o : ℕ) → i < n → o < 8 → at g (8 * i + o) ≡ at f (8 * i + o) -ℤ pos H *ℤ at (point i) o
    minus-point i o h l =
        sym (part_at g n i lg h o l) ∙ ap (λ (x : List ℤ). at x o) (point_at_lem i h).is
        ∙ moved_at H (part i f) (point i) (point_at_lem i h).long o (omega (arith, part_length f n i lf h))
        ∙ ap (λ (z : ℤ). z -ℤ pos H *ℤ at (point i) o) (part_at f n i lf h o l)

    pub minus-at : (p : ℕ) → p < 8 * n → at g p ≡ at f p -ℤ pos H *ℤ at (point (p / 8)) (p % 8)
    minus-at p h =
        let e : 8 * (p / 8) + p % 8 ≡ p = omega arith in
        subst (λ (q : ℕ). at g q ≡ at f q -ℤ pos H *ℤ at (point (p / 8)) (p % 8)) e (minus-point (p / 8) (p % 8) (omega arith) (omega arith))

-- ---- the members of a class have the same level words

pub class-codes : (k c : ℕ) → Shape k → (f g : List ℤ) → length f ≡ 2 ^ k → SameClass k (suc c) f g → Codes k (degrees k) (at f) → Codes k (degrees k) (at g)
unfolding levels
class-codes k c shape f g lf d codes = codes-plus k (degrees k) (at g) (at f) (λ p h. plus p h) codes
  where
    plus : (p : ℕ) → p < 2 ^ k → Plus (2 ^ levels k) (at g p) (at f p)
    plus p h = record {
      w = neg_ℤ (pos (2 ^ c) *ℤ w);
      is = minus-at d (lf ∙ sym shape.whole) p (omega (arith, shape.whole)) ∙ ap (λ (m : ℕ). at f p -ℤ pos m *ℤ w) (half_is k c)
          ∙ eq! (` (at f p) ⊖ # (2 ^ levels k * 2 ^ c) ⊗ ` w) (` (at f p) ⊕ # (2 ^ levels k) ⊗ (⊝ (# (2 ^ c) ⊗ ` w))) (omega arith);
    }
      where
        w : ℤ
        w = at (point d (p / 8)) (p % 8)
