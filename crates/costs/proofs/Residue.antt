-- One coordinate and one sample: a number of a residue modulo 4 that is less than 2 away from the sample is the nearest one of that residue. Assumes nothing.
use Prim.Native.Nat.{ℕ, ◌+◌, ◌*◌, ◌^◌, ◌≤◌, ◌<◌}
use mathlib.Core.Path.{◌≡◌, refl, ap, ◌∙◌, subst}
use native.Mathlib.Omega.{arith}
use lib.IntN.{ℤ, pos, ◌+ℤ◌, ◌-ℤ◌, ◌*ℤ◌, nat_abs, +ℤ_comm}
use lib.Signed.{shr_z}
use Rattle.integers.specs.Integer.{mod_z}
use Rattle.integers.proofs.Zed.{`◌, #◌, ◌⊕◌, ◌⊖◌, ◌⊗◌, eq!, eq?, abs-le}
use Rattle.integers.proofs.Floor.{div-mod, mod_z-lt, quot_is, rem_is, shr_one}
use Rattle.e8.specs.Energy.{sq}
use Rattle.frames.specs.Frame.{weight_bit}
use Rattle.frames.proofs.Frame.{weight-bit}
use Rattle.costs.specs.Costs.{nearest, gap}
use Rattle.near_frames.proofs.Squares.{le-abs}
use Rattle.costs.proofs.Nearest.{gap-only, gap-least}

-- ---- squares of opposite numbers

abs-opposite : (z w : ℤ) → z +ℤ w ≡ pos 0 → nat_abs z ≤ nat_abs w
abs-opposite z w e =
    let q = eq? (` z ⊕ ` w) (# 0) e in
    abs-le z (nat_abs w) (omega (arith, q, (le-abs w).1)) (omega (arith, q, (le-abs w).0))

sq-opposite : (z w : ℤ) → z +ℤ w ≡ pos 0 → sq z ≡ sq w
unfolding sq
sq-opposite z w e =
    let same : nat_abs z ≡ nat_abs w = omega (arith, abs-opposite z w e, abs-opposite w z (+ℤ_comm w z ∙ e)) in
    ap (λ (n : ℕ). n * n) same

-- ---- the bits of weight 1 and 2

module _ (a b : ℕ) (ha : a < 2) (hb : b < 2) (j : ℤ) where
  abbrev z : ℤ
  z = pos 4 *ℤ j +ℤ pos (a + 2 * b)

  halved : pos 4 *ℤ j +ℤ pos (a + 2 * b) ≡ pos 2 *ℤ (pos 2 *ℤ j +ℤ pos b) +ℤ pos a
  halved = eq! (# 4 ⊗ ` j ⊕ # (a + 2 * b)) (# 2 ⊗ (# 2 ⊗ ` j ⊕ # b) ⊕ # a) (omega arith)

  pub bit-0 : weight_bit 0 (pos 4 *ℤ j +ℤ pos (a + 2 * b)) ≡ a
  bit-0 = weight-bit 0 z ∙ ap (λ (y : ℤ). mod_z y 2) (shr_one z) ∙ rem_is z 2 (pos 2 *ℤ j +ℤ pos b) a ha halved

  pub bit-1 : weight_bit 1 (pos 4 *ℤ j +ℤ pos (a + 2 * b)) ≡ b
  bit-1 = weight-bit 1 z ∙ ap (λ (y : ℤ). mod_z y 2) (quot_is z 2 (pos 2 *ℤ j +ℤ pos b) a ha halved) ∙ rem_is (pos 2 *ℤ j +ℤ pos b) 2 j b hb refl

pub bit-small : (i : ℕ) (z : ℤ) → weight_bit i z < 2
bit-small i z = omega (arith, weight-bit i z, mod_z-lt (shr_z z (2 ^ i)) 2 (omega arith))

-- a number is its residue and a multiple of 4
pub by_bits : (z : ℤ) → z ≡ pos 4 *ℤ shr_z (shr_z z 2) 2 +ℤ pos (weight_bit 0 z + 2 * weight_bit 1 z)
by_bits z =
    eq! (` z) (# 4 ⊗ ` (shr_z (shr_z z 2) 2) ⊕ # (weight_bit 0 z + 2 * weight_bit 1 z))
    (omega (
      arith,
      eq? (` z) (# 2 ⊗ ` (shr_z z 2) ⊕ # (mod_z z 2)) (div-mod z 2 (omega arith)),
      eq? (` (shr_z z 2)) (# 2 ⊗ ` (shr_z (shr_z z 2) 2) ⊕ # (mod_z (shr_z z 2) 2)) (div-mod (shr_z z 2) 2 (omega arith)),
      weight-bit 0 z ∙ ap (λ (y : ℤ). mod_z y 2) (shr_one z),
      weight-bit 1 z,
    ))

-- ---- the distance

module _ (t j : ℤ) (r : ℕ) where
  turned : sq (pos 256 *ℤ (pos 4 *ℤ j +ℤ pos r) -ℤ t) ≡ sq (t -ℤ pos (256 * r) -ℤ pos (2 * 512) *ℤ j)
  turned = sq-opposite _ _ (eq! (# 256 ⊗ (# 4 ⊗ ` j ⊕ # r) ⊖ ` t ⊕ (` t ⊖ # (256 * r) ⊖ # (2 * 512) ⊗ ` j)) (# 0) (omega arith))

  -- the nearest number of the residue r modulo 4
  pub candidate-cost : j ≡ nearest 512 (t -ℤ pos (256 * r)) → sq (pos 256 *ℤ (pos 4 *ℤ j +ℤ pos r) -ℤ t) ≡ gap 512 (t -ℤ pos (256 * r))
  unfolding gap
  candidate-cost e = turned ∙ ap (λ (i : ℤ). sq (t -ℤ pos (256 * r) -ℤ pos (2 * 512) *ℤ i)) e

  -- one that is less than 2 away is the nearest
  pub near-cost : sq (pos 256 *ℤ (pos 4 *ℤ j +ℤ pos r) -ℤ t) < 262144 → sq (pos 256 *ℤ (pos 4 *ℤ j +ℤ pos r) -ℤ t) ≡ gap 512 (t -ℤ pos (256 * r))
  near-cost l = candidate-cost (gap-only 512 (omega arith) (t -ℤ pos (256 * r)) j (omega (arith, l, turned)))

-- the nearest number of a parity is no further away than that of a residue modulo 4
pub parity-nearer : (t : ℤ) (a b : ℕ) → gap 256 (t -ℤ pos (256 * a)) ≤ gap 512 (t -ℤ pos (256 * (a + 2 * b)))
unfolding gap
parity-nearer t a b =
    let q : ℤ = nearest 512 (t -ℤ pos (256 * (a + 2 * b))) in
    let e : t -ℤ pos (256 * a) -ℤ pos (2 * 256) *ℤ (pos b +ℤ pos 2 *ℤ q) ≡ t -ℤ pos (256 * (a + 2 * b)) -ℤ pos (2 * 512) *ℤ q =
    eq! (` t ⊖ # (256 * a) ⊖ # (2 * 256) ⊗ (# b ⊕ # 2 ⊗ ` q)) (` t ⊖ # (256 * (a + 2 * b)) ⊖ # (2 * 512) ⊗ ` q) (omega arith) in
    subst (λ (z : ℤ). gap 256 (t -ℤ pos (256 * a)) ≤ sq z) e (gap-least 256 (omega arith) (t -ℤ pos (256 * a)) (pos b +ℤ pos 2 *ℤ q))
