-- Levels: any number of them, of any degrees, at any length 2^m. Two stacks of codewords that differ are far apart. Assumes nothing.
use Prim.Native.Nat.{ℕ, zero, suc, ◌+◌, ◌-◌, ◌*◌, ◌%◌, ◌^◌, ◌≤◌, ◌<◌, min}
use mathlib.Core.Path.{◌≡◌, refl, ap, ◌∙◌}
use mathlib.Core.Logic.{◌⊎◌, inl, inr}
use mathlib.Core.Bool.{true}
use mathlib.Core.List.{List, [], ◌∷◌}
use native.Mathlib.Nat.{le_trans, mul-le-mul, min-le_left, min-le_right}
use native.Mathlib.Omega.{arith}
use native.Mathlib.Decide.{ℕ_discrete}
use lib.IntN.{ℤ, pos, negsuc, ◌-ℤ◌, ◌*ℤ◌, nat_abs, ℤ_discrete}
use lib.Signed.{shr_z}
use Rattle.integers.specs.Integer.{mod_z}
use Rattle.integers.proofs.Zed.{`◌, #◌, ◌⊕◌, ◌⊖◌, ◌⊗◌, eq!, eq?}
use Rattle.integers.proofs.Floor.{div-mod, mod_z-lt}
use Rattle.bits.specs.Number.{sum_to}
use Rattle.reed_muller.specs.Level.{belongs}
use Rattle.bits.proofs.Sum.{sum-ext, sum-term, sum-times}
use Rattle.reed_muller.proofs.Weight.{Odd, look}
use Rattle.reed_muller.proofs.Belongs.{belongs-distance}
use Rattle.e8.specs.Energy.{sq}
use Rattle.e8.proofs.Negation.{abs_neg}

-- every degree is at most m
abbrev pub Fit : ℕ → List ℕ → Type 0
Fit m [] = Unit {0}
Fit m (r ∷ rs) = (r ≤ m) × Fit m rs

-- the bits of weight 1, 2, 4, .. of the numbers x 0, x 1, .. are codewords of RM(r, m), r from the list
abbrev pub Codes : ℕ → List ℕ → (ℕ → ℤ) → Type 0
Codes m [] x = Unit {0}
Codes m (r ∷ rs) x = (belongs r m (λ p. mod_z (x p) 2) ≡ true) × Codes m rs (λ p. shr_z (x p) 2)

-- the squared distance that is claimed: the least of 4^i·2^(m−r) over the levels i, and of 4^a
abbrev pub apart_by : ℕ → List ℕ → ℕ
apart_by m [] = 1
apart_by m (r ∷ rs) = min (2 ^ (m - r)) (4 * apart_by m rs)

-- ---- sums

sum-le : (n : ℕ) (f g : ℕ → ℕ) → ((i : ℕ) → f i ≤ g i) → sum_to n f ≤ sum_to n g
unfolding sum_to
sum-le zero f g h = omega arith
sum-le (suc n) f g h = omega (arith, sum-le n f g h, h n)

-- ---- squares

abs-times : (c : ℕ) (z : ℤ) → nat_abs (pos c *ℤ z) ≡ c * nat_abs z
abs-times c (pos n) = refl
abs-times c (negsuc n) = abs_neg (pos (c * suc n))

sq-double : (z : ℤ) → sq (pos 2 *ℤ z) ≡ 4 * sq z
unfolding sq
sq-double z = ap (λ (n : ℕ). n * n) (abs-times 2 z) ∙ omega arith

abs-zero : (z : ℤ) → nat_abs z ≡ 0 → z ≡ pos 0
abs-zero (pos n) e = ap pos e
abs-zero (negsuc n) e = absurd (omega arith)

sq_pos : (x y : ℤ) → (x ≡ y → ⊥) → 1 ≤ sq (x -ℤ y)
unfolding sq
sq_pos x y ne = mul-le-mul one one
  where
    one : 1 ≤ nat_abs (x -ℤ y)
    one = go (ℕ_discrete (nat_abs (x -ℤ y)) 0)
      where
        go : Dec (nat_abs (x -ℤ y) ≡ 0) → 1 ≤ nat_abs (x -ℤ y)
        go (yes e) = absurd (ne (eq! (` x) (` y) (omega (arith, eq? (` x ⊖ ` y) (# 0) (abs-zero (x -ℤ y) e)))))
        go (no k) = omega arith

-- numbers of one parity: their difference is twice that of their halves
double-diff : (x y : ℤ) → mod_z x 2 ≡ mod_z y 2 → x -ℤ y ≡ pos 2 *ℤ (shr_z x 2 -ℤ shr_z y 2)
double-diff x y e = eq! (` x ⊖ ` y) (# 2 ⊗ (` (shr_z x 2) ⊖ ` (shr_z y 2)))
    (omega (
      arith,
      eq? (` x) (# 2 ⊗ ` (shr_z x 2) ⊕ # (mod_z x 2)) (div-mod x 2 (omega arith)),
      eq? (` y) (# 2 ⊗ ` (shr_z y 2) ⊕ # (mod_z y 2)) (div-mod y 2 (omega arith)),
    ))

parity-sq : (x y : ℤ) → (mod_z x 2 + mod_z y 2) % 2 ≤ sq (x -ℤ y)
parity-sq x y = go (ℤ_discrete x y)
  where
    go : Dec (x ≡ y) → (mod_z x 2 + mod_z y 2) % 2 ≤ sq (x -ℤ y)
    go (yes e) = omega (arith, ap (λ (z : ℤ). mod_z z 2) e)
    go (no k) = omega (arith, sq_pos x y k)

-- THE DISTANCE of the coding set, at every length and for all levels
pub apart : (m : ℕ) (rs : List ℕ) → Fit m rs → (x y : ℕ → ℤ) → Codes m rs x → Codes m rs y → (p : ℕ) → p < 2 ^ m → (x p ≡ y p → ⊥)
    → apart_by m rs ≤ sum_to (2 ^ m) (λ q. sq (x q -ℤ y q))
apart m [] fit x y cx cy p h ne = le_trans (sq_pos (x p) (y p) ne) (sum-term (2 ^ m) (λ q. sq (x q -ℤ y q)) p h)
apart m (r ∷ rs) fit x y cx cy p h ne =
    go (look (2 ^ m) (λ q. mod_z (x q) 2 + mod_z (y q) 2))
    (apart m rs fit.1 (λ q. shr_z (x q) 2) (λ q. shr_z (y q) 2) cx.1 cy.1 p h)
  where
    S : ℕ
    S = sum_to (2 ^ m) (λ q. sq (x q -ℤ y q))

    go : ((q : ℕ) → q < 2 ^ m → (mod_z (x q) 2 + mod_z (y q) 2) % 2 ≡ 0) ⊎ Odd (2 ^ m) (λ q. mod_z (x q) 2 + mod_z (y q) 2)
        → ((shr_z (x p) 2 ≡ shr_z (y p) 2 → ⊥) → apart_by m rs ≤ sum_to (2 ^ m) (λ q. sq (shr_z (x q) 2 -ℤ shr_z (y q) 2))) → apart_by m (r ∷ rs) ≤ S
    go (inr o) ih =
        le_trans (min-le_left (2 ^ (m - r)) (4 * apart_by m rs))
        (le_trans (belongs-distance r m fit.0 (λ t. mod_z (x t) 2) (λ t. mod_z (y t) 2) cx.0 cy.0 o.0 o.1 (λ e. omega (arith, o.2, e)))
        (sum-le (2 ^ m) (λ t. (mod_z (x t) 2 + mod_z (y t) 2) % 2) (λ t. sq (x t -ℤ y t)) (λ t. parity-sq (x t) (y t))))
    go (inl all) ih =
        let e : S ≡ 4 * sum_to (2 ^ m) (λ q. sq (shr_z (x q) 2 -ℤ shr_z (y q) 2)) =
        sum-ext (2 ^ m) (λ q l. ap sq (double-diff (x q) (y q) (same q l)) ∙ sq-double (shr_z (x q) 2 -ℤ shr_z (y q) 2))
        ∙ sum-times (2 ^ m) 4 (λ q. sq (shr_z (x q) 2 -ℤ shr_z (y q) 2)) in
        le_trans (min-le_right (2 ^ (m - r)) (4 * apart_by m rs)) (omega (arith, ih (λ f. ne (whole f))))
      where
        same : (q : ℕ) → q < 2 ^ m → mod_z (x q) 2 ≡ mod_z (y q) 2
        same q l = omega (arith, all q l, mod_z-lt (x q) 2 (omega arith), mod_z-lt (y q) 2 (omega arith))

        whole : shr_z (x p) 2 ≡ shr_z (y p) 2 → x p ≡ y p
        whole f = eq! (` (x p)) (` (y p)) (omega (
          arith,
          eq? (` (x p) ⊖ ` (y p)) (# 2 ⊗ (` (shr_z (x p) 2) ⊖ ` (shr_z (y p) 2))) (double-diff (x p) (y p) (same p h)),
          eq? (` (shr_z (x p) 2)) (` (shr_z (y p) 2)) f,
        ))
