-- Sizes and squares of whole numbers: the parallelogram inequality. Assumes nothing.
use Prim.Native.Nat.{ℕ, suc, ◌+◌, ◌-◌, ◌*◌, ◌≤◌, ◌<◌}
use mathlib.Core.Path.{◌≡◌, refl, ap, ◌∙◌}
use native.Mathlib.Nat.{le_trans, mul-le-mul}
use native.Mathlib.Omega.{arith}
use native.Mathlib.Decide.{dec_le}
use lib.IntN.{ℤ, pos, negsuc, ◌-ℤ◌, ◌*ℤ◌, nat_abs}
use Rattle.integers.proofs.Zed.{`◌, ◌⊖◌, up, down, eq?, abs-le}
use Rattle.e8.specs.Energy.{sq}
use Rattle.e8.proofs.Negation.{abs_neg}

-- ---- sizes

pub le-abs : (z : ℤ) → (up z ≤ down z + nat_abs z) × (down z ≤ up z + nat_abs z)
le-abs (pos n) = (omega arith, omega arith)
le-abs (negsuc n) = (omega arith, omega arith)

abs-minus : (u v z : ℤ) → z ≡ u -ℤ v → nat_abs z ≤ nat_abs u + nat_abs v
abs-minus u v z e =
    let q = eq? (` z) (` u ⊖ ` v) e in
    abs-le z (nat_abs u + nat_abs v) (omega (arith, q, (le-abs u).0, (le-abs v).1)) (omega (arith, q, (le-abs u).1, (le-abs v).0))

abs-times : (c : ℕ) (z : ℤ) → nat_abs (pos c *ℤ z) ≡ c * nat_abs z
abs-times c (pos n) = refl
abs-times c (negsuc n) = abs_neg (pos (c * suc n))

-- ---- squares

twice-product : (m n : ℕ) → m * n + m * n ≤ m * m + n * n
twice-product m n = go (dec_le m n)
  where
    ordered : (a d : ℕ) → a * (a + d) + a * (a + d) ≤ a * a + (a + d) * (a + d)
    ordered a d = omega arith

    go : Dec (m ≤ n) → m * n + m * n ≤ m * m + n * n
    go (yes h) =
        let e : m + (n - m) ≡ n = omega arith in
        rw e at (ordered m (n - m))
    go (no h) =
        let e : n + (m - n) ≡ m = omega arith in
        omega (arith, (rw e at (ordered n (m - n))))

pub square-mono : (m n : ℕ) → m ≤ n → m * m ≤ n * n
square-mono m n h = mul-le-mul h h

pub root-lt : (m n : ℕ) → m * m < n * n → m < n
root-lt m n h = go (dec_le n m)
  where
    go : Dec (n ≤ m) → m < n
    go (yes l) = absurd (omega (arith, square-mono n m l))
    go (no l) = omega arith

pub sq-times : (c : ℕ) (z : ℤ) → sq (pos c *ℤ z) ≡ c * c * sq z
unfolding sq
sq-times c z = ap (λ (n : ℕ). n * n) (abs-times c z) ∙ omega arith

-- (u − v)² ≤ 2u² + 2v²
pub parallelogram : (u v z : ℤ) → z ≡ u -ℤ v → sq z ≤ 2 * sq u + 2 * sq v
unfolding sq
parallelogram u v z e = le_trans (square-mono (nat_abs z) (nat_abs u + nat_abs v) (abs-minus u v z e)) (omega (arith, twice-product (nat_abs u) (nat_abs v)))
