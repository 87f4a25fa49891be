-- one coordinate: among the numbers that differ from x by multiples of 2M, the first by energy and then by value
use mathlib.Core.Path.{◌≡◌, refl, ap}
use mathlib.Core.Logic.{◌⊎◌, inl, inr}
use Prim.Native.Nat.{ℕ, zero, suc, ◌+◌, ◌*◌, ◌<◌, ◌≤◌}
use native.Mathlib.Nat.{mul-le-mul, eq-or-lt_of_le}
use native.Mathlib.Omega.{arith}
use lib.IntN.{ℤ, pos, negsuc, ◌+ℤ◌, ◌-ℤ◌, ◌*ℤ◌, nat_abs}
use lib.Signed.{◌≤ℤ◌, shr_z}
use Rattle.integers.proofs.Zed.{`◌, #◌, ◌⊕◌, ◌⊖◌, ◌⊗◌, ⊝◌, up, down, eq!, le!, eq?, ud-le}
use Rattle.integers.proofs.Floor.{mod_z-lt, div-mod}
use Rattle.integers.specs.Integer.{mod_z}
use Rattle.e8.specs.Energy.{sq}
use Rattle.e8.specs.Least.{cent}

-- in [−M, M)
pub record Range (M : ℕ) (c : ℤ) : Type 0 where
  pub low : down c ≤ up c + M
  pub high : up c < down c + M

pub range-abs : (M : ℕ) (c : ℤ) → Range M c → nat_abs c ≤ M
range-abs M (pos n) r = omega (arith, r.high)
range-abs M (negsuc n) r = omega (arith, r.low)

pub turns : ℕ → ℤ → ℤ
turns M x = shr_z (x +ℤ pos M) (2 * M)

pub cent-is : (M : ℕ) (x : ℤ) → 0 < M → cent M x ≡ x -ℤ pos M *ℤ (pos 2 *ℤ turns M x)
unfolding cent turns
cent-is M x h =
    let q : ℤ = shr_z (x +ℤ pos M) (2 * M) in
    let r : ℕ = mod_z (x +ℤ pos M) (2 * M) in
    eq! (# r ⊖ # M) (` x ⊖ # M ⊗ (# 2 ⊗ ` q)) (omega (arith, eq? (` x ⊕ # M) (# (2 * M) ⊗ ` q ⊕ # r) (div-mod (x +ℤ pos M) (2 * M) (omega arith))))

pub cent-range : (M : ℕ) (x : ℤ) → 0 < M → Range M (cent M x)
unfolding cent
cent-range M x h =
    let r : ℕ = mod_z (x +ℤ pos M) (2 * M) in
    let k : r < 2 * M = mod_z-lt (x +ℤ pos M) (2 * M) (omega arith) in
    let e : up (pos r -ℤ pos M) + M ≡ r + down (pos r -ℤ pos M) = omega (arith, eq? (` (pos r -ℤ pos M)) (# r ⊖ # M) refl) in
    record { low = omega arith; high = omega arith }

-- ---- c comes first
abbrev pub First : ℤ → ℤ → Type 0
First c z = (sq c < sq z) ⊎ ((sq c ≡ sq z) × (c ≤ℤ z))

sq-lt : (a b : ℕ) → a < b → a * a < b * b
sq-lt a b h = omega (arith, mul-le-mul h h)

less : (c z : ℤ) → nat_abs c < nat_abs z → First c z
unfolding sq
less c z h = inl (sq-lt (nat_abs c) (nat_abs z) h)

least : (c z : ℤ) → nat_abs c ≤ nat_abs z → c ≤ℤ z → First c z
unfolding sq
least c z h k = elim (eq-or-lt_of_le h) [ inl e ↦ inr (ap (λ (n : ℕ). n * n) e, k) | inr l ↦ less c z l ]

pub first : (M : ℕ) (c z k : ℤ) → Range M c → z ≡ c -ℤ pos M *ℤ (pos 2 *ℤ k) → First c z
first M c z (pos zero) r e = inr (ap sq {x = c} {y = z} (eq! (` c) (` z) (omega (arith, f))), le! (` c) (` z) (omega (arith, f)))
  where
    f : up z + down c ≡ up c + down z
    f = omega (arith, eq? (` z) (` c ⊖ # M ⊗ (# 2 ⊗ # 0)) e)
first M c (pos z) (pos (suc k)) r e = absurd (omega (arith, r.low, r.high, eq? (` (pos z)) (` c ⊖ # M ⊗ (# 2 ⊗ # (suc k))) e))
first M (pos c) (negsuc z) (pos (suc k)) r e = less (pos c) (negsuc z)
    (omega (arith, r.low, r.high, eq? (` (negsuc z)) (` (pos c) ⊖ # M ⊗ (# 2 ⊗ # (suc k))) e))
first M (negsuc c) (negsuc z) (pos (suc k)) r e = less (negsuc c) (negsuc z)
    (omega (arith, r.low, r.high, eq? (` (negsuc z)) (` (negsuc c) ⊖ # M ⊗ (# 2 ⊗ # (suc k))) e))
first M c (negsuc z) (negsuc k) r e = absurd (omega (arith, r.low, r.high, eq? (` (negsuc z)) (` c ⊖ # M ⊗ (# 2 ⊗ ⊝ # (suc k))) e))
first M (pos c) (pos z) (negsuc k) r e = less (pos c) (pos z) (omega (arith, r.low, r.high, eq? (` (pos z)) (` (pos c) ⊖ # M ⊗ (# 2 ⊗ ⊝ # (suc k))) e))
first M (negsuc c) (pos z) (negsuc k) r e = least (negsuc c) (pos z)
    (omega (arith, r.low, r.high, eq? (` (pos z)) (` (negsuc c) ⊖ # M ⊗ (# 2 ⊗ ⊝ # (suc k))) e)) (ud-le (negsuc c) (pos z) (omega arith))
