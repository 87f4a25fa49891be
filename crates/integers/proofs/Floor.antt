-- the floor quotient and the remainder, which is never negative, by a divisor m > 0
use mathlib.Core.Path.{◌≡◌, sym, ◌∙◌, ap}
use Prim.Native.Nat.{ℕ, suc, ◌+◌, ◌*◌, ◌-◌, ◌<◌, ◌/◌, ◌%◌}
use native.Mathlib.Nat.{div-add-mod', mod-lt, mul-le-mul_left}
use native.Mathlib.Omega.{arith}
use lib.Arith.{digits_div}
use lib.IntN.{ℤ, pos, negsuc, ◌+ℤ◌, ◌*ℤ◌}
use lib.Signed.{shr_z}
use Rattle.integers.specs.Integer.{mod_z}
use Rattle.integers.proofs.Zed.{`◌, #◌, ◌⊕◌, ◌⊗◌, up, down, eq!, eq?, eq-ud, ud-eq}

pub div-mod : (z : ℤ) (m : ℕ) → 0 < m → z ≡ pos m *ℤ shr_z z m +ℤ pos (mod_z z m)
div-mod (pos a) m h = eq! (` (pos a)) (# m ⊗ ` (pos (a / m)) ⊕ # (a % m)) (omega (arith, div-add-mod' a m))
div-mod (negsuc a) m h = eq! (` (negsuc a)) (# m ⊗ ` (negsuc (a / m)) ⊕ # (m - suc (a % m))) (omega (arith, div-add-mod' a m, mod-lt a h))

pub mod_z-lt : (z : ℤ) (m : ℕ) → 0 < m → mod_z z m < m
mod_z-lt (pos a) m h = mod-lt a h
mod_z-lt (negsuc a) m h = omega arith

same_digits : (m a b r s : ℕ) → r < m → s < m → m * a + r ≡ m * b + s → a ≡ b
same_digits m a b r s h k e = sym (digits_div a h) ∙ ap (λ (x : ℕ). x / m) {x = a * m + r} {y = b * m + s} (omega arith) ∙ digits_div b k

pub digits-q : (m : ℕ) (q p : ℤ) (r s : ℕ) → r < m → s < m → pos m *ℤ q +ℤ pos r ≡ pos m *ℤ p +ℤ pos s → q ≡ p
digits-q m q p r s h k e = ud-eq q p (same_digits m (up q + down p) (up p + down q) r s h k (omega (arith, eq? (# m ⊗ ` q ⊕ # r) (# m ⊗ ` p ⊕ # s) e)))

pub digits-r : (m : ℕ) (q p : ℤ) (r s : ℕ) → r < m → s < m → pos m *ℤ q +ℤ pos r ≡ pos m *ℤ p +ℤ pos s → r ≡ s
digits-r m q p r s h k e = omega (arith, eq? (# m ⊗ ` q ⊕ # r) (# m ⊗ ` p ⊕ # s) e, ap (λ (x : ℕ). m * x) (eq-ud (digits-q m q p r s h k e)))

-- q and r are determined by z and m
pub quot_is : (z : ℤ) (m : ℕ) (q : ℤ) (r : ℕ) → r < m → z ≡ pos m *ℤ q +ℤ pos r → shr_z z m ≡ q
quot_is z m q r h e = digits-q m (shr_z z m) q (mod_z z m) r (mod_z-lt z m (omega arith)) h (sym (div-mod z m (omega arith)) ∙ e)

pub rem_is : (z : ℤ) (m : ℕ) (q : ℤ) (r : ℕ) → r < m → z ≡ pos m *ℤ q +ℤ pos r → mod_z z m ≡ r
rem_is z m q r h e = digits-r m (shr_z z m) q (mod_z z m) r (mod_z-lt z m (omega arith)) h (sym (div-mod z m (omega arith)) ∙ e)

-- a multiple leaves nothing, and what leaves nothing is a multiple
pub multiple-rem : (z : ℤ) (m : ℕ) (q : ℤ) → 0 < m → z ≡ pos m *ℤ q → mod_z z m ≡ 0
multiple-rem z m q h e = rem_is z m q 0 h (eq! (` z) (# m ⊗ ` q ⊕ # 0) (omega (arith, eq? (` z) (# m ⊗ ` q) e)))

pub rem-multiple : (z : ℤ) (m : ℕ) → 0 < m → mod_z z m ≡ 0 → z ≡ pos m *ℤ shr_z z m
rem-multiple z m h e = eq! (` z) (# m ⊗ ` (shr_z z m)) (omega (arith, e, eq? (` z) (# m ⊗ ` (shr_z z m) ⊕ # (mod_z z m)) (div-mod z m h)))

-- ---- a divisor in two steps, and the divisor 1

pub shr_one : (z : ℤ) → shr_z z 1 ≡ z
shr_one z = quot_is z 1 z 0 (omega arith) (eq! (` z) (# 1 ⊗ ` z ⊕ # 0) (omega arith))

pub shr-shr : (z : ℤ) (m n : ℕ) → 0 < m → 0 < n → shr_z (shr_z z m) n ≡ shr_z z (m * n)
shr-shr z m n hm hn =
    let q : ℤ = shr_z z m in
    let r : ℕ = mod_z z m in
    let p : ℤ = shr_z q n in
    let e : ℕ = mod_z q n in
    let le : e < n = mod_z-lt q n hn in
    let lr : r < m = mod_z-lt z m hm in
    let l : m * e + r < m * n = omega (arith, mul-le-mul_left m le) in
    sym (quot_is z (m * n) p (m * e + r) l
    (eq! (` z) (# (m * n) ⊗ ` p ⊕ # (m * e + r))
    (omega (
      arith,
      eq? (` z) (# m ⊗ ` q ⊕ # r) (div-mod z m hm),
      ap (λ (x : ℕ). m * x) (eq? (` q) (# n ⊗ ` p ⊕ # e) (div-mod q n hn)),
    ))))
