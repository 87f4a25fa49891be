-- What fits on the way to a multiple of 2^k and to a remainder
use mathlib.Core.Path.{◌≡◌, ◌∙◌, ap}
use Prim.Native.Nat.{ℕ, suc, ◌+◌, ◌*◌, ◌-◌, ◌^◌, ◌%◌, ◌<◌, ◌≤◌}
use native.Mathlib.Nat.{pow-succ', mul-le-mul_left, mod-eq_of_lt}
use native.Mathlib.Numerals.{add-one}
use native.Mathlib.Omega.{arith}
use lib.Pow.{pow_mono, pow_pos}
use lib.IntN.{ℤ, pos, negsuc, ◌-ℤ◌, ◌*ℤ◌, nat_abs}
use lib.Signed.{shr_z}
use mir.Syntax.{w32}
use mir.Val.{SFits, to_z, of_z}
use mir.Facts.{to_z_pos, to_z-neg}
use Rattle.integers.specs.Integer.{mod_z}
use Rattle.integers.proofs.Zed.{`◌, #◌, ◌⊕◌, ◌⊖◌, ◌⊗◌, P, N, eq!, eq?, sfits!, abs-ud, tz}
use Rattle.integers.proofs.Floor.{mod_z-lt, div-mod}
use Rattle.coordinates.proofs.Size.{fits}

-- shifted up, where nothing is lost
shifted : (q : ℤ) (p : ℕ) → 0 < p → nat_abs q * p < 2 ^ 31 → to_z w32 (of_z w32 q * p % 4294967296) ≡ q *ℤ pos p
shifted (pos n) p h l =
    let e : n * p % 4294967296 ≡ n * p = mod-eq_of_lt (omega arith) in
    ap (to_z w32) e ∙ to_z_pos w32 (omega arith)
shifted (negsuc n) p h l =
    let m : ℕ = suc n * p in
    let low : suc n * 1 ≤ m = mul-le-mul_left (suc n) h in
    let back : 4294967296 - suc n + suc n ≡ 4294967296 = omega arith in
    let e : (4294967296 - suc n) * p % 4294967296 ≡ 4294967296 - suc (m - 1) = omega (arith, ap (λ (i : ℕ). i * p) back) in
    ap (to_z w32) e ∙ to_z-neg w32 (m - 1) (omega arith) ∙ eq! (` (negsuc (m - 1))) (` (negsuc n) ⊗ # p) (omega arith)

module _ (k : ℕ) (z : ℤ) (small : k ≤ 9) (size : nat_abs z ≤ 2 ^ 30) where
  M-pos : 0 < 2 ^ k
  M-pos = pow_pos k

  M-small : 2 ^ k ≤ 2 ^ 9
  M-small = pow_mono {j = 9} small

  abbrev q : ℤ
  q = shr_z z (2 ^ k)

  cut : P (` z) + N (# (2 ^ k) ⊗ ` q ⊕ # (mod_z z (2 ^ k))) ≡ P (# (2 ^ k) ⊗ ` q ⊕ # (mod_z z (2 ^ k))) + N (` z)
  cut = eq? (` z) (# (2 ^ k) ⊗ ` q ⊕ # (mod_z z (2 ^ k))) (div-mod z (2 ^ k) M-pos)

  pub shifted-quotient : to_z w32 (of_z w32 q * 2 ^ k % 4294967296) ≡ z -ℤ pos (mod_z z (2 ^ k))
  shifted-quotient = shifted q (2 ^ k) M-pos (go q cut) ∙ eq! (` q ⊗ # (2 ^ k)) (` z ⊖ # (mod_z z (2 ^ k))) (omega (arith, cut))
    where
      go : (y : ℤ) → P (` z) + N (# (2 ^ k) ⊗ ` y ⊕ # (mod_z z (2 ^ k))) ≡ P (# (2 ^ k) ⊗ ` y ⊕ # (mod_z z (2 ^ k))) + N (` z) → nat_abs y * 2 ^ k < 2 ^ 31
      go (pos n) e = omega (arith, e, size, abs-ud z)
      go (negsuc n) e = omega (arith, e, size, abs-ud z, mod_z-lt z (2 ^ k) M-pos, M-small)

  pub floor-fits : SFits w32 (z -ℤ pos (mod_z z (2 ^ k)))
  floor-fits =
      let l = mod_z-lt z (2 ^ k) M-pos in
      sfits! w32 (` z ⊖ # (mod_z z (2 ^ k))) (omega (arith, l, M-small, abs-ud z, size)) (omega (arith, l, M-small, abs-ud z, size))

  pub remainder_is : z -ℤ (z -ℤ pos (mod_z z (2 ^ k))) ≡ pos (mod_z z (2 ^ k))
  remainder_is = eq! (` z ⊖ (` z ⊖ # (mod_z z (2 ^ k)))) (# (mod_z z (2 ^ k))) (omega arith)

  pub fits-remainder : SFits w32 (pos (mod_z z (2 ^ k)))
  fits-remainder = sfits! w32 (# (mod_z z (2 ^ k))) (omega (arith, mod_z-lt z (2 ^ k) M-pos, M-small)) (omega arith)

-- a number and the multiple of m next below, as it is read: what lies between them, either way
pub apart_fits : (z r : ℤ) (m : ℕ) → nat_abs z ≤ 2 ^ 30 → r ≡ z -ℤ pos (mod_z z m) → 0 < m → m ≤ 2 ^ 9
    → SFits w32 (z -ℤ to_z w32 (of_z w32 r)) × SFits w32 (to_z w32 (of_z w32 r) -ℤ z)
apart_fits z r m size e some small =
    let l = mod_z-lt z m some in
    let low : ℤ = z -ℤ pos (mod_z z m) in
    let f : SFits w32 low = sfits! w32 (` z ⊖ # (mod_z z m)) (omega (arith, l, small, abs-ud z, size)) (omega (arith, l, small, abs-ud z, size)) in
    let y : ℤ = to_z w32 (of_z w32 r) in
    let d = eq? (` y) (` z ⊖ # (mod_z z m)) (tz e f) in (
      sfits! w32 (` z ⊖ ` y) (omega (arith, l, small, d)) (omega (arith, l, small, d)),
      sfits! w32 (` y ⊖ ` z) (omega (arith, l, small, d)) (omega (arith, l, small, d)),
    )

-- ---- powers of two

pub double : (k : ℕ) → 2 ^ (k + 1) ≡ 2 * 2 ^ k
double k = simp (add-one, pow-succ')

pub quadruple : (k : ℕ) → 2 ^ (k + 2) ≡ 4 * 2 ^ k
quadruple k = ap (λ (n : ℕ). 2 ^ n) {x = k + 2} {y = k + 1 + 1} (omega arith) ∙ double (k + 1) ∙ omega (arith, double k)

-- the scales that the code takes: M = 2·H is at most 2^7
pub record Scale (H : ℕ) : Type 0 where
  pub some : 0 < H
  pub small : H ≤ 2 ^ 6

pub scale : (k : ℕ) → k ≤ 6 → Scale (2 ^ k)
scale k low = record { some = pow_pos k; small = pow_mono {j = 6} low }

pub power-fits : (k : ℕ) → k ≤ 9 → SFits w32 (pos (2 ^ k))
power-fits k h = fits (pos (2 ^ k)) (omega (arith, pow_mono {i = k} {j = 9} h))
