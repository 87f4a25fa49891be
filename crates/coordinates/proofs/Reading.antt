-- Numbers as a function's code reads them: what each reading is, and that it is in range
use mathlib.Core.Path.{◌≡◌, refl, sym, subst}
use Prim.Native.Nat.{ℕ, ◌^◌, ◌≤◌}
use native.Mathlib.Omega.{arith}
use lib.Pow.{pow_mono}
use lib.IntN.{ℤ, pos, nat_abs}
use mir.Syntax.{w32}
use mir.Val.{to_z, of_z}
use Rattle.integers.proofs.Zed.{tz}
use Rattle.coordinates.proofs.Size.{fits}
use Rattle.coordinates.proofs.Rest.{power-fits}

-- a signed number as a local holds it, and as it is read
abbrev pub read : ℤ → ℤ
read z = to_z w32 (of_z w32 z)

-- a number in range is read as it is
pub plain : (z : ℤ) → nat_abs z ≤ 2 ^ 30 → read z ≡ z
plain z h = tz refl (fits z h)

pub plain_size : (z : ℤ) (B : ℕ) → nat_abs z ≤ B → B ≤ 2 ^ 30 → nat_abs (read z) ≤ B
plain_size z B h b = subst (λ (y : ℤ). nat_abs y ≤ B) (sym (plain z (omega (arith, h, b)))) h

-- 2^k in a local
module _ (k : ℕ) (p : ℤ) (low : k ≤ 6) (e : p ≡ pos (2 ^ k)) where
  pub power-read : read p ≡ pos (2 ^ k)
  power-read = tz e (power-fits k (omega arith))

  pub power_size : nat_abs (read p) ≤ 2 ^ 7
  power_size = subst (λ (z : ℤ). nat_abs z ≤ 2 ^ 7) (sym power-read) (pow_mono {i = k} {j = 7} (omega arith))
