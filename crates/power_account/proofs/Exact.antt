-- Power as f64 rounds nothing. Assumes nothing.
use Prim.Native.Nat.{ℕ, ◌^◌}
use mathlib.Core.Path.{sym, subst}
use mathlib.Core.Bool.{false}
use lib.Ieee.{Float}
use lib.Ieee.Exact.{HasValue}
use Rattle.floats.proofs.Exact.{quotient-exact}
use Rattle.power_account.specs.Power.{Measured, power_of}

-- the power is the fraction energy / n exactly, for a length that is a power of two
pub power-exact : (energy n : ℕ) → Measured energy n → HasValue (power_of energy n) false energy n
unfolding power_of
power-exact energy n f =
    let q = quotient-exact energy f.exponent f.small f.short in
    rw f.is (subst (λ (x : Float). HasValue x false energy (2 ^ f.exponent)) (sym q.0) q.1)
