-- What is left to show of `power`: that the length is a float, and the quotient exact. Assumes nothing.
use Prim.Native.Nat.{◌^◌}
use native.Mathlib.Omega.{arith}
use mathlib.Core.Path.{refl}
use lib.Dec.{le→leb}
use lib.Ieee.{in_float}
use lib.Pow.{pow_mono}
use Rattle.power_account.specs.Power.{power_of}
use Rattle.power_account.proofs.Exact.{power-exact}
use Rattle.power_account.proofs.power.Goals as goal

pub int_to_float-d : goal.int_to_float-d
unfolding in_float
int_to_float-d c =
    let f = c.requires in
    le→leb c.args.n (2 ^ 53) (rw f.is (pow_mono {i = f.exponent} {j = 53} (omega (arith, f.short))))

pub returns : goal.returns
unfolding power_of
returns c = (refl, power-exact c.args.energy c.args.n c.requires)
