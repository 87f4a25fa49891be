-- The sum, in 256ths, without 12,582,912.
use Rattle.std.proofs.Common.{◌≡◌, refl, ap, ◌∙◌, ℤ, pos, ◌-ℤ◌, w32, to_z, of_z, true, arith}
use lib.Dec.{T}
use lib.Ieee.{Float, add, mul, binary32, in_signed, to_signed, of_bits}
use lib.Ieee.Casts.{to_signed_in}
use Rattle.integers.proofs.Zed.{tz, sfits-to}
use Rattle.coordinates.proofs.Size.{fits}
use Rattle.samples.specs.Sample.{is_fit, sample_in_256ths}
use Rattle.samples.proofs.Constants.{const-middle, const-256}
use Rattle.samples.proofs.Whole.{fit_small}
use Rattle.samples.proofs.Moved.{moved-count}
use Rattle.samples.proofs.to_256ths.Goals as goal

abbrev y : Float → Float
y x = mul binary32 (add binary32 x (of_bits binary32 1195376640)) (of_bits binary32 1132462080)

module _ (x : Float) (fit : is_fit x ≡ true) where
  count : T (in_signed binary32 31 (y x)) × (to_signed 31 (y x) -ℤ pos 12582912 ≡ sample_in_256ths x)
  count = rw (const-middle, const-256) (moved-count x fit)

  result : to_z w32 (of_z w32 (to_signed 31 (y x))) -ℤ pos 12582912 ≡ sample_in_256ths x
  result = ap (λ (z : ℤ). z -ℤ pos 12582912) (tz {w = w32} {z = to_signed 31 (y x)} refl (record { sfits = to_signed_in 31 (y x) })) ∙ count.1

pub float_to_int-result : goal.float_to_int-result
float_to_int-result c = (count c.args.x c.requires).0

pub overflow_sub-result : goal.overflow_sub-result
overflow_sub-result c = let x = c.args.x in sfits-to (result x c.requires) (fits (sample_in_256ths x) (omega (arith, fit_small x c.requires)))

pub returns : goal.returns
returns c = let x = c.args.x in tz (result x c.requires) (fits (sample_in_256ths x) (omega (arith, fit_small x c.requires)))
