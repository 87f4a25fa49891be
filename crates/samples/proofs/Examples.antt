-- The samples worked by hand are met by the definitions, by computing. Assumes nothing.
use mathlib.Core.Path.{refl}
use lib.Count.{count_trailing_zeros}
use lib.Ieee.{of_bits, of_fields, odd}
use Rattle.samples.specs.Sample.{is_fit, sample_in_256ths}
use Rattle.samples.specs.Cases.{Cases}

pub cases : Cases
unfolding is_fit sample_in_256ths of_bits of_fields odd count_trailing_zeros
cases = record { fit = refl; counted = refl; no-numbers = refl; too_large_lem = refl; not-whole = refl }
