-- The constants of the code. Assumes nothing.
use mathlib.Core.Path.{◌≡◌, refl}
use mathlib.Core.Bool.{false}
use lib.Count.{count_trailing_zeros}
use lib.IntN.{pos}
use lib.Ieee.{Float, fin, binary32, of_bits, of_fields, odd}

-- 49,152, 49,024 and 49,280
abbrev pub middle : Float
middle = fin false 3 (pos 14)

abbrev pub least : Float
least = fin false 383 (pos 7)

abbrev pub most : Float
most = fin false 385 (pos 7)

pub const-middle : of_bits binary32 1195376640 ≡ middle
unfolding of_bits of_fields odd count_trailing_zeros
const-middle = refl

pub const-least : of_bits binary32 1195343872 ≡ least
unfolding of_bits of_fields odd count_trailing_zeros
const-least = refl

pub const-most : of_bits binary32 1195409408 ≡ most
unfolding of_bits of_fields odd count_trailing_zeros
const-most = refl

pub const-256 : of_bits binary32 1132462080 ≡ fin false 1 (pos 8)
unfolding of_bits of_fields odd count_trailing_zeros
const-256 = refl
