-- A squared distance in parts of 1 / 65,536, as f64: nothing is rounded. Assumes nothing.
use Prim.Native.Nat.{ℕ, ◌^◌, ◌<◌}
use mathlib.Core.Path.{◌≡◌, refl, ap, ◌∙◌}
use mathlib.Core.Bool.{false}
use native.Mathlib.Omega.{arith}
use lib.Count.{count_trailing_zeros}
use lib.IntN.{pos}
use lib.Ieee.{fin, binary64, div, of_int, round, of_bits, of_fields, odd}
use lib.Ieee.Exact.{HasValue}
use lib.Ieee.Back.{round_whole}
use Rattle.floats.proofs.Exact.{parts-exact, div-whole}
use Rattle.near_reading.specs.Answer.{in_parts, zero64}

const-65536 : of_bits binary64 4679240012837945344 ≡ fin false 1 (pos 16)
unfolding of_bits of_fields odd count_trailing_zeros
const-65536 = refl

-- the quotient of the code
pub parts-quotient : (d : ℕ) → d < 2 ^ 32 → div binary64 (of_int binary64 (pos d)) (of_bits binary64 4679240012837945344) ≡ in_parts d
unfolding in_parts of_int
parts-quotient d h =
    ap (div binary64 (round binary64 false d 1)) const-65536
    ∙ div-whole (round binary64 false d 1) (fin false 1 (pos 16)) d 65536 (omega arith) (round_whole binary64 false d (omega arith)) (refl, refl)

-- it is the fraction d / 65,536 exactly
pub parts-value : (d : ℕ) → d < 2 ^ 32 → HasValue (in_parts d) false d 65536
unfolding in_parts
parts-value d h = parts-exact d 16 (omega arith) (omega arith)

-- no parts are 0.0
pub no-parts : in_parts 0 ≡ zero64
unfolding in_parts round
no-parts = refl
