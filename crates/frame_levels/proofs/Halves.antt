-- The lowest bit of a quotient of an i32, as the code takes it. Assumes nothing.
use Rattle.std.proofs.Common.{◌≡◌, ℕ, ◌%◌, ℤ, pos, negsuc, bit_and, w32, to_z, of_z, ap, ◌∙◌, refl, arith}
use Rattle.std.proofs.lemmas.Nat.{and_mask}
use lib.IntN.{nat_abs}
use lib.Signed.{shr_z, mag_shr}
use mir.Facts.{to_z-of_z, to_z_pos}
use mir.Val.{SFits}
use mir.ValLaws.{sfits_le}
use Rattle.integers.specs.Integer.{mod_z}
use Rattle.integers.proofs.Floor.{mod_z-lt}

-- a number in two's complement is even with the whole number
lowest : (q : ℤ) → SFits w32 q → of_z w32 q % 2 ≡ mod_z q 2
lowest (pos a) f = refl
lowest (negsuc a) f = omega (arith, f.sfits)

pub low-bit : (z : ℤ) (m : ℕ) → SFits w32 z → nat_abs (to_z w32 (bit_and (of_z w32 (shr_z (to_z w32 (of_z w32 z)) m)) 1)) ≡ mod_z (shr_z z m) 2
low-bit z m f =
    let q : ℤ = shr_z z m in
    let bit : bit_and (of_z w32 q) 1 ≡ mod_z q 2 = and_mask (of_z w32 q) 1 ∙ lowest q (sfits_le (mag_shr z m) f) in
    rw (to_z-of_z f, bit) (ap nat_abs (to_z_pos w32 {n = mod_z q 2} (omega (arith, mod_z-lt q 2 (omega arith)))))
