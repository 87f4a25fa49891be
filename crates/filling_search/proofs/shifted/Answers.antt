-- The shifted number is small, and so is the difference.
use Rattle.std.proofs.Common.{◌≡◌, ◌*◌, ◌%◌, ◌^◌, ◌≤◌, ap, ap₂, ◌∙◌, pos, ◌-ℤ◌, to_z, w32, arith}
use native.Mathlib.Nat.{mul-le-mul}
use lib.Pow.{pow_mono}
use mir.Facts.{to_z_pos}
use Rattle.integers.proofs.Zed.{tz}
use Rattle.bits.proofs.Digits.{moved_up}
use Rattle.coordinates.proofs.Size.{fits, less-abs}
use Rattle.coordinates.proofs.Reading.{plain}
use Rattle.filling_search.proofs.shifted.Goals as goal

pub returns-then-off : goal.returns-then-off
returns-then-off c =
    let a = c.args.a in
    let n = c.args.n in
    let z = c.args.z in
    let few : 2 ^ a ≤ 8 = pow_mono {j = 3} c.requires.0 in
    let small : 2 ^ a * n ≤ 8 * 32 = mul-le-mul {n₁ = 2 ^ a} {m₁ = n} {n₂ = 8} {m₂ = 32} few (omega arith) in
    let up : n * 2 ^ a % 2 ^ 32 ≡ 2 ^ a * n = moved_up n a 5 32 c.requires.1 (omega arith) in
    let number : to_z w32 (n * 2 ^ a % 2 ^ 32) ≡ pos (2 ^ a * n) = to_z_pos w32 {n = n * 2 ^ a % 2 ^ 32} (omega arith) ∙ ap pos up in
    rw c.if-off.true
    (tz (ap₂ ◌-ℤ◌ (plain z (omega (arith, c.requires.2))) number)
    (fits (z -ℤ pos (2 ^ a * n)) (omega (arith, less-abs z (pos (2 ^ a * n)) (2 ^ 9) 256 c.requires.2 small))))
