use Rattle.std.proofs.Common.{◌≡◌, ◌≤◌, ap, ap₂, ◌∙◌, ℤ, pos, ◌-ℤ◌, ◌*ℤ◌, nat_abs, w32, to_z, arith}
use mir.Facts.{to_z_pos}
use Rattle.integers.proofs.Zed.{tz}
use Rattle.e8.specs.Energy.{sq}
use Rattle.coordinates.proofs.Size.{fits, sq-le, product-sq}
use Rattle.costs.proofs.Lifted.{abs-difference}
use Rattle.costs.proofs.coordinate.square_from.Goals as goal

-- the square of a difference is never negative
pub returns : goal.returns
unfolding sq
returns c =
    let e = c.args.e in
    let h = c.args.h in
    let z : ℤ = pos e -ℤ pos h in
    let small : nat_abs z ≤ 1024 = omega (arith, abs-difference e h) in
    let square : sq z ≤ 1048576 = sq-le (nat_abs z) 1024 small in
    let difference : to_z w32 e -ℤ to_z w32 h ≡ z = ap₂ ◌-ℤ◌ (to_z_pos w32 {n = e} (omega arith)) (to_z_pos w32 {n = h} (omega arith)) in
    ap nat_abs (tz (ap (λ (y : ℤ). y *ℤ y) (tz difference (fits z (omega arith))) ∙ product-sq z) (fits (pos (sq z)) (omega arith)))
