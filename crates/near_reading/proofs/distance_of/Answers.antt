use Rattle.std.proofs.Common.{sym, subst, false}
use Rattle.std.specs.Prelude.{Float}
use Rattle.std.specs.Float.Ieee.Exact.{HasValue}
use Rattle.near_reading.proofs.Parts.{parts-quotient, parts-value}
use Rattle.near_reading.proofs.distance_of.Goals as goal

pub returns : goal.returns
returns c =
    let d = c.args.cost in
    let e = parts-quotient d c.ranges.cost.fits in
    rw c.from.ensures (e, subst (λ (x : Float). HasValue x false d 65536) (sym e) (parts-value d c.ranges.cost.fits))
