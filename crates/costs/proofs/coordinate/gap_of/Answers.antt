use Rattle.std.proofs.Common.{refl, ap, ◌∙◌, ℤ, pos, ◌+ℤ◌}
use Rattle.integers.proofs.Zed.{tz}
use Rattle.costs.proofs.Lifted.{half-gap}
use Rattle.costs.proofs.coordinate.gap_of.Goals as goal

pub returns : goal.returns
returns c =
    let a = c.args in
    c.square_from.ensures
    ∙ half-gap a.t c.requires.0 c.lifted.result a.c (c.lifted.ensures ∙ ap (λ (z : ℤ). z +ℤ pos 65536) (tz refl c.ranges.t)) c.requires.1 a.half c.requires.2
