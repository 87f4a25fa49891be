use Rattle.std.proofs.Common.{◌-◌, ◌/◌, length}
use Rattle.test_vectors.specs.Vector.{marked_frame}
use Rattle.test_vectors.proofs.Moving.{first-moved}
use Rattle.test_vectors.proofs.Judging.{both-points}
use Rattle.test_vectors.proofs.checks.hold_points.Goals as goal

pub returns : goal.returns
returns c =
    let s = c.args in
    let f = s.frame.now in
    let m = c.scale-m.result in
    both-points s.u s.message.now f s.energies s.tally.now c.scale-m.ensures
    (first-moved 0 2 m f marked_frame c.moved-whole.result c.moved-whole.ensures.0)
    (first-moved (length f - 8) (length f) (m / 2) f marked_frame c.moved-half.result c.moved-half.ensures.0)
    c.judge.ensures c.equivalent.ensures c.judge-2.ensures c.equivalent-2.ensures
