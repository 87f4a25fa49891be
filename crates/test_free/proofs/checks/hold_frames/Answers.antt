-- Frame i stands within the bytes, and its judgements are counted behind those before it. Assumes nothing.
use Rattle.std.proofs.Common.{◌+◌, ◌*◌, refl, length, arith}
use Rattle.test_tally.specs.Tally.{judged_all}
use Rattle.test_free.specs.Judged.{all_judgements}
use Rattle.test_free.proofs.Judging.{inside, record_is, one_more}
use Rattle.test_free.proofs.checks.hold_frames.Goals as goal

pub loop-i-init : goal.loop-i-init
unfolding judged_all all_judgements
loop-i-init c = refl

pub overflow_mul-a : goal.overflow_mul-a
overflow_mul-a c = let s = c.args in omega (arith, inside (length s.frames.now) (10 + 4 * s.n) c.loop-i.i c.loop-i-test.true)

pub loop-i-preserved : goal.loop-i-preserved
loop-i-preserved c =
    let s = c.args in
    one_more s.u s.message.now s.n c.loop-i.i s.frames.now s.tally.now c.loop-i.invariant (record_is s.n c.loop-i.i s.frames.now) c.hold_frame.ensures
