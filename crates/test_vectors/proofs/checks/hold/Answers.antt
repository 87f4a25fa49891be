-- Judgement after judgement. Assumes nothing.
use Rattle.std.proofs.Common.{arith}
use Rattle.test_vectors.proofs.Judging.{too_short, too_long, with_blocks}
use Rattle.test_vectors.proofs.checks.hold.Goals as goal
use Rattle.test_vectors.proofs.checks.hold.Goals.{then-frame-lt8-via-then-frame-lt8, then-frame-lt8-via-else-frame-lt8+then-frame-gt64}

pub returns-then-frame-lt8 : goal.returns-then-frame-lt8
returns-then-frame-lt8 c =
    let s = c.args in
    elim c.then-frame-lt8.branch [
      | then-frame-lt8-via-then-frame-lt8 w ↦
          too_short s.u s.message.now s.frame.now s.energies s.tally.now c.judge.ensures c.sends.ensures c.judge-2.ensures
          c.reads.ensures c.judge-3.ensures c.reads-2.ensures c.hold_other.ensures (omega arith)
      | then-frame-lt8-via-else-frame-lt8+then-frame-gt64 w ↦
          too_long s.u s.message.now s.frame.now s.energies s.tally.now c.judge.ensures c.sends.ensures c.judge-2.ensures
          c.reads.ensures c.judge-3.ensures c.reads-2.ensures c.hold_other.ensures (omega arith) (omega arith)
    ]

pub returns : goal.returns
returns c =
    let s = c.args in
    with_blocks s.u s.message.now s.frame.now s.energies s.tally.now c.judge.ensures c.sends.ensures c.judge-2.ensures
    c.reads.ensures c.judge-3.ensures c.reads-2.ensures c.hold_other.ensures (omega arith) (omega arith) c.hold_points.ensures c.hold_broken.ensures
