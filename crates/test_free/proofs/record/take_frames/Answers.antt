-- The tally grows by the judgements of the frames that are there, and by those of the sendings. Assumes nothing.
use Rattle.std.proofs.Common.{arith}
use Rattle.test_tally.proofs.Counted.{grown-more}
use Rattle.test_free.proofs.Judging.{room}
use Rattle.test_free.proofs.record.take_frames.Goals as goal

pub overflow_mul-all-2 : goal.overflow_mul-all-2
overflow_mul-all-2 c = let s = c.args in omega (arith, room s.n s.p c.requires.1 c.requires.2)

pub returns-then-got-all : goal.returns-then-got-all
returns-then-got-all c = record { judgements = _; counted = c.hold_frames.ensures }

pub returns : goal.returns
returns c = grown-more (record { judgements = _; counted = c.hold_frames.ensures }) (record { judgements = _; counted = c.hold_sendings.ensures })
