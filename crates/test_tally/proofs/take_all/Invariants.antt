-- So far the tally grew by judgements. Assumes nothing.
use Rattle.test_tally.specs.Tally.{GrownBy}
use Rattle.test_tally.proofs.take_all.Given as goal

abbrev pub invariant-loop-v : goal.invariant-loop-v
invariant-loop-v g l = GrownBy l.initial.tally l.tally
