-- What was taken so far, with the rest taken from the rest, is what all of it becomes. Assumes nothing.
use Rattle.test_data.proofs.Taken.{Taking}
use Rattle.test_data.specs.Held.{taken_from}
use Rattle.test_data.proofs.frame.take_from.Given as goal

abbrev pub invariant-loop-z : goal.invariant-loop-z
invariant-loop-z g l = Taking g.T.OfFour.of_four (taken_from g.T.OfFour.of_four l.bytes l.initial.out) l.out l.rest l.z-index
