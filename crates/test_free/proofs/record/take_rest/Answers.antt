-- Without a whole record the tally stays. Assumes nothing.
use Rattle.test_tally.proofs.Counted.{as_it_was}
use Rattle.test_free.proofs.record.take_rest.Goals as goal

pub returns-then-m-gt48 : goal.returns-then-m-gt48
returns-then-m-gt48 c = as_it_was c.args.tally.now

pub returns-in_default : goal.returns-in_default
returns-in_default c = as_it_was c.args.tally.now
