use Rattle.test_tally.proofs.Counted.{as_it_was}
use Rattle.test_vectors.proofs.record.take_rest.Goals as goal

pub returns-then-m-gt46 : goal.returns-then-m-gt46
returns-then-m-gt46 c = as_it_was c.args.tally.now

pub returns-then-not-fill : goal.returns-then-not-fill
returns-then-not-fill c = as_it_was c.args.tally.now
