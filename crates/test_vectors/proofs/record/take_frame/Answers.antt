use Rattle.test_tally.proofs.Counted.{as_it_was}
use Rattle.test_vectors.proofs.record.take_frame.Goals as goal

pub returns-then-n-gt64 : goal.returns-then-n-gt64
returns-then-n-gt64 c = as_it_was c.args.tally.now

pub returns-then-not-fill : goal.returns-then-not-fill
returns-then-not-fill c = as_it_was c.args.tally.now

pub returns-then-not-fill-2 : goal.returns-then-not-fill-2
returns-then-not-fill-2 c = as_it_was c.args.tally.now

pub returns : goal.returns
returns c = record { judgements = _; counted = c.hold.ensures }
