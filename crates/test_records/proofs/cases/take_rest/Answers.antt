-- The tally grows by the judgements of the case, or by none. Assumes nothing.
use Rattle.test_tally.proofs.Counted.{as_it_was, by_one}
use Rattle.test_records.proofs.cases.take_rest.Goals as goal

pub returns-then-m-gt50 : goal.returns-then-m-gt50
returns-then-m-gt50 c = as_it_was c.args.tally.now

pub returns-then-not-fill : goal.returns-then-not-fill
returns-then-not-fill c = as_it_was c.args.tally.now

pub returns-in-2 : goal.returns-in-2
returns-in-2 c = by_one 4 _ c.hold.ensures

pub returns-in_default : goal.returns-in_default
returns-in_default c = as_it_was c.args.tally.now
