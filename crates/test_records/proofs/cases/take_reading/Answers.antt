-- The tally grows by two judgements, or by none. Assumes nothing.
use Rattle.std.proofs.Common.{refl}
use Rattle.test_tally.proofs.Counted.{as_it_was, grown-more, by_one}
use Rattle.test_records.proofs.cases.take_reading.Goals as goal

pub returns-then-n-gt68 : goal.returns-then-n-gt68
returns-then-n-gt68 c = as_it_was c.args.tally.now

pub returns-then-not-fill-2 : goal.returns-then-not-fill-2
returns-then-not-fill-2 c = as_it_was c.args.tally.now

pub returns : goal.returns
returns c = grown-more (by_one 2 _ refl) (by_one 3 _ c.hold.ensures.tally)
