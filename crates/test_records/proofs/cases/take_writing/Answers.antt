-- The tally grows by two judgements, or by none. Assumes nothing.
use Rattle.std.proofs.Common.{refl}
use Rattle.test_tally.proofs.Counted.{as_it_was, grown-more, by_one}
use Rattle.test_records.proofs.cases.take_writing.Goals as goal

pub returns-then-l-gt1200 : goal.returns-then-l-gt1200
returns-then-l-gt1200 c = as_it_was c.args.tally.now

pub returns : goal.returns
returns c = grown-more (by_one 0 _ refl) (by_one 1 _ c.hold.ensures.tally)
