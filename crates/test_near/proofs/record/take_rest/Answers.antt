use Rattle.std.proofs.Common.{refl}
use Rattle.test_tally.proofs.Counted.{as_it_was, grown-more, by_one}
use Rattle.test_near.proofs.record.take_rest.Goals as goal

pub returns-then-n-gt68 : goal.returns-then-n-gt68
returns-then-n-gt68 c = as_it_was c.args.tally.now

pub returns-then-not-fill : goal.returns-then-not-fill
returns-then-not-fill c = as_it_was c.args.tally.now

pub returns : goal.returns
returns c = grown-more (by_one 0 _ refl) (by_one 1 _ c.hold.ensures)
