use Rattle.test_tally.proofs.Counted.{as_it_was, by_one}
use Rattle.test_ways.proofs.record.take.Goals as goal

pub returns : goal.returns
returns c = by_one _ _ c.judge.ensures

pub returns-then-m-gt47 : goal.returns-then-m-gt47
returns-then-m-gt47 c = as_it_was c.args.tally.now
