use Rattle.test_tally.proofs.Counted.{by_one}
use Rattle.test_free.proofs.CheckRecords40.cut.Goals as goal

pub returns : goal.returns
returns c = by_one 0 _ c.judge.ensures
