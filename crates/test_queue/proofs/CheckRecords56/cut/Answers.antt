use Rattle.test_tally.proofs.Counted.{by_one}
use Rattle.test_queue.proofs.CheckRecords56.cut.Goals as goal

pub returns : goal.returns
returns c = by_one 15 _ c.file_differs.ensures
