use Rattle.test_tally.proofs.Counted.{grown-more, by_one}
use Rattle.test_free.proofs.record.take.Goals as goal

pub returns-then-whole : goal.returns-then-whole
returns-then-whole c = grown-more c.take_rest-whole.ensures (by_one 0 _ c.judge.ensures)
