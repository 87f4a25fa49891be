-- The tally grows by the two judgements of a call, or by none. Assumes nothing.
use Rattle.test_tally.proofs.Counted.{as_it_was, grown-more, by_one}
use Rattle.test_calls.proofs.record.take.Goals as goal

pub returns-in_default : goal.returns-in_default
returns-in_default c = as_it_was c.args.tally.now

pub returns-in_default-take_answer : goal.returns-in_default-take_answer
returns-in_default-take_answer c = as_it_was c.args.tally.now

pub returns-in_default-take_lent : goal.returns-in_default-take_lent
returns-in_default-take_lent c = as_it_was c.args.tally.now

pub returns : goal.returns
returns c = grown-more (by_one _ _ c.judge.ensures) (by_one _ _ c.judge-2.ensures)
