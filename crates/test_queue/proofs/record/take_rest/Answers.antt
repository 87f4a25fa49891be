-- The tally grows by the judgements of the queue where the record is whole. Assumes nothing.
use Rattle.std.proofs.Common.{sym, subst}
use Rattle.test_tally.specs.Tally.{GrownBy}
use Rattle.test_tally.proofs.Counted.{as_it_was}
use Rattle.test_queue.proofs.Passing.{counted-grown}
use Rattle.test_queue.proofs.record.take_rest.Goals as goal

pub returns-then-n-gt384 : goal.returns-then-n-gt384
returns-then-n-gt384 c = as_it_was c.args.tally.now

pub returns-then-not-fill : goal.returns-then-not-fill
returns-then-not-fill c = as_it_was c.args.tally.now

pub returns : goal.returns
returns c = subst (GrownBy _) (sym c.hold.ensures) (counted-grown _ _ _ _ _)
