-- Judgements after judgements. Assumes nothing.
use Rattle.test_tally.proofs.Counted.{as_it_was, grown-more}
use Rattle.test_tally.proofs.take_all.Goals as goal
use Rattle.test_tally.proofs.take_all.Goals.{then-got-via-then-got, then-got-via-else-got+then-not-take}

pub loop-v-init : goal.loop-v-init
loop-v-init g c = as_it_was c.args.tally.now

pub loop-v-preserved : goal.loop-v-preserved
loop-v-preserved g c = grown-more c.loop-v.invariant c.take.ensures

pub returns-then-got : goal.returns-then-got
returns-then-got g c =
    elim c.then-got.branch [
      | then-got-via-then-got w ↦ grown-more c.loop-v.invariant (rw w.tally-is at c.cut.ensures)
      | then-got-via-else-got+then-not-take w ↦ grown-more c.loop-v.invariant (grown-more w.take.ensures (rw w.tally-is at c.cut.ensures))
    ]

pub returns : goal.returns
returns g c = grown-more c.loop-v.invariant c.cut-2.ensures
