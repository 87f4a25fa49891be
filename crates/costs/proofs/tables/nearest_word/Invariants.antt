use Rattle.costs.proofs.Chosen.{Chosen}
use Rattle.costs.proofs.tables.nearest_word.Given as goal

-- the bits and costs of the samples from p on are written
abbrev pub invariant-loop-p : goal.invariant-loop-p
invariant-loop-p l = Chosen l.samples l.a l.costs l.word l.p
