use Rattle.coordinates.proofs.Filled.{Filled}
use Rattle.e8.specs.Rows.{ints}
use Rattle.leader.proofs.signed.Given as goal

-- the numbers passed so far are coordinates
abbrev pub invariant-loop-o : goal.invariant-loop-o
invariant-loop-o l = Filled (ints l.s) l.x l.o
