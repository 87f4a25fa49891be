use Rattle.e8.proofs.Blockwise.{Over}
use Rattle.filling_search.specs.Filling.{filled_blocks}
use Rattle.filling_search.proofs.lay.Given as goal

-- the blocks of the fillings below j are laid, and the rest is as it was
abbrev pub invariant-loop-j : goal.invariant-loop-j
invariant-loop-j l = Over (filled_blocks l.a l.grade l.free l.x) l.initial.out l.j l.out
