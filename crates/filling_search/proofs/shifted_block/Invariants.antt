use Rattle.coordinates.proofs.Filled.{Filled}
use Rattle.filling_search.specs.Filling.{shifted_block}
use Rattle.filling_search.proofs.shifted_block.Given as goal

-- the coordinates passed so far are shifted
abbrev pub invariant-loop-i : goal.invariant-loop-i
invariant-loop-i l = Filled (shifted_block l.off l.a l.grade l.free l.phi l.x) l.r l.i
