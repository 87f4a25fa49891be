use Rattle.frame_energy.proofs.Whole.{Apart}
use Rattle.frame_energy.proofs.block_energy.Given as goal

-- the sums make the energy of the first i pairs
abbrev pub invariant-loop-i : goal.invariant-loop-i
invariant-loop-i l = Apart l.part l.i l.even l.odd
