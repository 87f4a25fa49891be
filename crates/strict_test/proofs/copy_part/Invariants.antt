use Rattle.std.proofs.Common.{◌≡◌, drop}
use Rattle.coordinates.proofs.Filled.{Filled}
use Rattle.strict_test.proofs.copy_part.Given as goal

-- the places below p are those of the frame, and the others as they were
abbrev pub invariant-loop-p : goal.invariant-loop-p
invariant-loop-p l = Filled l.frame l.copy l.p × (drop l.p l.copy ≡ drop l.p l.initial.copy)
