use Rattle.std.proofs.Common.{◌≡◌}
use Rattle.frames.specs.Reading.{same_frame}
use Rattle.strict_test.proofs.Compared.{same_from}
use Rattle.strict_test.proofs.same.Given as goal

-- the coordinates below i are compared
abbrev pub invariant-loop-i : goal.invariant-loop-i
invariant-loop-i l = same_from l.d l.i l.a l.b ≡ same_frame l.a l.b
