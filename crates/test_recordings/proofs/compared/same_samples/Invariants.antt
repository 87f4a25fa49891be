-- The samples from place i on decide. Assumes nothing.
use Rattle.std.proofs.Common.{◌≡◌, drop}
use Rattle.test_recordings.specs.Judged.{same_samples}
use Rattle.test_recordings.proofs.compared.same_samples.Given as goal

abbrev pub invariant-loop-i : goal.invariant-loop-i
invariant-loop-i l = same_samples (drop l.i l.x) (drop l.i l.y) ≡ same_samples l.x l.y
