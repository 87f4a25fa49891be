-- p coordinates are moved. Assumes nothing.
use Rattle.std.proofs.Common.{◌≡◌, length}
use Rattle.test_vectors.specs.Vector.{marked_frame}
use Rattle.test_vectors.proofs.Moving.{Made}
use Rattle.test_vectors.proofs.checks.moved.Given as goal

abbrev pub invariant-loop-p : goal.invariant-loop-p
invariant-loop-p l = (length l.out ≡ 64) × Made l.a l.e l.by l.frame marked_frame l.out l.p
