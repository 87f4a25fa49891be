-- A message that passes is one that sending accepts. Assumes nothing.
use Rattle.std.proofs.Common.{sym}
use Rattle.frames.proofs.Accepted.{accepted-exactly}
use Rattle.record_writer.proofs.test.Goals as goal

pub returns-clause-good : goal.returns-clause-good
returns-clause-good c = (accepted-exactly _ _ 0 _ _ (λ j. (c.type_inv.message j).fits)).sendable (sym (rw c.positions-n.ensures at c.in_ok-test.ensures))
