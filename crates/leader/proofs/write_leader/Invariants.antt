use Rattle.std.proofs.Common.{◌*◌, take}
use Rattle.e8.proofs.Blockwise.{Over}
use Rattle.frames.specs.Message.{leader}
use Rattle.leader.proofs.write_leader.Given as goal

-- the blocks below j are those of the leader, and the rest of the frame is as it was
abbrev pub invariant-loop-j : goal.invariant-loop-j
invariant-loop-j l = Over (λ i. take (8 * i) (leader l.kind l.grade l.message)) l.initial.frame l.j l.frame
