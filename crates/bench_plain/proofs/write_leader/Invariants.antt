-- `write_leader`: the positions passed so far are those of the leader.
use Rattle.coordinates.proofs.Filled.{Filled}
use Rattle.frames.specs.Message.{leader}
use Rattle.bench_plain.proofs.write_leader.Given as goal

abbrev pub invariant-loop-p : goal.invariant-loop-p
invariant-loop-p l = Filled (leader l.kind l.grade l.message) l.frame l.p
