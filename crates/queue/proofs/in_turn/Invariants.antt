-- What holds while `in_turn` sends message after message: what is sent so far makes, with what is left, the whole. Assumes nothing.
use Rattle.std.proofs.Common.{◌≡◌, ◌*◌, length}
use Rattle.queue_turns.proofs.Turns.{SoFar}
use Rattle.queue.proofs.in_turn.Given as goal

abbrev pub invariant-loop-sent : goal.invariant-loop-sent
invariant-loop-sent l = record {
  so_far : SoFar l.kind l.grade l.messages l.initial.frames l.fn.account l.sent l.frames l.grown;
  frames : length l.frames ≡ l.n * l.count;
}
