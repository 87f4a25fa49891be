-- What is left to show of `send_queue`: each frame that is sent has the least energy. Assumes nothing.
use Rattle.std.proofs.Common.{◌≡◌, length, sym, ◌∙◌, rules}
use Rattle.queue_turns.specs.Queue.{queue_refusal}
use Rattle.queue_turns.proofs.InOrder.{sent-queue, queue-least}
use Rattle.queue.proofs.send_queue.Goals as goal

pub returns-clause-least : goal.returns-clause-least
returns-clause-least c =
    let s = c.args in
    let z : queue_refusal s.kind s.grade (length s.messages.now) (length s.frames.now) ≡ 0 = search rules in
    let e = sent-queue s.kind s.grade s.messages.now s.frames.now s.account z in
    queue-least s.kind s.grade s.messages.now s.frames.now s.account z (c.in_turn.ensures.queued ∙ sym e.0) (c.in_turn.ensures.frames ∙ sym e.1)
