-- What is left to show of `coder_send_queue`: what sending a queue ensures, in one number and the four lent ones. Assumes nothing.
use Rattle.std.proofs.Common.{ℕ, ap, ◌∙◌}
use mir.Facts.{to_z-of_z}
use mir.Syntax.{w64}
use Rattle.queue_turns.specs.Queue.{Queued}
use Rattle.queue_turns.proofs.InOrder.{queue-changeover}
use Rattle.answers.specs.Answer.{answer_of, account_of, queue_answer}
use Rattle.answers.proofs.Bounds.{account-of}
use Rattle.frame_coder.proofs.coder_send_queue.Goals as goal

pub returns-clause-answer : goal.returns-clause-answer
unfolding queue_answer
returns-clause-answer c =
    to_z-of_z {w = w64} (record { sfits = c.answer.type_inv }) ∙ c.answer.ensures ∙ ap (λ (n : ℕ). answer_of n 0) c.number.ensures
    ∙ ap (λ (q : Queued). answer_of q.number 0) c.send_queue-queued.ensures.queued

pub returns-clause-account : goal.returns-clause-account
returns-clause-account c =
    let s = c.args in
    let e = c.send_queue-queued.ensures.queued in
    let stays = queue-changeover s.kind s.grade s.messages.now s.frames.now (account_of s.count.now s.sum.now s.largest.now s.changeover) in
    account-of c.send_queue-queued.result.account s.changeover (ap (λ (q : Queued). q.account.changeover) e ∙ stays) ∙ ap (λ (q : Queued). q.account) e

pub returns-clause-sent : goal.returns-clause-sent
returns-clause-sent c = ap (λ (q : Queued). q.sent) c.send_queue-queued.ensures.queued
