-- What is left to show of `coder_send_counted`: what sending with an account ensures, in one number and the three lent ones. Assumes nothing.
use Rattle.std.proofs.Common.{◌≡◌, ◌≤◌, ◌^◌, ℕ, length, sym, ap, ◌∙◌, arith}
use mir.Facts.{to_z-of_z}
use mir.Syntax.{w64}
use Rattle.refusals.specs.Number.{number_of, figure_of, code}
use Rattle.power_account.specs.Counted.{number_for}
use Rattle.power_account.proofs.Answers.{account-refused}
use Rattle.answers.specs.Answer.{answer_of, account_of, counted_answer}
use Rattle.answers.proofs.Bounds.{counted-fits, counted-answer, account-of, least-answer}
use Rattle.frame_coder.proofs.Said.{no-success, account-is, changeover-is}
use Rattle.frame_coder.proofs.coder_send_counted.Goals as goal

pub answer-requires : goal.answer-requires
answer-requires c =
    let s = c.args in
    let held = account_of s.count.now s.sum.now s.largest.now s.changeover in
    let x = c.send_counted-counted.result.answer in
    let e = c.send_counted-counted.ensures in
    let f = counted-fits s.kind s.grade s.free s.message.now (length s.frame.now) held (number_of x) e.number in
    let fits : figure_of x ≤ 2 ^ 54 = omega (arith, e.energy, f) in
    rw c.in-Ok.is at fits

pub returns-in-Ok-clause-answer : goal.returns-in-Ok-clause-answer
returns-in-Ok-clause-answer c =
    let s = c.args in
    let held = account_of s.count.now s.sum.now s.largest.now s.changeover in
    let x = c.send_counted-counted.result.answer in
    let e = c.send_counted-counted.ensures in
    let said : answer_of (number_of x) (figure_of x) ≡ counted_answer s.kind s.grade s.free s.message.now (length s.frame.now) held =
    ap (answer_of (number_of x)) e.energy ∙ counted-answer s.kind s.grade s.free s.message.now (length s.frame.now) held (number_of x) e.number in
    to_z-of_z {w = w64} (record { sfits = c.answer.type_inv }) ∙ c.answer.ensures ∙ (rw c.in-Ok.is at said)

pub returns-in-Ok-clause-account : goal.returns-in-Ok-clause-account
returns-in-Ok-clause-account c =
    let s = c.args in
    let held = account_of s.count.now s.sum.now s.largest.now s.changeover in
    let number = number_of c.send_counted-counted.result.answer in
    let e = c.send_counted-counted.ensures in
    let n = length s.frame.now in
    account-of c.send_counted-counted.result.account s.changeover
    (changeover-is s.kind s.grade s.free s.message.now n held number e.number c.send_counted-counted.result.account e.account)
    ∙ e.account ∙ account-is s.kind s.grade s.free s.message.now n held number e.number

pub returns-in-Ok-clause-least : goal.returns-in-Ok-clause-least
returns-in-Ok-clause-least c =
    let s = c.args in
    let held = account_of s.count.now s.sum.now s.largest.now s.changeover in
    least-answer s.kind s.grade s.free (number_for held) s.message.now _ 0 c.in-Ok.energy (rw c.in-Ok.is at c.send_counted-counted.ensures.least) _
    (to_z-of_z {w = w64} (record { sfits = c.answer.type_inv }) ∙ c.answer.ensures)

pub returns-in-Err-clause-answer : goal.returns-in-Err-clause-answer
returns-in-Err-clause-answer c =
    let s = c.args in
    let held = account_of s.count.now s.sum.now s.largest.now s.changeover in
    let x = c.send_counted-counted.result.answer in
    let e = c.send_counted-counted.ensures in
    let said : answer_of (number_of x) (figure_of x) ≡ counted_answer s.kind s.grade s.free s.message.now (length s.frame.now) held =
    ap (answer_of (number_of x)) e.energy ∙ counted-answer s.kind s.grade s.free s.message.now (length s.frame.now) held (number_of x) e.number in
    to_z-of_z {w = w64} (record { sfits = c.answer-in-Err.type_inv }) ∙ c.answer-in-Err.ensures
    ∙ ap (λ (n : ℕ). answer_of n 0) c.number.ensures ∙ (rw c.in-Err.is at said)

pub returns-in-Err-clause-account : goal.returns-in-Err-clause-account
returns-in-Err-clause-account c =
    let s = c.args in
    let held = account_of s.count.now s.sum.now s.largest.now s.changeover in
    let r = c.in-Err.refusal in
    sym (account-refused (code r) s.kind s.grade s.free s.message.now held (no-success r))
    ∙ account-is s.kind s.grade s.free s.message.now (length s.frame.now) held (code r) (rw c.in-Err.is at c.send_counted-counted.ensures.number)

pub returns-in-Err-clause-least : goal.returns-in-Err-clause-least
returns-in-Err-clause-least c =
    let s = c.args in
    let held = account_of s.count.now s.sum.now s.largest.now s.changeover in
    let r = c.in-Err.refusal in
    least-answer s.kind s.grade s.free (number_for held) s.message.now _ (code r) 0 (λ zero. absurd (no-success r zero)) _
    (to_z-of_z {w = w64} (record { sfits = c.answer-in-Err.type_inv }) ∙ c.answer-in-Err.ensures ∙ ap (λ (n : ℕ). answer_of n 0) c.number.ensures)
