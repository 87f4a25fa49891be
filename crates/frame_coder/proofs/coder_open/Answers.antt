-- What is left to show of `coder_open`: what opening ensures, in one number and the four lent ones. Assumes nothing.
use Rattle.std.proofs.Common.{ℕ, ap, ◌∙◌}
use mir.Facts.{to_z-of_z}
use mir.Syntax.{w64}
use Rattle.power_account.specs.Opening.{Opened, opened_with}
use Rattle.answers.specs.Answer.{answer_of, opening_answer}
use Rattle.frame_coder.proofs.coder_open.Goals as goal

pub returns-clause-answer : goal.returns-clause-answer
unfolding opening_answer opened_with
returns-clause-answer c =
    to_z-of_z {w = w64} (record { sfits = c.answer.type_inv }) ∙ c.answer.ensures
    ∙ ap (λ (n : ℕ). answer_of n 0) c.number.ensures ∙ ap (λ (o : Opened). answer_of o.number 0) c.open-opened.ensures

pub returns-clause-account : goal.returns-clause-account
returns-clause-account c = ap (λ (o : Opened). o.account) c.open-opened.ensures
