-- What is left to show of `coder_closer`: the choice, case by case. Assumes nothing.
use Rattle.std.proofs.Common.{ℕ, ap, ◌∙◌}
use mir.Facts.{to_z-of_z}
use mir.Syntax.{w64}
use Rattle.answers.specs.Answer.{answer_of, chosen_code, closer_code}
use Rattle.frame_coder.proofs.coder_closer.Goals as goal

pub returns-in-Ok-First : goal.returns-in-Ok-First
unfolding closer_code
returns-in-Ok-First c =
    to_z-of_z {w = w64} (record { sfits = c.answer.type_inv }) ∙ c.answer.ensures ∙ ap chosen_code (rw c.in-Ok-First.field-0-is at c.in-Ok-First.ensures)

pub returns-in-Ok-Second : goal.returns-in-Ok-Second
unfolding closer_code
returns-in-Ok-Second c =
    to_z-of_z {w = w64} (record { sfits = c.answer-in-Ok-Second.type_inv }) ∙ c.answer-in-Ok-Second.ensures
    ∙ ap chosen_code (rw c.in-Ok-Second.field-0-is at c.in-Ok-Second.ensures)

pub returns-in-Err : goal.returns-in-Err
unfolding closer_code
returns-in-Err c =
    to_z-of_z {w = w64} (record { sfits = c.answer-in-Err.type_inv }) ∙ c.answer-in-Err.ensures ∙ ap (λ (n : ℕ). answer_of n 0) c.number.ensures
    ∙ ap chosen_code c.in-Err.ensures
