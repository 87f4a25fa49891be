-- What is left to show of `coder_read_near`: what the near reading ensures, case by case. Assumes nothing.
use Rattle.std.proofs.Common.{◌≡◌, ℕ, length, sym, ap, ◌∙◌, arith}
use mir.Facts.{to_z-of_z}
use mir.Syntax.{w64}
use Rattle.refusals.specs.Number.{code}
use Rattle.near_reading.specs.Answer.{near_number}
use Rattle.answers.specs.Answer.{answer_of}
use Rattle.answers.proofs.Bounds.{near-code, near-stored, near-left}
use Rattle.frame_coder.proofs.Said.{no-success}
use Rattle.frame_coder.proofs.coder_read_near.Goals as goal

pub returns-in-Near-clause-answer : goal.returns-in-Near-clause-answer
returns-in-Near-clause-answer c =
    to_z-of_z {w = w64} (record { sfits = c.answer.type_inv }) ∙ c.answer.ensures ∙ near-code _ _ _ _ 0 c.in-Near.ensures.number

pub returns-in-Near-clause-distance : goal.returns-in-Near-clause-distance
returns-in-Near-clause-distance c =
    c.in-Near.ensures.distance ∙ near-stored _ _ _ _ c.args.distance.now (sym c.in-Near.ensures.number)

pub returns-in-Far-clause-answer : goal.returns-in-Far-clause-answer
returns-in-Far-clause-answer c =
    to_z-of_z {w = w64} (record { sfits = c.answer-in-Far.type_inv }) ∙ c.answer-in-Far.ensures ∙ ap (λ (n : ℕ). answer_of n 0) c.number.ensures
    ∙ near-code _ _ _ _ 16 c.in-Far.ensures.number

pub returns-in-Far-clause-distance : goal.returns-in-Far-clause-distance
returns-in-Far-clause-distance c =
    let s = c.args in
    let z : 16 ≡ near_number s.kind s.grade s.samples.now (length s.message.now) = c.in-Far.ensures.number in
    near-left _ _ _ _ s.distance.now (λ o. omega (arith, o, z))

pub returns-in-Refused-clause-answer : goal.returns-in-Refused-clause-answer
returns-in-Refused-clause-answer c =
    to_z-of_z {w = w64} (record { sfits = c.answer-in-Refused.type_inv }) ∙ c.answer-in-Refused.ensures
    ∙ ap (λ (n : ℕ). answer_of n 0) c.number-in-Refused.ensures ∙ near-code _ _ _ _ (code c.in-Refused.refusal) c.in-Refused.ensures.number

pub returns-in-Refused-clause-distance : goal.returns-in-Refused-clause-distance
returns-in-Refused-clause-distance c =
    near-left _ _ _ _ c.args.distance.now (λ o. no-success c.in-Refused.refusal (c.in-Refused.ensures.number ∙ o))
