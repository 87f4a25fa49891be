-- Each function's number says what the outcome has. Assumes nothing.
use mathlib.Core.Path.{◌∙◌}
use native.Mathlib.Omega.{arith}
use lib.ListN.{length}
use mir.Syntax.{w64}
use mir.Facts.{to_z-of_z}
use borrow.Author.Tests.{eq-eqb, ne_eqb}
use Rattle.test_calls.specs.Outcome.{outcome_of}
use Rattle.test_calls.proofs.Decoding.{decoded-sending, decoded-open, decoded-strict}
use Rattle.test_calls.proofs.exported.call.Goals as goal

pub returns-in-0-clause-answer : goal.returns-in-0-clause-answer
unfolding outcome_of
returns-in-0-clause-answer c =
    let s = c.args in
    let e = to_z-of_z {w = w64} (record { sfits = c.coder_send.type_inv }) ∙ c.coder_send.ensures.answer in
    rw (eq-eqb s.function 0 c.in-0.is)
    (decoded-sending s.kind s.grade 0 s.number s.message.now (length s.frame.now) c.answer.ensures e)

pub returns-in-1-clause-answer : goal.returns-in-1-clause-answer
unfolding outcome_of
returns-in-1-clause-answer c =
    let s = c.args in
    let e = to_z-of_z {w = w64} (record { sfits = c.coder_read_open.type_inv }) ∙ c.coder_read_open.ensures.answer in
    rw (ne_eqb s.function 0 (λ z. omega (arith, c.in-1.is, z)), eq-eqb s.function 1 c.in-1.is)
    (decoded-open s.kind s.grade 0 s.frame.now (length s.message.now) c.answer-in-1.ensures e)

pub returns-in-2-clause-answer : goal.returns-in-2-clause-answer
unfolding outcome_of
returns-in-2-clause-answer c =
    let s = c.args in
    let e = to_z-of_z {w = w64} (record { sfits = c.coder_read_strict.type_inv }) ∙ c.coder_read_strict.ensures.answer in
    rw (
      ne_eqb s.function 0 (λ z. omega (arith, c.in-2.is, z)),
      ne_eqb s.function 1 (λ z. omega (arith, c.in-2.is, z)),
      eq-eqb s.function 2 c.in-2.is,
    )
    (decoded-strict s.kind s.grade 0 s.number s.frame.now (length s.message.now) c.answer-in-2.ensures e)
