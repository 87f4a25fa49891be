-- `plain_send` meets its contract, that of `coder_send`: the answer and the frame by the number of the tests. Assumes nothing.
use Rattle.std.proofs.Common.{ℕ, ap, ◌∙◌, arith, w64}
use mir.Facts.{to_z-of_z}
use Rattle.frames.specs.Sending.{frame_after}
use Rattle.refusals.specs.Number.{number_of}
use Rattle.answers.specs.Answer.{answer_of}
use Rattle.answers.proofs.Bounds.{sent-fits, send-answer}
use Rattle.bench_plain.proofs.plain_send.Goals as goal

pub answered-requires : goal.answered-requires
answered-requires c = omega (arith, sent-fits _ _ _ _ c.args.number _ _ c.send.ensures.number)

pub returns-clause-answer : goal.returns-clause-answer
returns-clause-answer c =
    to_z-of_z {w = w64} (record { sfits = c.answered.type_inv }) ∙ c.answered.ensures ∙ ap (answer_of (number_of c.send.result)) c.send.ensures.energy
    ∙ send-answer _ _ _ _ c.args.number _ _ c.send.ensures.number

pub returns-clause-frame : goal.returns-clause-frame
returns-clause-frame c =
    let s = c.args in
    c.send.ensures.frame ∙ ap (λ (n : ℕ). frame_after n s.kind s.grade 0 s.number s.message.now s.frame.now) c.send.ensures.number
