-- What is left to show of `coder_send`: the energy fits, and the answer is that of the definitions. Assumes nothing.
use Rattle.std.proofs.Common.{length, ap, ◌∙◌, arith}
use mir.Facts.{to_z-of_z}
use mir.Syntax.{w64}
use Rattle.refusals.specs.Number.{number_of}
use Rattle.answers.specs.Answer.{answer_of}
use Rattle.answers.proofs.Bounds.{sent-fits, send-answer, least-answer}
use Rattle.frame_coder.proofs.coder_send.Goals as goal

pub answered-requires : goal.answered-requires
answered-requires c = let f = sent-fits _ _ _ _ c.args.number _ _ c.send.ensures.number in omega (arith, c.send.ensures.energy, f)

pub returns-clause-answer : goal.returns-clause-answer
returns-clause-answer c =
    let s = c.args in
    let r = number_of c.send.result in
    to_z-of_z {w = w64} (record { sfits = c.answered.type_inv }) ∙ c.answered.ensures ∙ ap (answer_of r) c.send.ensures.energy
    ∙ send-answer r s.kind s.grade s.free s.number s.message.now (length s.frame.now) c.send.ensures.number

pub returns-clause-least : goal.returns-clause-least
returns-clause-least c =
    let s = c.args in
    least-answer s.kind s.grade s.free s.number s.message.now _ (number_of c.send.result) _ c.send.ensures.least _
    (to_z-of_z {w = w64} (record { sfits = c.answered.type_inv }) ∙ c.answered.ensures)
