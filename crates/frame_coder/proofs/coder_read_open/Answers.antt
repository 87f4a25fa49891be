-- What is left to show of `coder_read_open`: the energy fits, and the answer is that of the definitions. Assumes nothing.
use Rattle.std.proofs.Common.{length, ap, ◌∙◌, arith}
use mir.Facts.{to_z-of_z}
use mir.Syntax.{w64}
use Rattle.refusals.specs.Number.{number_of}
use Rattle.answers.specs.Answer.{answer_of}
use Rattle.answers.proofs.Bounds.{open-fits, open-answer}
use Rattle.frame_coder.proofs.coder_read_open.Goals as goal

pub answered-requires : goal.answered-requires
answered-requires c = let f = open-fits _ _ _ _ _ _ c.read_open.ensures.number in omega (arith, c.read_open.ensures.energy, f)

pub returns-clause-answer : goal.returns-clause-answer
returns-clause-answer c =
    let s = c.args in
    let r = number_of c.read_open.result in
    to_z-of_z {w = w64} (record { sfits = c.answered.type_inv }) ∙ c.answered.ensures ∙ ap (answer_of r) c.read_open.ensures.energy
    ∙ open-answer r s.kind s.grade s.free s.frame.now (length s.message.now) c.read_open.ensures.number
