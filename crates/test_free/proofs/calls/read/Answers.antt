-- The exported reading's number says the answer. Assumes nothing.
use Rattle.std.proofs.Common.{◌∙◌, length}
use mir.Syntax.{w64}
use mir.Facts.{to_z-of_z}
use Rattle.test_free.proofs.Answering.{open-decoded, strict-decoded}
use Rattle.test_free.proofs.calls.read.Goals as goal

pub returns-in-Exported-Openly-clause-answer : goal.returns-in-Exported-Openly-clause-answer
returns-in-Exported-Openly-clause-answer c =
    let s = c.args in
    let r = c.coder_read_open in
    rw c.in-Exported-Openly.is-1
    (open-decoded s.u.kind s.u.grade s.u.free s.u.number c.decode.ensures s.frame.now (length s.message.now)
    (to_z-of_z {w = w64} (record { sfits = r.type_inv }) ∙ r.ensures.answer))

pub returns-in-Exported-Strictly-clause-answer : goal.returns-in-Exported-Strictly-clause-answer
returns-in-Exported-Strictly-clause-answer c =
    let s = c.args in
    let r = c.coder_read_strict in
    rw c.in-Exported-Strictly.is-1
    (strict-decoded s.u.kind s.u.grade s.u.free s.u.number c.decode-in-Exported-Strictly.ensures s.frame.now (length s.message.now)
    (to_z-of_z {w = w64} (record { sfits = r.type_inv }) ∙ r.ensures.answer))
