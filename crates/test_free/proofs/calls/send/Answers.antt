-- The exported sending's number says the answer. Assumes nothing.
use Rattle.std.proofs.Common.{ap, ◌∙◌, length}
use mir.Syntax.{w64}
use mir.Facts.{to_z-of_z}
use Rattle.test_free.specs.declared.calls.Answer.{Answer}
use Rattle.test_free.proofs.Answering.{together, sent-decoded}
use Rattle.test_free.proofs.calls.send.Goals as goal

pub returns-in-Exported-Numbered-clause-sent : goal.returns-in-Exported-Numbered-clause-sent
returns-in-Exported-Numbered-clause-sent c =
    let s = c.args in
    let r = c.coder_send in
    let answer = sent-decoded s.u.kind s.u.grade s.u.free s.u.number c.decode.ensures s.message.now (length s.frame.now)
    (to_z-of_z {w = w64} (record { sfits = r.type_inv }) ∙ r.ensures.answer) in
    rw c.in-Exported-Numbered.is-1 (ap (λ (a : Answer). together a s.account) answer)
