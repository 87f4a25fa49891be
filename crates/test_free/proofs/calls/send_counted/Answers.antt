-- The number says the answer, and the three figures with the changeover are the account. Assumes nothing.
use Rattle.std.proofs.Common.{ap₂, ◌∙◌, length}
use mir.Syntax.{w64}
use mir.Facts.{to_z-of_z}
use Rattle.test_free.proofs.Answering.{together, counted-decoded}
use Rattle.test_free.proofs.calls.send_counted.Goals as goal

pub returns-clause-sent : goal.returns-clause-sent
returns-clause-sent c =
    let s = c.args in
    let r = c.coder_send_counted-r in
    let answer = counted-decoded s.u.kind s.u.grade s.u.free s.u.number c.decode.ensures s.message.now (length s.frame.now) s.account
    (to_z-of_z {w = w64} (record { sfits = r.type_inv }) ∙ r.ensures.answer) in
    ap₂ together answer r.ensures.account
