-- The number is that of a sending with an account. Assumes nothing.
use mathlib.Core.Path.{◌∙◌}
use lib.ListN.{length}
use mir.Syntax.{w64}
use mir.Facts.{to_z-of_z}
use Rattle.test_calls.proofs.Decoding.{decoded-counted}
use Rattle.test_calls.proofs.exported.send_counted.Goals as goal

pub returns-clause-answer : goal.returns-clause-answer
returns-clause-answer c =
    let s = c.args in
    let r = c.coder_send_counted-r in
    let e = to_z-of_z {w = w64} (record { sfits = r.type_inv }) ∙ r.ensures.answer in
    decoded-counted s.kind s.grade 0 s.message.now (length s.frame.now) s.account c.answer.ensures e r.ensures.account
