-- The number is an opening's. Assumes nothing.
use mathlib.Core.Path.{◌∙◌}
use mir.Syntax.{w64}
use mir.Facts.{to_z-of_z}
use Rattle.test_calls.proofs.Decoding.{decoded-opening}
use Rattle.test_calls.proofs.exported.open.Goals as goal

pub returns : goal.returns
returns c =
    let r = c.coder_open-r in
    decoded-opening c.args.changeover c.answer.ensures (to_z-of_z {w = w64} (record { sfits = r.type_inv }) ∙ r.ensures.answer) r.ensures.account
