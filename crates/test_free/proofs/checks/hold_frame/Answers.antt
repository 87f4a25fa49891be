-- The coordinates and the answers that stand in the bytes. Assumes nothing.
use Rattle.std.proofs.Common.{◌≡◌, ℕ, ap, ap₂, ◌∙◌, take, drop}
use native.Mathlib.Nat.{sub-zero}
use Rattle.test_data.specs.Held.{number_in}
use Rattle.test_free.specs.Judged.{answered}
use Rattle.test_free.proofs.Judging.{of-frame}
use Rattle.test_free.proofs.checks.hold_frame.Goals as goal

pub returns : goal.returns
returns c =
    let s = c.args in
    let answers : (number : ℕ) → answered number c.number-energy.result ≡ answered number (number_in (take 8 (drop 2 s.bytes.now)))
    = λ number. ap (answered number) c.number-energy.ensures in
    of-frame s.u s.message.now s.tally.now c.hold_readings.ensures (ap₂ take (sub-zero s.n) c.frame_in-frame.ensures.0)
    (c.given.ensures ∙ answers _) (c.given-2.ensures ∙ answers _)
