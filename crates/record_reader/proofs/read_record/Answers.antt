-- The tests before the frame, those of the frame in a copy, and past them the frame. Assumes nothing.
use Rattle.std.proofs.Common.{◌≡◌, ◌∙◌, ◌+◌, ℕ, ap, arith, drop, sym, refl}
use Rattle.std.proofs.lemmas.Result.{err_from_is_err_and}
use Rattle.four_bytes.specs.FourBytes.{coordinates_from}
use Rattle.frames.specs.Reading.{energy_read}
use Rattle.records.specs.Reading.{strict_at}
use Rattle.records.proofs.Tests.{frame_refused, frame-passed}
use Rattle.refusals.specs.Number.{code}
use Rattle.record_reader.proofs.Steps.{steps}
use Rattle.record_reader.proofs.read_record.Goals as goal

pub returns-in_err-energy-clause-answer : goal.returns-in_err-energy-clause-answer
returns-in_err-energy-clause-answer c =
    let x = c.args in
    let p = err_from_is_err_and c.from_residual-in_err-energy.result c.from_residual-in_err-energy.ensures.1 in
    let is : code c.in_err-energy.field-0.0 ≡ strict_at x.buffer.now x.place = grind (arith, steps) in
    rw (p.1, p.2) (frame_refused x.buffer.now x.place x.frame.now (sym c.in_ok-test_head.ensures.number) _ is (λ z. grind arith)).0

pub returns-in_err-energy-clause-frame : goal.returns-in_err-energy-clause-frame
returns-in_err-energy-clause-frame c =
    let x = c.args in
    let is : code c.in_err-energy.field-0.0 ≡ strict_at x.buffer.now x.place = grind (arith, steps) in
    (frame_refused x.buffer.now x.place x.frame.now (sym c.in_ok-test_head.ensures.number) _ is (λ z. grind arith)).1

pub returns-clause-answer : goal.returns-clause-answer
unfolding energy_read
returns-clause-answer c =
    let x = c.args in
    let is : 0 ≡ strict_at x.buffer.now x.place = grind (arith, steps) in
    (frame-passed x.buffer.now x.place x.frame.now (sym c.in_ok-test_head.ensures.number) 0 _ _ _ is refl c.four_at-number.ensures c.in_ok-energy.ensures.energy (omega (arith, c.in_ok-test_head.ensures.whole.2))).0

pub returns-clause-frame : goal.returns-clause-frame
returns-clause-frame c =
    let x = c.args in
    let is : 0 ≡ strict_at x.buffer.now x.place = grind (arith, steps) in
    c.take_coordinates.ensures
    ∙ ap (λ (n : ℕ). coordinates_from n (drop (x.place + 8) x.buffer.now)) c.in_ok-test_head.ensures.whole.2
    ∙ (frame-passed x.buffer.now x.place x.frame.now (sym c.in_ok-test_head.ensures.number) 0 _ _ _ is refl refl refl refl).1
