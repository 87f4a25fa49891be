-- `send` meets its contract: past the tests the frame is the sent one, since no bit is free. Assumes nothing.
use Rattle.std.proofs.Common.{◌≡◌, length, sym, ap, ◌∙◌, refl, arith}
use Rattle.e8.specs.Energy.{energy}
use Rattle.frames.specs.Sending.{send_refusal}
use Rattle.frames.proofs.Accepted.{all-passed, sent-leaves}
use Rattle.frames.proofs.Rows.{grade-low, grade-high}
use Rattle.free_bits.proofs.Fillings.{none-quiet}
use Rattle.bench_plain.proofs.send.Goals as goal

pub write_sent-requires : goal.write_sent-requires
write_sent-requires c =
    let s = c.args in
    let accepted : send_refusal s.kind s.grade 0 s.message.now (length s.frame.now) ≡ 0 = omega arith in
    let a = all-passed s.kind s.grade 0 s.message.now (length s.frame.now) accepted in
    (a.kind, grade-low s.grade a.grade, grade-high s.grade a.grade, a.long, a.coordinates)

pub returns-clause-frame : goal.returns-clause-frame
returns-clause-frame c =
    let s = c.args in
    let t = sent-leaves 0 s.kind s.grade 0 s.number s.message.now s.frame.now refl in
    c.write_sent.ensures.frame ∙ sym (t.0 ∙ none-quiet s.kind s.grade s.number s.message.now)

pub returns-clause-energy : goal.returns-clause-energy
returns-clause-energy c =
    let s = c.args in
    let t = sent-leaves 0 s.kind s.grade 0 s.number s.message.now s.frame.now refl in
    c.write_sent.ensures.energy ∙ sym (t.1 ∙ ap energy (none-quiet s.kind s.grade s.number s.message.now))
