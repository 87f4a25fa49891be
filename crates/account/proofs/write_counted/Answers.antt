-- What is left to show of `write_counted`: past the tests the message can be sent, and the account grows by what is sent. Assumes nothing.
use Rattle.std.proofs.Common.{◌≡◌, length, sym, ◌∙◌}
use Rattle.frames.specs.Sending.{send_refusal}
use Rattle.frames.proofs.Accepted.{all-passed, accepted-exactly}
use Rattle.frames.proofs.Rows.{grade-low, grade-high}
use Rattle.free_bits.proofs.Fillings.{free-few, quiet-frame-long}
use Rattle.power_account.specs.Counted.{number_for}
use Rattle.power_account.proofs.Answers.{passed, room, measured}
use Rattle.account.proofs.write_counted.Goals as goal

pub write_sent-sent-requires : goal.write_sent-sent-requires
write_sent-sent-requires c =
    let s = c.args in
    let n = length s.frame.now in
    let accepted : send_refusal s.kind s.grade s.free s.message.now n ≡ 0 = passed s.kind s.grade s.free s.message.now n s.account c.requires in
    let a = (accepted-exactly s.kind s.grade s.free s.message.now n (λ i. (c.type_inv.message i).fits)).sendable accepted in
    (a.kind, grade-low s.grade a.grade, grade-high s.grade a.grade, free-few s.free a.few, a.message, a.coordinates)

pub grow-requires : goal.grow-requires
grow-requires c =
    let s = c.args in
    let n = length s.frame.now in
    let accepted : send_refusal s.kind s.grade s.free s.message.now n ≡ 0 = passed s.kind s.grade s.free s.message.now n s.account c.requires in
    measured s.kind s.grade s.free _ s.message.now n accepted _ c.write_sent-sent.ensures.energy

pub returns-clause-account : goal.returns-clause-account
returns-clause-account c =
    let s = c.args in
    let n = length s.frame.now in
    let accepted : send_refusal s.kind s.grade s.free s.message.now n ≡ 0 = passed s.kind s.grade s.free s.message.now n s.account c.requires in
    let a = all-passed s.kind s.grade s.free s.message.now n accepted in
    let r = room s.kind s.grade s.free s.message.now n s.account c.requires in
    let long = a.coordinates ∙ sym (quiet-frame-long s.kind s.grade s.free (number_for s.account) a.kind (grade-low s.grade a.grade) s.message.now) in
    simp (r, long, c.write_sent-sent.ensures.energy, c.write_sent-sent.ensures.largest, c.next_number-number.ensures) at c.grow.ensures
