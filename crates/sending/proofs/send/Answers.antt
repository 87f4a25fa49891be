-- `send` meets its contract: past the tests it is a message whose free bits are 0, and what is sent meets the demands. Assumes nothing.
use Rattle.std.proofs.Common.{◌≡◌, length, arith}
use Rattle.frames.specs.Sending.{send_refusal}
use Rattle.frames.proofs.Accepted.{accepted-exactly}
use Rattle.frames.proofs.Rows.{grade-low, grade-high}
use Rattle.free_bits.proofs.Fillings.{free-few, quiet-least}
use Rattle.sending.proofs.send.Goals as goal

pub write_sent-sent-requires : goal.write_sent-sent-requires
write_sent-sent-requires c =
    let s = c.args in
    let accepted : send_refusal s.kind s.grade s.free s.message.now (length s.frame.now) ≡ 0 = omega arith in
    let a = (accepted-exactly s.kind s.grade s.free s.message.now (length s.frame.now) (λ i. (c.type_inv.message i).fits)).sendable accepted in
    (a.kind, grade-low s.grade a.grade, grade-high s.grade a.grade, free-few s.free a.few, a.message, a.coordinates)

pub returns-clause-least : goal.returns-clause-least
returns-clause-least c =
    let s = c.args in
    let accepted : send_refusal s.kind s.grade s.free s.message.now (length s.frame.now) ≡ 0 = omega arith in
    let a = (accepted-exactly s.kind s.grade s.free s.message.now (length s.frame.now) (λ i. (c.type_inv.message i).fits)).sendable accepted in
    λ e. quiet-least s.kind s.grade s.free s.number a.kind (grade-low s.grade a.grade) s.message.now
    c.write_sent-sent.ensures.frame (omega arith)
