-- What is left to show of `send_counted`: what is sent meets the demands. Assumes nothing.
use Rattle.std.proofs.Common.{◌≡◌, length, arith}
use Rattle.frames.proofs.Accepted.{all-passed}
use Rattle.frames.proofs.Rows.{grade-low}
use Rattle.free_bits.proofs.Fillings.{quiet-least}
use Rattle.power_account.specs.Counted.{number_for, counted_refusal}
use Rattle.power_account.proofs.Answers.{passed}
use Rattle.account.proofs.send_counted.Goals as goal

pub returns-clause-least : goal.returns-clause-least
returns-clause-least c =
    let s = c.args in
    let n = length s.frame.now in
    let accepted : counted_refusal s.kind s.grade s.free s.message.now n s.account ≡ 0 = omega arith in
    let a = all-passed s.kind s.grade s.free s.message.now n (passed s.kind s.grade s.free s.message.now n s.account accepted) in
    λ e. quiet-least s.kind s.grade s.free (number_for s.account) a.kind (grade-low s.grade a.grade) s.message.now
    c.write_counted-sent.ensures.frame c.write_counted-sent.ensures.energy
