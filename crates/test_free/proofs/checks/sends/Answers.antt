-- Into the first n of the marks. Assumes nothing.
use Rattle.std.proofs.Common.{ap₂, ◌∙◌, take, arith}
use native.Mathlib.Nat.{sub-zero}
use borrow.Rule.Slice.PartMut.{mid_len}
use Rattle.test_free.specs.Judged.{is_counted}
use Rattle.test_free.proofs.Judging.{passes}
use Rattle.test_free.proofs.checks.sends.Goals as goal

pub returns : goal.returns
returns c =
    let s = c.args in
    let n = s.n in
    passes (is_counted s.way) s.u s.message.now n s.account s.expected s.frames.now
    (ap₂ take (sub-zero n) c.marks-out.ensures.0) (ap₂ take (sub-zero n) c.marks-lent.ensures.0)
    (mid_len 0 n c.marks-out.result (omega (arith, c.marks-out.ensures.1)) ∙ sub-zero n) c.leaves.ensures.passed
