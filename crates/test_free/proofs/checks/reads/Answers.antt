-- With as many marks lent as the message has bytes. Assumes nothing.
use Rattle.std.proofs.Common.{◌-◌, sym, ap, ◌∙◌, length, take, arith}
use native.Mathlib.Nat.{sub-zero}
use borrow.Rule.Slice.PartMut.{mid_len}
use Rattle.test_free.specs.Judged.{is_strict}
use Rattle.test_free.proofs.Judging.{read-passed, read-refused}
use Rattle.test_free.proofs.checks.reads.Goals as goal

pub returns-then-expected-eq0 : goal.returns-then-expected-eq0
returns-then-expected-eq0 c =
    let s = c.args in
    let m = s.message.now in
    let out = c.mark_bytes-out.result in
    c.gives.ensures
    ∙ read-passed (is_strict s.way) s.u s.frame.now m s.expected (take (length m - 0) out)
    (mid_len 0 (length m) out (omega (arith, c.mark_bytes-out.ensures.1)) ∙ sub-zero (length m)) c.if-expected-eq0.true

pub returns : goal.returns
returns c =
    let s = c.args in
    let m = s.message.now in
    let out = c.mark_bytes-out.result in
    c.gives-2.ensures
    ∙ read-refused (is_strict s.way) s.u s.frame.now m s.expected (take (length m - 0) out)
    (mid_len 0 (length m) out (omega (arith, c.mark_bytes-out.ensures.1)) ∙ sub-zero (length m))
    (ap (take (length m - 0)) (c.mark_bytes-lent.ensures.0 ∙ sym c.mark_bytes-out.ensures.0)) c.if-expected-eq0.false
