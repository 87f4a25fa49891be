-- `number_at` meets its contract: the number's own bits, from where it begins. Assumes nothing.
use Rattle.std.proofs.Common.{ℕ, ◌*◌, ◌≤◌, ◌∙◌, ap, arith}
use native.Mathlib.Nat.{mul-le-mul}
use Rattle.bits.specs.Message.{message_bit}
use Rattle.bench_plain.proofs.Place.{begins, number_is}
use Rattle.bench_plain.proofs.number_at.Goals as goal

pub returns-then-o-eq0 : goal.returns-then-o-eq0
returns-then-o-eq0 c =
    let s = c.args in
    c.bits_at.ensures
    ∙ number_is (message_bit s.message.now) s.from s.grade s.o _ _ c.requires.2 c.width-w.ensures
    (omega (arith, ap (λ (n : ℕ). s.grade * n) c.if-o-eq0.true, begins s.grade s.o c.requires.0 c.requires.2))

pub returns-else-o-eq0 : goal.returns-else-o-eq0
returns-else-o-eq0 c =
    let s = c.args in
    let some : 1 * 1 ≤ s.grade * s.o = mul-le-mul {n₁ = 1} {m₁ = 1} {n₂ = s.grade} {m₂ = s.o} c.requires.0 (omega (arith, c.if-o-eq0.false)) in
    c.bits_at-else-o-eq0.ensures
    ∙ number_is (message_bit s.message.now) s.from s.grade s.o _ _ c.requires.2 c.width-w.ensures
    (omega (arith, some, begins s.grade s.o c.requires.0 c.requires.2))
