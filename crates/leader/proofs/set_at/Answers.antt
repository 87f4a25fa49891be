-- A word masked by bit p alone is the mask exactly where the bit is set.
use Rattle.std.proofs.Common.{◌≡◌, ◌*◌, ◌%◌, ◌^◌, bit_and, sym, ap, ◌∙◌}
use borrow.Author.Tests.{eq-eqb, ne_eqb}
use Rattle.bits.proofs.Digits.{one_shifted}
use Rattle.leader.proofs.Masked.{mask-set, set-mask}
use Rattle.leader.proofs.set_at.Goals as goal

pub returns-then-w-m : goal.returns-then-w-m
returns-then-w-m c =
    let s = c.args in
    let m : 1 * 2 ^ s.p % 2 ^ 32 ≡ 2 ^ s.p = one_shifted s.p 32 c.requires in
    rw (eq-eqb _ _ (mask-set s.w s.p (ap (bit_and s.w) (sym m) ∙ c.if-w-m.true ∙ m)))

pub returns-else-w-m : goal.returns-else-w-m
returns-else-w-m c =
    let s = c.args in
    let m : 1 * 2 ^ s.p % 2 ^ 32 ≡ 2 ^ s.p = one_shifted s.p 32 c.requires in
    rw (ne_eqb _ _ (λ d. c.if-w-m.false (ap (bit_and s.w) m ∙ set-mask s.w s.p d ∙ sym m)))
