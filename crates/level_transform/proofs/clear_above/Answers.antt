use Rattle.std.proofs.Common.{ℕ, ◌-◌, ◌*◌, ◌%◌, ◌^◌, eqb, bit_and, ap, ◌∙◌, arith}
use Rattle.level_tables.proofs.MaskTables.{short}
use Rattle.level_transform.proofs.Clear.{held-clear}
use Rattle.level_transform.proofs.clear_above.Goals as goal

pub overflow_sub-result : goal.overflow_sub-result
overflow_sub-result c = omega (arith, short c.requires.0)

-- no bit is left at a mask with more than r bits set
pub returns : goal.returns
returns c =
    let a = c.args in
    let h : ℕ = c.heavy.result in
    ap (λ (n : ℕ). eqb (bit_and a.bits h * 2 ^ (64 - n) % 2 ^ 64) 0) c.positions.ensures
    ∙ held-clear 64 a.r a.m a.bits h (short c.requires.0) c.heavy.ensures
