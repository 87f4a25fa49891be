use Rattle.std.proofs.Common.{◌≡◌, ℕ, ◌+◌, ◌*◌, ap, ◌∙◌, refl, arith}
use Rattle.bits.specs.Number.{sum_to, number}
use Rattle.level_tables.proofs.Gathered.{entry_bits, eight_more}
use Rattle.level_tables.proofs.gather.Goals as goal

pub loop-j-init : goal.loop-j-init
unfolding sum_to
loop-j-init c = refl

pub loop-j-preserved : goal.loop-j-preserved
loop-j-preserved c =
    let n : ℕ = 8 * c.loop-j.j in
    let up : n + 8 ≡ 8 * (c.loop-j.j + 1) = omega arith in
    eight_more c.args.table.now c.args.bits n (omega arith) c.loop-j.invariant c.gather_eight.ensures
    ∙ ap (λ (n : ℕ). number n (entry_bits c.args.table.now c.args.bits)) up
