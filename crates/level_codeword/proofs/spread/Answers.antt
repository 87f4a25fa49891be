use Rattle.std.proofs.Common.{◌≡◌, ℕ, ◌+◌, ◌*◌, sym, ap, ◌∙◌, arith}
use Rattle.bits.specs.Number.{number}
use Rattle.level_codeword.proofs.Laid.{laid_bits, none_laid, eight_more}
use Rattle.level_codeword.proofs.spread.Goals as goal

pub loop-j-init : goal.loop-j-init
loop-j-init c = sym (none_laid c.args.masks.now c.args.bits)

pub loop-j-preserved : goal.loop-j-preserved
loop-j-preserved c =
    let n : ℕ = 8 * c.loop-j.j in
    let up : n + 8 ≡ 8 * (c.loop-j.j + 1) = omega arith in
    eight_more c.args.masks.now c.args.bits n c.loop-j.invariant c.spread_eight-w.ensures
    ∙ ap (λ (n : ℕ). number 64 (laid_bits c.args.masks.now c.args.bits n)) up
