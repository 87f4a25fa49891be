use Rattle.std.proofs.Common.{◌≡◌, ℕ, suc, ◌+◌, ◌/◌, ◌%◌, ◌^◌, ◌<◌, ◌≤◌, refl, sym, ap, ap₂, ◌∙◌, take, arith}
use Rattle.bits.specs.Number.{number}
use Rattle.bits.proofs.Digits.{digit, one_shifted}
use Rattle.coordinates.proofs.Filled.{filled_none, filled_next, filled-all}
use Rattle.frames.specs.Message.{widths}
use Rattle.frames.proofs.Numbers.{total}
use Rattle.leader.proofs.BlockNumbers.{numbers-at, numbers-length, total-suc, width_small, number_cut}
use Rattle.leader.proofs.unpacked_by.Goals as goal

pub loop-i-init : goal.loop-i-init
loop-i-init c = (refl, filled_none _ _ (sym (numbers-length (digit c.args.bits) 0 (widths c.args.grade))))

pub loop-i-preserved : goal.loop-i-preserved
loop-i-preserved c =
    let x = c.args.bits in
    let ws = widths c.args.grade in
    let i = c.loop-i.i in
    let lt : i < 8 = omega arith in
    let next : i + 1 ≡ suc i = omega arith in
    let narrow : c.width-w.result ≤ 5 = omega (arith, c.width-w.ensures, width_small c.args.grade i c.requires.1 lt) in (
      omega (arith, total-suc ws i lt, ap (λ (n : ℕ). total (take n ws)) next, c.loop-i.invariant.0, c.width-w.ensures),
      filled_next 0 _ _ i _ c.loop-i.invariant.1 (omega (arith, numbers-length (digit x) 0 ws))
          (ap (λ (m : ℕ). x / 2 ^ c.loop-i.at % m) (one_shifted c.width-w.result 64 (omega arith))
          ∙ number_cut x c.loop-i.at c.width-w.result
          ∙ ap₂ (λ (l v : ℕ). number v (λ t. digit x (0 + l + t))) c.loop-i.invariant.0 c.width-w.ensures
          ∙ sym (numbers-at (digit x) 0 ws i lt)),
    )

pub returns : goal.returns
returns c = filled-all _ _ c.loop-i.i c.loop-i.invariant.1 (omega (arith, numbers-length (digit c.args.bits) 0 (widths c.args.grade)))
