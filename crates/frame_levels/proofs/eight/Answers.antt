-- Each turn puts one bit above the others. Assumes nothing.
use Rattle.std.proofs.Common.{◌≡◌, ◌+◌, ◌*◌, ◌^◌, ◌%◌, ℕ, pos, get_or, to_z, of_z, w32, ap, rules, sym, ◌∙◌, arith, refl}
use Rattle.bits.specs.Number.{sum_to, number}
use Rattle.frames.specs.Frame.{weight_bit, level_word}
use Rattle.frame_levels.proofs.Joined.{number-fits, number-more, number-one}
use Rattle.frame_levels.proofs.Words.{weight-bit-small}
use Rattle.frame_levels.proofs.eight.Goals as goal

more : (c : goal.After-from) → c.loop-p.word + c.from.result * 2 ^ c.loop-p.p % 2 ^ 64 ≡ number (c.loop-p.p + 1) (level_word c.args.i c.args.part.now)
more c =
    let f : ℕ → ℕ = level_word c.args.i c.args.part.now in
    let z : c.loop-p.p + 0 ≡ c.loop-p.p = omega arith in
    let same : to_z w32 (of_z w32 (get_or c.args.part.now c.loop-p.p (pos 0))) ≡ get_or c.args.part.now c.loop-p.p (pos 0) = search rules in
    let bit : c.from.result ≡ f (c.loop-p.p + 0) = c.from.ensures ∙ c.weight_bit.ensures ∙ ap (weight_bit c.args.i) same ∙ ap f (sym z) in
    number-more f (λ q. weight-bit-small c.args.i _) 1 c.loop-p.p c.loop-p.word c.from.result (omega arith) c.loop-p.invariant
    (bit ∙ sym (number-one (λ t. f (c.loop-p.p + t))))

pub loop-p-init : goal.loop-p-init
unfolding sum_to
loop-p-init c = refl

pub overflow_add-word : goal.overflow_add-word
overflow_add-word c =
    let f : ℕ → ℕ = level_word c.args.i c.args.part.now in
    record { fits = omega (arith, more c, number-fits f (λ q. weight-bit-small c.args.i _) (c.loop-p.p + 1) (omega arith)) }

pub loop-p-preserved : goal.loop-p-preserved
loop-p-preserved c = more c
