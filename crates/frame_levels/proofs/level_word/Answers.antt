-- Each turn puts eight bits above the others. Assumes nothing.
use Rattle.std.proofs.Common.{◌≡◌, ◌+◌, ◌*◌, ◌^◌, ◌%◌, ℕ, ap, ◌∙◌, arith, refl}
use Rattle.std.proofs.lemmas.Grind.{common_steps}
use Rattle.bits.proofs.Message.{number-ext}
use Rattle.bits.specs.Number.{sum_to, number}
use Rattle.frames.specs.Frame.{weight_bit, level_word}
use Rattle.frame_levels.proofs.Joined.{number-fits, number-more}
use Rattle.frame_levels.proofs.Words.{weight-bit-small}
use Rattle.frame_levels.proofs.level_word.Goals as goal

more : (c : goal.After-eight) → c.loop-j.word + c.eight.result * 2 ^ (8 * c.loop-j.j) % 2 ^ 64 ≡ number (8 * c.loop-j.j + 8) (level_word c.args.i c.args.frame.now)
more c =
    let f : ℕ → ℕ = level_word c.args.i c.args.frame.now in
    number-more f (λ q. weight-bit-small c.args.i _) 8 (8 * c.loop-j.j) c.loop-j.word c.eight.result (omega arith) c.loop-j.invariant
    (c.eight.ensures ∙ number-ext 8 (λ p h. ap (weight_bit c.args.i) (grind (arith, common_steps))))

pub loop-j-init : goal.loop-j-init
unfolding sum_to
loop-j-init c = refl

pub overflow_add-word : goal.overflow_add-word
overflow_add-word c =
    let f : ℕ → ℕ = level_word c.args.i c.args.frame.now in
    record { fits = omega (arith, more c, number-fits f (λ q. weight-bit-small c.args.i _) (8 * c.loop-j.j + 8) (omega arith)) }

pub loop-j-preserved : goal.loop-j-preserved
loop-j-preserved c =
    let e : 8 * (c.loop-j.j + 1) ≡ 8 * c.loop-j.j + 8 = omega arith in
    rw e (more c)
