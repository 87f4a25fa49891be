use Rattle.std.proofs.Common.{◌≡◌, ℕ, ◌+◌, get_or, sym, ap, ◌∙◌, arith}
use Rattle.bits.proofs.Message.{number_of}
use Rattle.bits.proofs.Digits.{digit, digit-small, digit-none}
use Rattle.level_codeword.specs.Laid.{laid}
use Rattle.level_codeword.proofs.Laid.{laid_none, laid_more}
use Rattle.level_codeword.proofs.spread_eight.Goals as goal

pub loop-k-init : goal.loop-k-init
loop-k-init c = λ S l. digit-none S ∙ sym (laid_none _ _ S)

pub loop-k-preserved : goal.loop-k-preserved
loop-k-preserved c =
    let a = c.args in
    let k : ℕ = c.loop-k.k in
    let mask : ℕ → ℕ = λ i. get_or a.masks.now (a.from + i) 0 in
    let bit : ℕ → ℕ = λ i. digit a.bits (a.from + i) in
    λ S l. laid_more 64 k mask bit (digit-small a.bits (a.from + k)) c.loop-k.w S l (c.loop-k.invariant S l)

pub returns : goal.returns
returns c =
    let a = c.args in
    let all : c.loop-k.k ≡ 8 = omega arith in
    number_of c.loop-k.w 64 (c.loop-k.auto.w-fits).fits (λ S l.
    c.loop-k.invariant S l ∙ ap (λ (k : ℕ). laid k (λ i. get_or a.masks.now (a.from + i) 0) (λ i. digit a.bits (a.from + i)) S) all)
