use Rattle.std.proofs.Common.{◌≡◌, ℕ, ap, ◌∙◌, refl, add-one, arith}
use Rattle.std.proofs.lemmas.Nat.{one_shl, pow_pos}
use Rattle.std.proofs.Math.Pow.{pow_mono}
use Rattle.bits.specs.Number.{number}
use Rattle.bits.proofs.Digits.{digit}
use Rattle.level_transform.proofs.Stages.{stages, stage-more, all-stages, digit-word}
use Rattle.level_transform.proofs.transformed.Goals as goal

pub loop-j-init : goal.loop-j-init
unfolding stages
loop-j-init c = λ p h. refl

pub overflow_shl-t-in-loop-j : goal.overflow_shl-t-in-loop-j
overflow_shl-t-in-loop-j c = omega (arith, one_shl c.loop-j.j 64 (omega arith), pow_mono {i = c.loop-j.j} {j = 5} (omega arith))

pub loop-j-preserved : goal.loop-j-preserved
loop-j-preserved c =
    let j : ℕ = c.loop-j.j in
    λ p h.
    rw (one_shl j 64 (omega arith), add-one)
    (stage-more 64 j _ c.loop-j.t (digit-word j (omega arith)) (digit c.args.w) c.loop-j.invariant p h)

pub low_bits-requires : goal.low_bits-requires
low_bits-requires c =
    let e = one_shl c.args.m 64 (omega arith) in
    (omega (arith, e, pow_pos c.args.m), omega (arith, e, pow_mono {i = c.args.m} {j = 6} c.requires))

pub returns : goal.returns
returns c =
    let a = c.args in
    let f : ℕ → ℕ = digit a.w in
    let e : c.loop-j.j ≡ 6 = omega arith in
    c.low_bits.ensures ∙ ap (λ (n : ℕ). number n (digit c.loop-j.t)) (one_shl a.m 64 (omega arith))
    ∙ all-stages c.loop-j.t f (λ p h. c.loop-j.invariant p h ∙ ap (λ (j : ℕ). stages j f p) e) a.m c.requires
