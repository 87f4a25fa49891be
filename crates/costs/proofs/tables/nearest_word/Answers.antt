use Rattle.std.proofs.Common.{◌≡◌, ℕ, ◌+◌, ◌-◌, ◌*◌, ◌≤◌, get_or, sym, ap₂, ◌∙◌, inr, refl, subst, ℤ, pos, ◌-ℤ◌, nat_abs, w32, to_z, of_z, arith, rules}
use Rattle.e8.proofs.Within.{within-at}
use Rattle.bits.specs.Number.{bit_of}
use Rattle.costs.specs.Costs.{gap, cost_at}
use Rattle.costs.proofs.Chosen.{Chosen, chosen-one, chosen-zero, chosen-word, chosen-costs}
use Rattle.costs.proofs.tables.nearest_word.Goals as goal

pub gap_of-zero-requires : goal.gap_of-zero-requires
gap_of-zero-requires c =
    let q : ℕ = c.loop-p.p - 1 in
    let z = get_or c.args.samples.now q (pos 0) in
    let back : to_z w32 (of_z w32 z) ≡ z = search rules in
    (subst (λ (y : ℤ). nat_abs y ≤ 32768) (sym back) (within-at 32768 c.args.samples.now q c.requires.2), omega (arith, c.bit-c.ensures), inr refl)

pub gap_of-one-requires : goal.gap_of-one-requires
gap_of-one-requires c =
    let q : ℕ = c.loop-p.p - 1 in
    let z = get_or c.args.samples.now q (pos 0) in
    let back : to_z w32 (of_z w32 z) ≡ z = search rules in
    (subst (λ (y : ℤ). nat_abs y ≤ 32768) (sym back) (within-at 32768 c.args.samples.now q c.requires.2), omega (arith, c.bit-c.ensures), inr refl)

pub loop-p-preserved-then-set : goal.loop-p-preserved-then-set
loop-p-preserved-then-set c =
    let ts = c.args.samples.now in
    let q : ℕ = c.loop-p.p - 1 in
    let z = get_or ts q (pos 0) in
    let back : to_z w32 (of_z w32 z) ≡ z = search rules in
    let keep : c.gap_of-zero.result ≡ cost_at 512 ts q (bit_of c.args.a q) =
    c.gap_of-zero.ensures ∙ ap₂ (λ (y : ℤ) (b : ℕ). gap 512 (y -ℤ pos (256 * b))) back c.bit-c.ensures in
    let change : c.gap_of-one.result ≡ cost_at 512 ts q (bit_of c.args.a q + 2) =
    c.gap_of-one.ensures ∙ ap₂ (λ (y : ℤ) (b : ℕ). gap 512 (y -ℤ pos (256 * (b + 2)))) back c.bit-c.ensures in
    chosen-one ts c.args.a c.loop-p.costs c.loop-p.word c.loop-p.p c.loop-p.invariant
    c.loop-p-test.true c.gap_of-zero.result c.gap_of-one.result keep change (omega arith)

pub loop-p-preserved : goal.loop-p-preserved
loop-p-preserved c =
    let ts = c.args.samples.now in
    let q : ℕ = c.loop-p.p - 1 in
    let z = get_or ts q (pos 0) in
    let back : to_z w32 (of_z w32 z) ≡ z = search rules in
    let keep : c.gap_of-zero.result ≡ cost_at 512 ts q (bit_of c.args.a q) =
    c.gap_of-zero.ensures ∙ ap₂ (λ (y : ℤ) (b : ℕ). gap 512 (y -ℤ pos (256 * b))) back c.bit-c.ensures in
    let change : c.gap_of-one.result ≡ cost_at 512 ts q (bit_of c.args.a q + 2) =
    c.gap_of-one.ensures ∙ ap₂ (λ (y : ℤ) (b : ℕ). gap 512 (y -ℤ pos (256 * (b + 2)))) back c.bit-c.ensures in
    chosen-zero ts c.args.a c.loop-p.costs c.loop-p.word c.loop-p.p c.loop-p.invariant
    c.loop-p-test.true c.gap_of-zero.result c.gap_of-one.result keep change (omega arith)

pub returns-clause-word : goal.returns-clause-word
returns-clause-word c =
    let none : c.loop-p.p ≡ 0 = omega arith in
    let ts = c.args.samples.now in
    chosen-word ts c.args.a c.loop-p.costs c.loop-p.word (subst (Chosen ts c.args.a c.loop-p.costs c.loop-p.word) none c.loop-p.invariant)

pub returns-clause-costs : goal.returns-clause-costs
returns-clause-costs c =
    let none : c.loop-p.p ≡ 0 = omega arith in
    let ts = c.args.samples.now in
    chosen-costs ts c.args.a c.loop-p.costs c.loop-p.word (subst (Chosen ts c.args.a c.loop-p.costs c.loop-p.word) none c.loop-p.invariant)
