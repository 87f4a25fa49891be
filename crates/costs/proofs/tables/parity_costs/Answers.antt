use Rattle.std.proofs.Common.{◌≡◌, ◌+◌, ◌*◌, ◌/◌, ◌%◌, ◌≤◌, ◌<◌, length, get_or, sym, ap, ap₂, ◌∙◌, inl, refl, subst}
use Rattle.std.proofs.Common.{ℤ, pos, ◌-ℤ◌, nat_abs, w32, to_z, of_z, arith, rules}
use Rattle.e8.proofs.Within.{within-at}
use Rattle.costs.specs.Costs.{gap, cost_at}
use Rattle.costs.proofs.Stored.{stored-two}
use Rattle.costs.proofs.Costs.{parity-costs-are}
use Rattle.costs.proofs.tables.parity_costs.Goals as goal

pub gap_of-requires : goal.gap_of-requires
gap_of-requires c =
    let z = get_or c.args.samples.now c.loop-p.p (pos 0) in
    let back : to_z w32 (of_z w32 z) ≡ z = search rules in
    (subst (λ (y : ℤ). nat_abs y ≤ 32768) (sym back) (within-at 32768 c.args.samples.now c.loop-p.p c.requires.2), omega arith, inl refl)

pub gap_of-requires-in-loop-p : goal.gap_of-requires-in-loop-p
gap_of-requires-in-loop-p c =
    let z = get_or c.args.samples.now c.loop-p.p (pos 0) in
    let back : to_z w32 (of_z w32 z) ≡ z = search rules in
    (subst (λ (y : ℤ). nat_abs y ≤ 32768) (sym back) (within-at 32768 c.args.samples.now c.loop-p.p c.requires.2), omega arith, inl refl)

pub loop-p-preserved : goal.loop-p-preserved
loop-p-preserved c i h =
    let ts = c.args.samples.now in
    let p = c.loop-p.p in
    let z = get_or ts p (pos 0) in
    let back : to_z w32 (of_z w32 z) ≡ z = search rules in
    let q : p ≡ 2 * p / 2 = omega arith in
    let r : 0 ≡ 2 * p % 2 = omega arith in
    let q' : p ≡ (2 * p + 1) / 2 = omega arith in
    let r' : 1 ≡ (2 * p + 1) % 2 = omega arith in
    let even : c.gap_of.result ≡ cost_at 256 ts (2 * p / 2) (2 * p % 2) =
    c.gap_of.ensures ∙ ap (λ (y : ℤ). gap 256 (y -ℤ pos (256 * 0))) back ∙ ap₂ (cost_at 256 ts) q r in
    let odd : c.gap_of-in-loop-p.result ≡ cost_at 256 ts ((2 * p + 1) / 2) ((2 * p + 1) % 2) =
    c.gap_of-in-loop-p.ensures ∙ ap (λ (y : ℤ). gap 256 (y -ℤ pos (256 * 1))) back ∙ ap₂ (cost_at 256 ts) q' r' in
    let room : 2 * p + 1 < length c.loop-p.costs = omega arith in
    stored-two 0 (λ i. cost_at 256 ts (i / 2) (i % 2)) c.loop-p.costs (2 * p) c.gap_of.result c.gap_of-in-loop-p.result
    room even odd c.loop-p.invariant i (omega arith)

pub returns : goal.returns
returns c =
    let long : length c.loop-p.costs ≡ 2 * length c.args.samples.now = omega arith in
    parity-costs-are c.args.samples.now c.loop-p.costs long (λ i h. c.loop-p.invariant i (omega arith))
