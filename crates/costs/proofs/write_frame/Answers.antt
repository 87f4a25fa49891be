use Rattle.std.proofs.Common.{◌≡◌, ℕ, ◌+◌, ◌*◌, ◌≤◌, get_or, refl, sym, ap₂, ◌∙◌, subst, ℤ, pos, ◌+ℤ◌, ◌-ℤ◌, ◌*ℤ◌, nat_abs, w32, to_z, of_z, arith, rules}
use Rattle.integers.proofs.Zed.{tz}
use Rattle.e8.proofs.Within.{within-at}
use Rattle.costs.specs.Costs.{nearest, candidate}
use Rattle.costs.proofs.Stored.{stored_more}
use Rattle.costs.proofs.write_frame.Goals as goal

pub nearest_number-requires : goal.nearest_number-requires
nearest_number-requires c =
    let z = get_or c.args.samples.now c.loop-p.p (pos 0) in
    let back : to_z w32 (of_z w32 z) ≡ z = search rules in (
      subst (λ (y : ℤ). nat_abs y ≤ 32768) (sym back) (within-at 32768 c.args.samples.now c.loop-p.p c.requires.2),
      omega (arith, c.bit.ensures, c.bit-in-loop-p.ensures),
    )

pub loop-p-preserved : goal.loop-p-preserved
loop-p-preserved c q l =
    let z = get_or c.args.samples.now c.loop-p.p (pos 0) in
    let back : to_z w32 (of_z w32 z) ≡ z = search rules in
    let written = tz {w = w32} refl (record { sfits = c.nearest_number.type_inv }) ∙ c.nearest_number.ensures
    ∙ ap₂ (λ (y : ℤ) (r : ℕ). pos 4 *ℤ nearest 512 (y -ℤ pos (256 * r)) +ℤ pos r) back
    (ap₂ (λ (x y : ℕ). x + 2 * y) c.bit.ensures c.bit-in-loop-p.ensures) in
    stored_more (pos 0) (candidate c.args.samples.now c.args.a c.args.b) c.loop-p.frame c.loop-p.p _ (omega arith) written c.loop-p.invariant q l
