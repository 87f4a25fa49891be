use Rattle.std.proofs.Common.{◌≡◌, ℕ, zero, suc, ◌+◌, ◌*◌, ◌%◌, ◌^◌, ◌<◌, Bool, true, false, cond, eqb, length, get_or, sym, ap, ◌∙◌, arith, rules}
use mir.Val.{bool_byte}
use Rattle.bits.specs.Number.{given}
use Rattle.bits.proofs.Digits.{digit, digit-small, digit-mod}
use Rattle.bits.proofs.Table.{length-table, table_at}
use Rattle.coordinates.proofs.Filled.{filled_none, filled_next, filled-all}
use Rattle.leader.proofs.over_level.Goals as goal
use Rattle.leader.proofs.over_level.Invariants.{made}

-- z over the bit d, by a shift and a summand that are 0 where there is no level
over : {z : ℕ} → z < 2 ^ 30 → (there : Bool) (d : ℕ) → d < 2 → z * 2 ^ bool_byte there % 2 ^ 32 + given (eqb d 1) (bool_byte there) ≡ cond there (d + 2 * z) z
over low true zero l = omega arith
over low true (suc zero) l = omega arith
over low false zero l = omega arith
over low false (suc zero) l = omega arith
over low there (suc (suc d)) l = absurd (omega arith)

pub loop-p-init : goal.loop-p-init
loop-p-init c =
    let e : length c.args.s ≡ 8 = search rules in
    filled_none _ _ (e ∙ sym (length-table (made c.args.there c.args.word c.args.s) 8))

pub loop-p-preserved : goal.loop-p-preserved
loop-p-preserved c =
    let g = c.args in
    let p = c.loop-p.p in
    let h : p < 8 = omega arith in
    let F = made g.there g.word g.s in
    let shifted = get_or g.s p 0 * 2 ^ bool_byte g.there % 2 ^ 32 in
    filled_next 0 _ _ p _ c.loop-p.invariant (omega (arith, length-table F 8))
    (ap (λ (v : ℕ). shifted + v) c.set_at.ensures
    ∙ ap (λ (d : ℕ). shifted + given (eqb d 1) (bool_byte g.there)) (digit-mod g.word 8 p h)
    ∙ over (c.requires p h) g.there (digit g.word p) (digit-small g.word p)
    ∙ sym (table_at F 8 p h))

pub returns : goal.returns
returns c =
    let g = c.args in
    filled-all _ _ c.loop-p.p c.loop-p.invariant (omega (arith, length-table (made g.there g.word g.s) 8))
