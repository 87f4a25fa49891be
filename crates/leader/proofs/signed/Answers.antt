use Rattle.std.proofs.Common.{◌≡◌, length, sym, ◌∙◌, arith, rules}
use Rattle.coordinates.proofs.Filled.{filled_none, filled-all}
use Rattle.e8.proofs.Rows.{ints-length}
use Rattle.leader.proofs.signed.Goals as goal

pub loop-o-init : goal.loop-o-init
loop-o-init c =
    let e : length c.args.s ≡ 8 = search rules in
    filled_none _ _ (sym (ints-length c.args.s ∙ e))

pub returns : goal.returns
returns c =
    let e : length c.args.s ≡ 8 = search rules in
    filled-all _ _ c.loop-o.o c.loop-o.invariant (omega (arith, ints-length c.args.s))
