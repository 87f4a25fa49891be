-- The block with the filling taken out is small.
use Rattle.std.proofs.Common.{◌≡◌, ℕ, ◌+◌, ◌^◌, length, true, eqb, sym, ap, ◌∙◌, subst, arith, rules}
use Rattle.e8.specs.Energy.{Within}
use Rattle.e8.proofs.Within.{within-to}
use Rattle.filling_search.specs.Filling.{shifted_block, quiet_of, is_quietest}
use Rattle.filling_search.proofs.Tried.{shifted-within}
use Rattle.filling_search.proofs.is_quietest.Goals as goal

pub shifted_block-y-requires : goal.shifted_block-y-requires
shifted_block-y-requires c =
    let p = c.requires in
    (p.1, p.2, p.3, p.4, p.5, within-to (2 ^ 7) (2 ^ 9) c.args.x (omega arith) p.6)

pub quietest-requires : goal.quietest-requires
quietest-requires c =
    let g = c.args in
    let p = c.requires in
    let eight : length g.x ≡ 8 = search rules in
    let y = shifted_block true g.a g.grade g.free g.phi g.x in
    let near : Within (2 ^ 9) y =
    within-to (2 ^ 7 + 256) (2 ^ 9) y (omega arith) (shifted-within g.a g.grade g.free g.phi g.x eight p.1 p.3 true (2 ^ 7) p.6) in
    (p.0, p.1, p.2, p.3, p.4, subst (Within (2 ^ 9)) (sym c.shifted_block-y.ensures) near)

pub returns : goal.returns
unfolding is_quietest
returns c =
    let g = c.args in
    ap (λ (n : ℕ). eqb n g.phi) (c.quietest.ensures ∙ ap (quiet_of g.a g.grade g.free) c.shifted_block-y.ensures)
