use Rattle.std.proofs.Common.{◌≡◌, ◌^◌, length, ◌∙◌, arith, rules}
use Rattle.e8.proofs.Blockwise.{over-start, over-same, over-step}
use Rattle.filling_search.proofs.Tried.{filled-made}
use Rattle.filling_search.proofs.lay.Goals as goal

pub loop-j-init : goal.loop-j-init
loop-j-init c =
    let g = c.args in
    let eight : length g.x ≡ 8 = search rules in
    over-start (filled-made g.a g.grade g.free g.x eight (2 ^ g.free)) c.requires.5

pub loop-j-preserved : goal.loop-j-preserved
loop-j-preserved c =
    let g = c.args in
    let eight : length g.x ≡ 8 = search rules in
    let made = filled-made g.a g.grade g.free g.x eight (2 ^ g.free) in
    over-step made c.requires.5 c.loop-j.invariant (omega (arith, over-same made c.requires.5 c.loop-j.invariant)) (c.store.ensures ∙ c.shifted_block-y.ensures)
