use Rattle.std.proofs.Common.{ℕ, ◌-◌, ◌^◌, ◌<◌, List, ◌++◌, length, take, sym, ap, ◌∙◌, subst, ℤ, arith}
use Rattle.e8.specs.Energy.{Within}
use Rattle.e8.proofs.Within.{within-drop}
use Rattle.filling_search.specs.Filling.{filled_block, quiet_of, quiet_last}
use Rattle.filling_search.proofs.Tried.{quiet-below, last_block, put_last}
use Rattle.filling_search.proofs.fill_last.Goals as goal

pub quietest-phi-requires : goal.quietest-phi-requires
quietest-phi-requires c =
    let p = c.requires in
    let l = c.args.leader.now in
    let x = c.load-x.ensures ∙ last_block l p.5 in
    (p.0, p.1, p.2, p.3, p.4, subst (Within (2 ^ 9)) (sym x) (within-drop (2 ^ 9) (length l - 8) l p.6))

-- the filling that is taken is one of them
pub shifted_block-y-requires : goal.shifted_block-y-requires
shifted_block-y-requires c =
    let g = c.args in
    let p = c.requires in
    let l = g.leader.now in
    let x = c.load-x.ensures ∙ last_block l p.5 in
    let below : c.quietest-phi.result < 2 ^ g.free =
    subst (λ (n : ℕ). n < 2 ^ g.free) (sym c.quietest-phi.ensures) (quiet-below g.a g.grade g.free c.load-x.result) in
    (p.1, p.2, p.3, p.4, omega (arith, below), subst (Within (2 ^ 9)) (sym x) (within-drop (2 ^ 9) (length l - 8) l p.6))

pub returns : goal.returns
unfolding quiet_last
returns c =
    let g = c.args in
    let l = g.leader.now in
    let x = c.load-x.ensures ∙ last_block l c.requires.5 in
    put_last l c.requires.5 c.store.new.part
    ∙ ap (λ (y : List ℤ). take (length l - 8) l ++ y) (c.store.ensures ∙ c.shifted_block-y.ensures
    ∙ ap (λ (φ : ℕ). filled_block g.a g.grade g.free φ c.load-x.result) c.quietest-phi.ensures
    ∙ ap (λ (x : List ℤ). filled_block g.a g.grade g.free (quiet_of g.a g.grade g.free x) x) x)
