-- The blocks of the fillings, shaped, and the first of least energy.
use Rattle.std.proofs.Common.{◌≡◌, ◌+◌, ◌-◌, ◌/◌, ◌%◌, ◌^◌, ◌≤◌, List, length, false, sym, ap, ◌∙◌, subst, ℤ, arith, rules}
use Rattle.e8.specs.Energy.{energy, Within}
use Rattle.e8.specs.Lattice.{part}
use Rattle.e8.specs.Ties.{least_frame_by}
use Rattle.frames.specs.Free.{first_least}
use Rattle.filling_search.proofs.Tried.{all_take, shaped-is, shaped-takes, shaped-first}
use Rattle.filling_search.proofs.quietest_by.Goals as goal

pub shape-requires : goal.shape-requires
shape-requires c =
    let g = c.args in
    let p = c.requires in
    let eight : length g.x ≡ 8 = search rules in
    let t = subst (λ (y : List ℤ). (length y % 8 ≡ 0) × (length y ≤ 1024) × Within (2 ^ 24) y × (8 ≤ length y)) (sym c.lay.ensures)
    (all_take g.a g.grade g.free g.x eight p.0 p.1 p.2 p.3 p.4 p.5) in
    (omega arith, t.0, t.1, t.2, t.3)

pub first_least-requires : goal.first_least-requires
first_least-requires c =
    let g = c.args in
    let p = c.requires in
    let eight : length g.x ≡ 8 = search rules in
    subst (λ (y : List ℤ). (length y % 8 ≡ 0) × (8 ≤ length y) × (length y ≤ 1024) × Within (2 ^ 10) y)
    (sym (c.shape.ensures ∙ ap (λ (y : List ℤ). least_frame_by false (2 ^ (g.a + g.grade - 1)) (length y / 8) y) c.lay.ensures
    ∙ shaped-is g.a g.grade g.free g.x eight p.0 p.1 p.2 p.3 p.4 p.5))
    (shaped-takes g.a g.grade g.free g.x eight p.0 p.1 p.2 p.3 p.4 p.5)

pub returns-clause-buffer : goal.returns-clause-buffer
returns-clause-buffer c =
    let g = c.args in
    let p = c.requires in
    let eight : length g.x ≡ 8 = search rules in
    c.shape.ensures ∙ ap (λ (y : List ℤ). least_frame_by false (2 ^ (g.a + g.grade - 1)) (length y / 8) y) c.lay.ensures
    ∙ shaped-is g.a g.grade g.free g.x eight p.0 p.1 p.2 p.3 p.4 p.5

pub returns-clause-filling : goal.returns-clause-filling
returns-clause-filling c =
    let g = c.args in
    let p = c.requires in
    let eight : length g.x ≡ 8 = search rules in
    c.first_least.ensures ∙ ap (λ (y : List ℤ). first_least (λ j. energy (part j y)) (length y / 8)) (returns-clause-buffer c)
    ∙ shaped-first g.a g.grade g.free g.x eight p.0 p.1 p.2 p.3 p.4 p.5
