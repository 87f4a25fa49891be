-- `shape_leader` meets its contract: what is shaped is the least frame by half the scale, and small. Assumes nothing.
use Rattle.std.proofs.Common.{◌≡◌, ℕ, ◌+◌, ◌-◌, ◌/◌, ◌^◌, ◌≤◌, Bool, true, List, length, ap, ◌∙◌, arith, rules}
use lib.IntN.{ℤ}
use Rattle.e8.specs.Energy.{energy}
use Rattle.e8.specs.Largest.{largest_block}
use Rattle.e8.specs.Ties.{least_frame_by}
use Rattle.frames.specs.Kind.{is_kind, levels, blocks}
use Rattle.frames.specs.Frame.{half, is_odd}
use Rattle.frames.proofs.Limits.{few-levels}
use Rattle.sending.proofs.Sent.{least-is, shape-takes, energy-takes}
use Rattle.sending.proofs.shape_leader.Goals as goal

-- what is shaped by the number of levels and the tie rule of the code
least : (k b number : ℕ) → is_kind k ≡ true → 1 ≤ b → b ≤ 4 → (f : List ℤ) → length f ≡ 2 ^ k → (last : Bool) (a : ℕ) → last ≡ is_odd number → a ≡ levels k
    → least_frame_by last (2 ^ (a + b - 1)) (length f / 8) f ≡ least_frame_by (is_odd number) (half k b) (blocks k) f
least k b number kind low high f long last a odd n =
    least-is k b kind low high f long last a n ∙ ap (λ last. least_frame_by last (half k b) (blocks k) f) odd

pub overflow_add-k : goal.overflow_add-k
overflow_add-k c = omega (arith, few-levels c.args.kind c.requires.0)

pub overflow_cast-k : goal.overflow_cast-k
overflow_cast-k c = omega (arith, few-levels c.args.kind c.requires.0)

pub shape-requires : goal.shape-requires
shape-requires c =
    let s = c.args in
    let t = shape-takes s.kind s.grade c.requires.0 c.requires.1 c.requires.2 s.frame.now c.requires.3 c.requires.4 in
    (omega (arith, few-levels s.kind c.requires.0), t.0, t.1, t.2, t.3)

pub shaped_energies-requires : goal.shaped_energies-requires
shaped_energies-requires c =
    let s = c.args in
    let p = c.requires in
    energy-takes s.kind s.grade p.0 p.1 p.2 s.frame.now p.3 (is_odd s.number) _
    (c.shape.ensures ∙ least s.kind s.grade s.number p.0 p.1 p.2 s.frame.now p.3 c.is_odd.result c.levels.result (search rules) c.levels.ensures)

pub returns-clause-frame : goal.returns-clause-frame
returns-clause-frame c =
    let s = c.args in
    let p = c.requires in
    c.shape.ensures ∙ least s.kind s.grade s.number p.0 p.1 p.2 s.frame.now p.3 c.is_odd.result c.levels.result (search rules) c.levels.ensures

pub returns-clause-energy : goal.returns-clause-energy
returns-clause-energy c =
    let s = c.args in
    let p = c.requires in
    let is = c.shape.ensures ∙ least s.kind s.grade s.number p.0 p.1 p.2 s.frame.now p.3 c.is_odd.result c.levels.result (search rules) c.levels.ensures in
    c.shaped_energies.ensures.0 ∙ ap energy is

pub returns-clause-largest : goal.returns-clause-largest
returns-clause-largest c =
    let s = c.args in
    let p = c.requires in
    let is = c.shape.ensures ∙ least s.kind s.grade s.number p.0 p.1 p.2 s.frame.now p.3 c.is_odd.result c.levels.result (search rules) c.levels.ensures in
    c.shaped_energies.ensures.1 ∙ ap largest_block is
