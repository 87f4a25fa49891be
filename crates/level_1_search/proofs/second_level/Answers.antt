use Rattle.std.proofs.Common.{◌≡◌, ℕ, ◌-◌, ◌*◌, ◌^◌, ◌<◌, ◌≤◌, ◌++◌, List, [], length, take, get_or, ℤ, sym, ap, ◌∙◌, subst, true, false, arith}
use Rattle.std.proofs.Math.Pow.{pow_pos}
use Rattle.std.proofs.Math.Seq.{take_at}
use Rattle.std.proofs.lemmas.List.{length-append, length-take-le}
use Rattle.near_frames.proofs.NearKinds.{size}
use Rattle.near_frames.proofs.Frames.{limit-low}
use Rattle.costs.specs.Costs.{nearest_word, change_costs}
use Rattle.costs.proofs.Chosen.{nearest-low}
use Rattle.costs.proofs.Costs.{change-costs-length, change-costs-low}
use Rattle.level_1_search.specs.Changes.{Changed}
use Rattle.level_1_search.proofs.Words.{searched-found, searched-none}
use Rattle.level_1_search.proofs.second_level.Goals as goal

-- the costs of changes, at the front of the array
module _ (ts : List ℤ) (a base : ℕ) (written rest : List ℕ) (word : base ≡ nearest_word ts a) (costs : written ≡ change_costs ts a (nearest_word ts a)) where
  are : written ≡ change_costs ts a base
  are = costs ∙ ap (change_costs ts a) (sym word)

  long : length written ≡ 2 * length ts
  long = ap length are ∙ change-costs-length ts a base

  inside : 2 * length ts ≤ length (written ++ rest)
  inside = omega (arith, length-append written rest, long)

  front : take (2 * length ts) (written ++ rest) ≡ change_costs ts a base
  front = take_at written rest (2 * length ts) long ∙ are

  low : (k : ℕ) → length ts ≡ 2 ^ k → base < 2 ^ (2 ^ k)
  low k e = omega (arith, word, nearest-low ts a, ap (λ (n : ℕ). 2 ^ n) e)

pub slice_bounds-costs-end : goal.slice_bounds-costs-end
slice_bounds-costs-end c = omega (arith, (size c.args.kind c.requires.0).positions)

pub slice_bounds-nearest_word-end : goal.slice_bounds-nearest_word-end
slice_bounds-nearest_word-end c = sym (length-take-le _ _ (omega (arith, (size c.args.kind c.requires.0).positions)))

pub nearest_word-base-requires : goal.nearest_word-base-requires
nearest_word-base-requires c =
    let z = size c.args.kind c.requires.0 in
    (length-take-le _ _ (omega (arith, z.positions)), omega (arith, z.positions), c.requires.2)

pub slice_bounds-costs-end-2 : goal.slice_bounds-costs-end-2
slice_bounds-costs-end-2 c =
    let w = c.nearest_word-base in
    inside c.args.samples.now c.args.a w.result w.new.costs _ w.ensures.word w.ensures.costs

pub slice_bounds-changes-end : goal.slice_bounds-changes-end
slice_bounds-changes-end c =
    let w = c.nearest_word-base in
    let ts = c.args.samples.now in
    sym (ap length (front ts c.args.a w.result w.new.costs _ w.ensures.word w.ensures.costs) ∙ change-costs-length ts c.args.a w.result)

pub changes-requires : goal.changes-requires
changes-requires c =
    let w = c.nearest_word-base in
    let ts = c.args.samples.now in
    let at_front = front ts c.args.a w.result w.new.costs _ w.ensures.word w.ensures.costs in (
      c.requires.0,
      c.requires.1,
      ap length at_front ∙ change-costs-length ts c.args.a w.result,
      omega (arith, pow_pos (c.args.kind - 3)),
      omega (arith, limit-low c.args.kind c.requires.0),
      λ i. subst (λ (xs : List ℕ). get_or xs i 0 ≤ 2 ^ 20) (sym at_front) (change-costs-low ts c.args.a w.result i),
    )

pub returns-in_err-found : goal.returns-in_err-found
returns-in_err-found c =
    let w = c.nearest_word-base in
    let ts = c.args.samples.now in
    let k = c.args.kind in
    rw c.from_residual.ensures
    (searched-none ts c.args.a w.result k c.requires.1
    (low ts c.args.a w.result w.new.costs [] w.ensures.word w.ensures.costs k c.requires.1) c.args.limit c.requires.3
    (subst (λ (xs : List ℕ). Changed k xs w.result c.args.limit false 0 0)
    (front ts c.args.a w.result w.new.costs _ w.ensures.word w.ensures.costs) c.in_err-found.ensures))

pub returns : goal.returns
returns c =
    let w = c.nearest_word-base in
    let ts = c.args.samples.now in
    let k = c.args.kind in
    let found = c.in_ok-found.found in
    searched-found ts c.args.a w.result k c.requires.1
    (low ts c.args.a w.result w.new.costs [] w.ensures.word w.ensures.costs k c.requires.1) c.args.limit c.requires.3 found.word found.cost
    (subst (λ (xs : List ℕ). Changed k xs w.result c.args.limit true found.word found.cost)
    (front ts c.args.a w.result w.new.costs _ w.ensures.word w.ensures.costs) c.in_ok-found.ensures)
