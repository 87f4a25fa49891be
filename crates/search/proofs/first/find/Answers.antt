use Rattle.std.proofs.Common.{◌≡◌, ℕ, ◌*◌, ◌≤◌, ◌++◌, List, length, take, ℤ, sym, ap, ◌∙◌, arith}
use Rattle.std.proofs.Math.Seq.{take_at}
use Rattle.std.proofs.lemmas.List.{length-append, length-take-le}
use Rattle.near_frames.proofs.NearKinds.{size}
use Rattle.costs.specs.Costs.{parity_costs}
use Rattle.costs.proofs.Costs.{parity-costs-length}
use Rattle.search.proofs.first.find.Goals as goal

-- the costs, at the front of the array
module _ (ts : List ℤ) (written rest : List ℕ) (are : written ≡ parity_costs ts) where
  long : length written ≡ 2 * length ts
  long = ap length are ∙ parity-costs-length ts

  inside : 2 * length ts ≤ length (written ++ rest)
  inside = omega (arith, length-append written rest, long)

  front : take (2 * length ts) (written ++ rest) ≡ parity_costs ts
  front = take_at written rest (2 * length ts) long ∙ are

pub slice_bounds-costs-end : goal.slice_bounds-costs-end
slice_bounds-costs-end c = omega (arith, (size c.args.kind c.requires.0).positions)

pub slice_bounds-parity_costs-end : goal.slice_bounds-parity_costs-end
slice_bounds-parity_costs-end c = sym (length-take-le _ _ (omega (arith, (size c.args.kind c.requires.0).positions)))

pub parity_costs-requires : goal.parity_costs-requires
parity_costs-requires c =
    let z = size c.args.kind c.requires.0 in
    (length-take-le _ _ (omega (arith, z.positions)), omega (arith, z.positions), c.requires.2)

pub slice_bounds-costs-end-2 : goal.slice_bounds-costs-end-2
slice_bounds-costs-end-2 c = inside c.args.samples.now c.parity_costs.new.costs _ c.parity_costs.ensures

pub slice_bounds-first_level-end : goal.slice_bounds-first_level-end
slice_bounds-first_level-end c =
    let ts = c.args.samples.now in
    sym (ap length (front ts c.parity_costs.new.costs _ c.parity_costs.ensures) ∙ parity-costs-length ts)

pub first_level-requires : goal.first_level-requires
first_level-requires c =
    (c.requires.0, c.requires.1, c.requires.2, c.limit_of.ensures, front c.args.samples.now c.parity_costs.new.costs _ c.parity_costs.ensures)
