use Rattle.std.proofs.Common.{◌≡◌, ◌^◌, arith, rules, sym, ◌∙◌}
use Rattle.std.proofs.lemmas.Iterator.{YieldsList-from_slice, YieldsList-from_map}
use Rattle.std.proofs.lemmas.Iterator.Adapters.{serves_from_places}
use Rattle.std.proofs.lemmas.Iterator.Consumers.{sum_by_from_yields_List, fits_by_from_yields_list}
use Rattle.e8.specs.Energy.{sq, energy}
use Rattle.e8.proofs.Within.{energy-within}
use Rattle.coordinates.proofs.Size.{energy-sum, within-item}
use Rattle.coordinates.proofs.energy.Goals as goal

-- each coordinate is small enough to be squared
pub sum-requires-clause-can : goal.sum-requires-clause-can
sum-requires-clause-can c = (
  tt,
  serves_from_places (YieldsList-from_slice c.args.part.now cc) (λ x q r. search rules)
      (λ x k h e. let n = within-item (2 ^ 24) c.args.part.now k x.now c.requires.1 h e in search rules),
)

-- the items are the squares, whose sum is the energy
pub sum-requires-clause-fits : goal.sum-requires-clause-fits
sum-requires-clause-fits c =
    let part = c.args.part.now in
    fits_by_from_yields_list sq part c.map.result _ (YieldsList-from_map _ sq (YieldsList-from_slice part cc) c.map.ensures.closure (λ x r q k. search rules))
    (omega (arith, energy-sum part, energy-within (2 ^ 24) part c.requires.1))

pub returns : goal.returns
returns c =
    let part = c.args.part.now in
    let s : c.sum.result ≡ energy part =
    sum_by_from_yields_List sq part c.map.result c.sum.result c.sum.ensures.ran
    (YieldsList-from_map _ sq (YieldsList-from_slice part cc) c.map.ensures.closure (λ x r q k. search rules)) ∙ sym (energy-sum part) in
    omega arith
