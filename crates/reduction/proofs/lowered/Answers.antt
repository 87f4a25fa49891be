use Rattle.std.proofs.Common.{◌∷◌, ◌∙◌, ◌^◌, pos, ◌-ℤ◌, map, refl, arith, rules}
use mir.Syntax.{w32}
use mir.Val.{SFits}
use Rattle.std.proofs.lemmas.List.Recursion.{same_from_clauses}
use Rattle.e8.specs.Least.{lowered}
use Rattle.coordinates.proofs.Size.{within-item, fits, less-abs}
use Rattle.coordinates.proofs.Maps.{map-is, map-serves}
use Rattle.reduction.proofs.lowered.Goals as goal

pub map-requires : goal.map-requires
map-requires c = (
  search rules,
  (
    search rules,
    (
      search rules,
      map-serves c.args.x _ (λ x q r. search rules)
          (λ x k l e. let small = within-item (2 ^ 24) c.args.x k x c.requires.1 l e in search rules),
    ),
  ),
)

pub returns : goal.returns
returns c =
    let xs = c.args.x in
    let r = c.requires in
    map-is _ (λ v. v -ℤ c.args.h) _ xs (λ i x y q l e k.
    let f : SFits w32 (x -ℤ c.args.h) = fits (x -ℤ c.args.h) (omega (arith, less-abs x c.args.h (2 ^ 24) (2 ^ 25) (within-item (2 ^ 24) xs i x r.1 l e) r.0)) in
    let h = c.ranges.h in let c : Unit {0} = tt in search rules) (pos 0) c.map.result 8 c.map.ensures.items (search rules)
    ∙ same_from_clauses (map (λ v. v -ℤ c.args.h)) (lowered c.args.h) (λ x l. (x -ℤ c.args.h) ∷ l) refl (λ _ _. refl) (λ _ _. refl) xs
