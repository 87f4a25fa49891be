use Rattle.std.proofs.Common.{◌∷◌, ◌^◌, pos, map, refl, ◌∙◌, rules}
use lib.Signed.{shr_z}
use Rattle.std.proofs.lemmas.List.Recursion.{same_from_clauses}
use Rattle.frames.specs.Reading.{quotients}
use Rattle.coordinates.proofs.Maps.{map-is}
use Rattle.block_reading.proofs.floor_quotients.Goals as goal

pub returns : goal.returns
unfolding quotients
returns c =
    let xs = c.args.x in
    let a = c.args.a in
    let b = c.requires in
    map-is _ (λ z. shr_z z (2 ^ a)) _ xs (λ i x y q l e k. let c : Unit {0} = tt in search rules) (pos 0) c.map.result 8 c.map.ensures.items (search rules)
    ∙ same_from_clauses (map (λ z. shr_z z (2 ^ a))) (quotients a) (λ x l. shr_z x (2 ^ a) ∷ l) refl (λ _ _. refl) (λ _ _. refl) xs
