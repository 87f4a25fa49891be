use Rattle.std.proofs.Common.{◌≡◌, ◌∷◌, ◌^◌, ℤ, pos, neg_ℤ, Bool, true, false, cond, List, map, refl, ◌∙◌, rules}
use Rattle.std.proofs.lemmas.List.Recursion.{same_from_clauses}
use Rattle.e8.specs.Ties.{negated}
use Rattle.coordinates.proofs.Size.{within-item}
use Rattle.coordinates.proofs.Maps.{map-is, map-serves}
use Rattle.shaping.proofs.turned.Goals as goal

turned-map : (t : Bool) (xs : List ℤ) → map (λ z. cond t (neg_ℤ z) z) xs ≡ cond t (negated xs) xs
turned-map true xs = same_from_clauses (map neg_ℤ) negated (λ x l. neg_ℤ x ∷ l) refl (λ _ _. refl) (λ _ _. refl) xs
turned-map false xs = same_from_clauses (map (λ z. z)) (λ l. l) (λ x l. x ∷ l) refl (λ _ _. refl) (λ _ _. refl) xs

pub map-requires : goal.map-requires
map-requires c = (
  search rules,
  (
    search rules,
    (
      search rules,
      map-serves c.args.x _ (λ x q r. search rules)
          (λ x k l e. let small = within-item (2 ^ 24) c.args.x k x c.requires l e in search rules),
    ),
  ),
)

pub returns : goal.returns
returns c =
    let xs = c.args.x in
    let w = c.requires in
    map-is _ (λ z. cond c.args.turn (neg_ℤ z) z) _ xs
    (λ i x y q l e k. let small = within-item (2 ^ 24) xs i x w l e in let c : Unit {0} = tt in search rules) (pos 0) c.map.result 8 c.map.ensures.items (search rules)
    ∙ turned-map c.args.turn xs
