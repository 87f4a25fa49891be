use Rattle.std.proofs.Common.{◌≡◌, ◌^◌, ◌≤◌, pos, get_or, length, arith, rules}
use Rattle.e8.proofs.Within.{within-at}
use Rattle.mending.specs.Rounded.{rank_of, ranks_of}
use Rattle.coordinates.proofs.Maps.{made-is, made-serves}
use Rattle.rounding.proofs.Ranking.{rank-low, ranks-length, ranks-at}
use Rattle.rounding.proofs.ranks.Goals as goal

pub from_fn-requires : goal.from_fn-requires
from_fn-requires c = (
  search rules,
  made-serves 8 _ (λ x q r. search rules)
      (λ i l. let small = within-at (2 ^ 7) c.args.c i c.requires in search rules),
)

pub returns : goal.returns
returns c =
    let xs = c.args.c in
    let w = c.requires in
    let eight : length xs ≡ 8 = search rules in
    made-is _ (λ i. pos (rank_of (get_or xs i (pos 0)) i)) _ (pos 0) (ranks_of xs 0) c.from_fn.result 8 c.from_fn.ensures.items (omega (arith, ranks-length xs 0))
    (λ k l. grind (arith, ranks-at xs 0 k))
    (λ i y q l k.
    let small = within-at (2 ^ 7) xs i w in
    let low : rank_of (get_or xs i (pos 0)) i ≤ 2 ^ 12 = rank-low (get_or xs i (pos 0)) i small l in
    let c : Unit {0} = tt in
    search rules)
