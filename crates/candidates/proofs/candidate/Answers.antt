use Rattle.std.proofs.Common.{◌≡◌, ◌^◌, pos, nat_abs, get_or, length, ap, ◌+◌, ◌∙◌, arith, rules}
use Rattle.e8.proofs.Within.{within-at}
use Rattle.mending.specs.Rounded.{member_of, members}
use Rattle.mending.proofs.Halving.{members-length, members-at}
use Rattle.coordinates.proofs.Maps.{made-is, made-serves}
use Rattle.candidates.proofs.candidate.Goals as goal

pub from_fn-requires : goal.from_fn-requires
from_fn-requires c = (
  search rules,
  made-serves 8 _ (λ x q r. search rules)
      (λ i l. let small = within-at (2 ^ 7) c.args.c i c.requires.3 in search rules),
)

pub returns : goal.returns
returns c =
    let at = c.args.at in
    let elsewhere = c.args.elsewhere in
    let n = nat_abs c.args.t in
    let xs = c.args.c in
    let q = c.requires in
    let r = c.ranges in
    let eight : length xs ≡ 8 = search rules in
    made-is _ (λ i. member_of at elsewhere n (get_or xs i (pos 0)) i) _ (pos 0) (members at elsewhere n 0 xs) c.from_fn.result 8 c.from_fn.ensures.items
    (members-length at elsewhere n 0 xs ∙ eight) (λ i l. members-at at elsewhere n 0 xs i (omega (arith, eight)) ∙ ap (member_of at elsewhere n (get_or xs i (pos 0))) {x = i + 0} {y = i} (omega arith))
    (λ i y f l k.
    let small = within-at (2 ^ 7) xs i q.3 in
    let c : Unit {0} = tt in
    search rules)
