use Rattle.std.proofs.Common.{◌≡◌, ℕ, ◌^◌, pos, ℤ, Bool, true, false, cond, List, get_or, length, refl, rules}
use lib.Signed.{lt_z}
use Rattle.e8.proofs.Within.{within-at}
use Rattle.coordinates.proofs.Maps.{made-is, made-serves}
use Rattle.candidates.proofs.chosen.Goals as goal

-- either of two blocks, place by place
at : (u : Bool) (a b : List ℤ) (i : ℕ) → get_or (cond u a b) i (pos 0) ≡ cond u (get_or a i (pos 0)) (get_or b i (pos 0))
at true a b i = refl
at false a b i = refl

long : (u : Bool) (a b : List ℤ) (n : ℕ) → length a ≡ n → length b ≡ n → length (cond u a b) ≡ n
long true a b n e f = e
long false a b n e f = f

pub from_fn-requires : goal.from_fn-requires
from_fn-requires c = (
  search rules,
  made-serves 8 _ (λ x q r. search rules)
      (λ i l. let x = within-at (2 ^ 8) c.args.a i c.requires.1 in let y = within-at (2 ^ 8) c.args.b i c.requires.2 in search rules),
)

pub returns : goal.returns
returns c =
    let a = c.args.a in
    let b = c.args.b in
    let first = lt_z (pos 0) c.args.t in
    let q = c.requires in
    let t = c.ranges.t in
    made-is _ (λ i. cond first (get_or a i (pos 0)) (get_or b i (pos 0))) _ (pos 0) (cond first a b) c.from_fn.result 8 c.from_fn.ensures.items
    (long first a b 8 (search rules) (search rules)) (λ i l. at first a b i)
    (λ i y f l k.
    let small = within-at (2 ^ 8) a i q.1 in
    let small' = within-at (2 ^ 8) b i q.2 in
    let c : Unit {0} = tt in
    search rules)
