use Rattle.std.proofs.Common.{◌≡◌, ℕ, ◌-◌, ◌+◌, ◌/◌, ◌%◌, ◌^◌, List, map, reverse, take, drop, fold, ◌∙◌, arith, rules}
use Rattle.std.proofs.lemmas.Iterator.Adapters.{serves_from_places, YieldsList-from_rev_slice}
use Rattle.level_tables.proofs.Gathered.{with_bit, part_below, fold-part}
use Rattle.level_tables.proofs.gather_eight.Goals as goal

-- each entry is below 64
pub fold-requires-clause-can : goal.fold-requires-clause-can
fold-requires-clause-can c =
    let a = c.args in
    let n : ℕ = a.from + 8 - a.from in
    let xs : List ℕ = take n (drop a.from a.table.now) in (
      tt,
      serves_from_places (YieldsList-from_rev_slice xs cc) (λ x q h. search rules)
          (λ x k l e _ _ _ _ _ _. part_below a.table.now a.from n (omega arith) (omega arith) c.requires.1 x.now k l e),
    )

pub returns : goal.returns
returns c =
    let a = c.args in
    let n : ℕ = a.from + 8 - a.from in
    let e : c.fold.result ≡ fold with_bit 0 (map (λ entry. a.bits / 2 ^ entry % 2) (reverse (take n (drop a.from a.table.now)))) = search rules in
    e ∙ fold-part a.table.now a.from n (omega arith) (omega arith) a.bits
