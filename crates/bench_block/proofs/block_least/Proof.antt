-- `block_least`: each test that is not passed refuses; past them all, the least member is written. Assumes nothing.
use Prim.Native.Nat.{ℕ, ◌^◌, ◌≤◌, ◌<◌}
use mathlib.Core.Path.{◌≡◌, refl, sym, ap, ◌∙◌, subst}
use mathlib.Core.Bool.{Bool, true, false}
use mathlib.Core.List.{List}
use native.Mathlib.Omega.{arith}
use lib.IntN.{ℤ}
use lib.ListN.{length}
use borrow.Author.Rules.{rules}
use borrow.Author.Tests.{eq-eqb, ne_eqb, le-leb, lt-leb}
use Rattle.e8.specs.Energy.{Within, is_within}
use Rattle.e8.specs.Least.{least_block}
use Rattle.e8.proofs.Within.{test-within}
use Rattle.bench_block.specs.Shapeable.{shapeable}
use Rattle.bench_block.proofs.block_least.Statement.{statement}
use Rattle.bench_block.proofs.block_least.Tie as tie

-- ---- the definition, as far as the tests go

module _ (k : ℕ) (x : List ℤ) (n : ℕ) where
  by-scale : 6 < k → shapeable k x n ≡ false
  unfolding shapeable
  by-scale e = rw (lt-leb k 6 e)

  by-block : k ≤ 6 → (length x ≡ 8 → ⊥) → shapeable k x n ≡ false
  unfolding shapeable
  by-block e l = rw (le-leb k 6 e, ne_eqb (length x) 8 l)

  by-lent : k ≤ 6 → length x ≡ 8 → (n ≡ 8 → ⊥) → shapeable k x n ≡ false
  unfolding shapeable
  by-lent e l m = rw (le-leb k 6 e, eq-eqb (length x) 8 l, ne_eqb n 8 m)

  by-range : k ≤ 6 → length x ≡ 8 → n ≡ 8 → shapeable k x n ≡ is_within (2 ^ 24) x
  unfolding shapeable
  by-range e l m = rw (le-leb k 6 e, eq-eqb (length x) 8 l, eq-eqb n 8 m)

-- ---- both facts of the contract, by the answer

module _ (s : tie.Start) where
  abbrev k : ℕ
  k = s.args.k

  abbrev x : List ℤ
  x = s.args.block.now

  abbrev lent : List ℤ
  lent = s.args.least.now

  abbrev answer : Bool
  answer = shapeable k x (length lent)

  refused : answer ≡ false → (false ≡ answer) × (lent ≡ lent)
  refused e = (sym e, refl)

returns : tie.Need-returns-then-k-gt6
returns c = let s = c.before in refused s (by-scale (k s) (x s) (length (lent s)) c.if-k-gt6.true)

returns-2 : tie.Need-returns-then-block-ne8
returns-2 c = let s = c.before.before in refused s (by-block (k s) (x s) (length (lent s)) c.before.if-k-gt6.false c.if-block-ne8.true)

within-requires : tie.Need-within-requires
within-requires c κs = omega arith

-- past the other tests, that of the range decides
abbrev start : tie.After-within → tie.Start
start c = c.before.before.before.before

range-decides : (c : tie.After-within) → answer (start c) ≡ is_within (2 ^ 24) (x (start c))
range-decides c =
    let s = start c in
    by-range (k s) (x s) (length (lent s)) c.before.before.before.if-k-gt6.false c.before.before.if-block-ne8.false (omega arith)

returns-4 : tie.Need-returns-then-not-within
returns-4 c = let n = c.before in refused (start n) (range-decides n ∙ sym n.within.ensures ∙ c.if-not-within.true)

-- every coordinate is in the range
passed : (c : tie.Else-not-within) → is_within (2 ^ 24) (x (start c.before)) ≡ true
passed c = let n = c.before in sym n.within.ensures ∙ c.if-not-within.false

load-requires : tie.Need-load-requires
load-requires c κs = search rules

least-requires : tie.Need-least-y-requires
least-requires c κs =
    let e = c.before in
    (omega arith, subst (Within (2 ^ 24)) (sym c.load.ensures) (test-within (2 ^ 24) (x (start e.before)) (passed e)))

store-requires : tie.Need-store-requires
store-requires c κs = search rules

same_length : tie.Need-shape_of-least
same_length c = search rules

returns-5 : tie.Need-returns
returns-5 c =
    let w = c.before in
    let y = w.before.before in
    let e = y.before.before in
    let s = start e.before in
    (sym (range-decides e.before ∙ passed e), w.store.ensures ∙ y.least-y.ensures ∙ ap (least_block (2 ^ k s)) y.before.load.ensures)

pub block_least_spec : {M : Type 1} → statement M
block_least_spec =
    tie.close
    (tie.spec
    returns
    returns-2
    (λ c. let s = c.before.before.before in
    refused s (by-lent (k s) (x s) (length (lent s)) c.before.before.if-k-gt6.false c.before.if-block-ne8.false (λ e. omega arith)))
    within-requires
    returns-4
    load-requires
    least-requires
    store-requires
    same_length
    returns-5)
