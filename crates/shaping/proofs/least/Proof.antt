-- `least` meets its contract: the block is rounded once, both candidates are made of it, and the first of them by cost and first coordinate is taken.
-- That at most one coordinate is changed, and which, is in Mending; the half part, the costs and their comparison are in Halving (`Two`).
-- Here it is shown that the figures of the rounded block fit an i32 and what remainders and costs they make (`Known`), that each local is read as its
-- figure (the facts after `remainder2`, where the last of them is known), and that each call then gives its part of `Two`. H = 2^k and M = 2·H
use mathlib.Core.Path.{◌≡◌, refl, sym, ◌∙◌, ap, ap₂, subst}
use mathlib.Core.Bool.{Bool, true, false, cond}
use mathlib.Core.List.{List}
use Prim.Native.Nat.{ℕ, ◌+◌, ◌*◌, ◌-◌, ◌^◌, ◌/◌, ◌<◌, ◌≤◌}
use native.Mathlib.Omega.{arith}
use lib.IntN.{ℤ, pos, ◌+ℤ◌, ◌-ℤ◌, ◌*ℤ◌, nat_abs}
use lib.ListN.{length, get_or}
use lib.Signed.{lt_z, shr_z}
use mir.Syntax.{w32}
use mir.Val.{to_z, bool_byte}
use borrow.Author.Rules.{rules}
use borrow.Author.Tests.{lt-ltb}
use Rattle.integers.specs.Integer.{mod_z}
use Rattle.integers.proofs.Zed.{#◌, ◌⊖◌, ◌⊗◌, eq!, tz, sfits-to}
use Rattle.e8.specs.Energy.{Within}
use Rattle.e8.specs.Lattice.{bit}
use Rattle.e8.proofs.Within.{within-at}
use Rattle.coordinates.proofs.Size.{fits, abs! }
use Rattle.coordinates.proofs.Rest.{quadruple, Scale, scale}
use Rattle.coordinates.proofs.Reading.{read, plain, plain_size, power-read, power_size}
use Rattle.mending.specs.Rounded.{whole_first, members, sizes, highest, lowest, Rounded}
use Rattle.rounding.specs.declared.RoundedBlock.{RoundedBlock}
use Rattle.mending.proofs.Halving.{left, whole_cost, half_cost, whole_part, half_part, Two, two}
use Rattle.mending.proofs.Figures.{members-within, off-size, floors-size, sizes-low, rounded-within}
use Rattle.shaping.proofs.least.Statement.{statement}
use Rattle.shaping.proofs.least.Tie as tie

-- ---- the rounded block and its figures

abbrev whole_remainder : ℕ → RoundedBlock → ℤ
whole_remainder k q = pos (mod_z q.sum (2 ^ (k + 2)))

abbrev half_remainder : ℕ → RoundedBlock → ℤ
half_remainder k q = pos (mod_z q.halves (2 ^ (k + 2)))

record Known (k : ℕ) (x : List ℤ) (q : RoundedBlock) : Type 0 where
  -- the figures are small
  sum-size : nat_abs q.sum ≤ 2 ^ 28
  halves-size : nat_abs q.halves ≤ 2 ^ 28
  sizes-size : nat_abs q.sizes ≤ 2 ^ 10
  top-size : nat_abs q.top ≤ 2 ^ 12
  low-size : nat_abs q.low ≤ 2 ^ 12
  block_size : Within (2 ^ 7) q.block
  -- the ranks
  top-is : q.top ≡ pos (highest q.block 0)
  low-is : q.low ≡ pos (lowest q.block 0)
  -- what the sums leave is 0 or M, and back across 0 is H or −H
  two : Two (2 ^ k) x q.block
  odd_is : whole_remainder k q ≡ left (2 ^ k) two.odd
  half-odd-is : half_remainder k q ≡ left (2 ^ k) two.half-odd
  odd-size : nat_abs (left (2 ^ k) two.odd) ≤ 2 ^ 7
  back-size : nat_abs (pos (2 ^ k) -ℤ left (2 ^ k) two.half-odd) ≤ 2 ^ 7
  -- the costs as the code makes them
  whole-cost : q.sizes +ℤ cond (lt_z (pos 0) (left (2 ^ k) two.odd)) (pos 2 *ℤ (pos (2 ^ k) -ℤ shr_z q.top 16)) (pos 0)
      ≡ pos (whole_cost (2 ^ k) two.odd q.block)
  half-cost : pos 4 *ℤ pos (2 ^ k) +ℤ cond (lt_z (pos 0) (left (2 ^ k) two.half-odd)) (pos 2 *ℤ shr_z q.low 16) (pos 0)
      ≡ pos (half_cost (2 ^ k) two.half-odd q.block)

-- what is added where the sum is odd
added : (odd : Bool) (M y : ℕ) (z : ℤ) → 0 < M → z ≡ pos y → cond (lt_z (pos 0) (pos (bit odd * M))) z (pos 0) ≡ pos (bit odd * y)
added false M y z m e = ap (λ (n : ℕ). cond (lt_z (pos 0) (pos n)) z (pos 0)) {x = 0 * M} {y = 0} (omega arith) ∙ ap pos {x = 0} {y = 0 * y} (omega arith)
added true M y z m e = ap (λ t. cond t z (pos 0)) (lt-ltb 0 (1 * M) (omega arith)) ∙ e ∙ ap pos {x = y} {y = 1 * y} (omega arith)

module _ (k : ℕ) (x : List ℤ) (q : RoundedBlock) (low : k ≤ 6) (w : Within (2 ^ 24) x) (eight : length x ≡ 8)
    (r : Rounded (2 ^ k) x q.block q.sum q.halves q.sizes q.top q.low) where
  abbrev H : ℕ
  H = 2 ^ k

  abbrev M : ℕ
  M = 2 * H

  H-scale : Scale H
  H-scale = scale k low

  -- the modulus of the sums is 2M
  twice : 2 ^ (k + 2) ≡ 2 * M
  twice = quadruple k ∙ omega arith

  both : Two H x q.block
  both = subst (Two H x) (sym r.block) (two H x H-scale.some eight)

  left-low : (odd : Bool) → nat_abs (left H odd) ≤ 2 ^ 7
  left-low false = omega arith
  left-low true = omega (arith, H-scale.small)

  back_low : (odd : Bool) → nat_abs (pos H -ℤ left H odd) ≤ 2 ^ 7
  back_low false = abs! (# H ⊖ # (0 * M)) (2 ^ 7) (omega (arith, H-scale.small)) (omega (arith, H-scale.small))
  back_low true = abs! (# H ⊖ # (1 * M)) (2 ^ 7) (omega (arith, H-scale.small)) (omega (arith, H-scale.small))

  -- a figure is as small as what it is
  by : (z y : ℤ) (B : ℕ) → z ≡ y → nat_abs y ≤ B → nat_abs z ≤ B
  by z y B e h = subst (λ (v : ℤ). nat_abs v ≤ B) (sym e) h

  known : Known k x q
  known =
      let top : ℕ = highest q.block 0 / 16 in
      let bottom : ℕ = lowest q.block 0 / 16 in
      record {
        sum-size = by q.sum _ (2 ^ 28) r.whole (omega (arith, eight, off-size H-scale x w));
        halves-size = by q.halves _ (2 ^ 28) r.half (omega (arith, eight, floors-size H-scale x w));
        sizes-size = by q.sizes _ (2 ^ 10) (r.size ∙ ap (λ l. pos (sizes l)) r.block) (omega (arith, eight, sizes-low H-scale x));
        top-size = by q.top _ (2 ^ 12) r.top (omega (arith, both.top-low, H-scale.small));
        low-size = by q.low _ (2 ^ 12) r.low (omega (arith, both.low-low, H-scale.small));
        block_size = subst (Within (2 ^ 7)) (sym r.block) (rounded-within H-scale x);
        top-is = r.top;
        low-is = r.low;
        two = both;
        odd_is = ap₂ (λ z m. pos (mod_z z m)) r.whole twice ∙ both.odd-left;
        half-odd-is = ap₂ (λ z m. pos (mod_z z m)) r.half twice ∙ both.half-left;
        odd-size = left-low both.odd;
        back-size = back_low both.half-odd;
        whole-cost =
            (λ j. r.size j +ℤ cond (lt_z (pos 0) (left H both.odd)) (pos 2 *ℤ (pos H -ℤ shr_z (r.top j) 16)) (pos 0))
            ∙ ap (λ (z : ℤ). pos (sizes q.block) +ℤ z) (added both.odd M (M - 2 * top) (pos 2 *ℤ (pos H -ℤ pos top)) (omega (arith, H-scale.some))
            (eq! (# 2 ⊗ (# H ⊖ # top)) (# (M - 2 * top)) (omega (arith, both.top-low))));
        half-cost =
            (λ j. pos 4 *ℤ pos H +ℤ cond (lt_z (pos 0) (left H both.half-odd)) (pos 2 *ℤ shr_z (r.low j) 16) (pos 0))
            ∙ ap₂ ◌+ℤ◌ (eq! (# 4 ⊗ # H) (# (4 * H)) (omega arith)) (added both.half-odd M (2 * bottom) (pos 2 *ℤ pos bottom) (omega (arith, H-scale.some))
            (eq! (# 2 ⊗ # bottom) (# (2 * bottom)) (omega arith)));
      }

-- ---- the facts after `round`

module _ (c : tie.After-round-q) where
  abbrev start : tie.Start
  start = c.before.before

  abbrev q : RoundedBlock
  q = c.round-q.result

  long : length start.args.x ≡ 8
  long = search rules

  f : Known start.args.k start.args.x q
  f = known start.args.k start.args.x q start.requires.0 start.requires.1 long c.round-q.ensures

  abbrev height : ℤ
  height = read c.before.power-h.result

  height-is : height ≡ pos (2 ^ start.args.k)
  height-is = power-read start.args.k c.before.power-h.result start.requires.0 c.before.power-h.ensures

  height-size : nat_abs height ≤ 2 ^ 7
  height-size = power_size start.args.k c.before.power-h.result start.requires.0 c.before.power-h.ensures

  sum-read : read q.sum ≡ q.sum
  sum-read = plain q.sum (omega (arith, f.sum-size))

  halves-read : read q.halves ≡ q.halves
  halves-read = plain q.halves (omega (arith, f.halves-size))

  sizes-read : read q.sizes ≡ q.sizes
  sizes-read = plain q.sizes (omega (arith, f.sizes-size))

  top_read : read q.top ≡ q.top
  top_read = plain q.top (omega (arith, f.top-size))

  low_read : read q.low ≡ q.low
  low_read = plain q.low (omega (arith, f.low-size))

  -- a rank is read as the rank, which is not negative
  top-rank : nat_abs (read q.top) ≡ highest q.block 0
  top-rank = ap nat_abs (top_read ∙ f.top-is)

  top_pos : read q.top ≡ pos (nat_abs (read q.top))
  top_pos = top_read ∙ f.top-is ∙ ap pos (sym top-rank)

  low-rank : nat_abs (read q.low) ≡ lowest q.block 0
  low-rank = ap nat_abs (low_read ∙ f.low-is)

  low-pos : read q.low ≡ pos (nat_abs (read q.low))
  low-pos = low_read ∙ f.low-is ∙ ap pos (sym low-rank)

-- ---- the facts after `remainder2`, where all figures are there

module _ (c : tie.After-remainder-half_odd) where
  abbrev at-remainder : tie.After-remainder-odd
  at-remainder = c.before.before

  abbrev z : tie.After-round-q
  z = at-remainder.before.before

  abbrev known-here : Known (start z).args.k (start z).args.x (q z)
  known-here = f z

  abbrev H-here : ℕ
  H-here = 2 ^ (start z).args.k

  abbrev block : List ℤ
  block = (q z).block

  abbrev is_odd : Bool
  is_odd = known-here.two.odd

  abbrev half-is-odd : Bool
  half-is-odd = known-here.two.half-odd

  abbrev odd : ℤ
  odd = read at-remainder.remainder-odd.result

  abbrev half-odd : ℤ
  half-odd = read c.remainder-half_odd.result

  abbrev back : ℤ
  back = height z -ℤ half-odd

  odd-read : odd ≡ left H-here is_odd
  odd-read =
      tz {w = w32} refl (record { sfits = at-remainder.remainder-odd.type_inv }) ∙ at-remainder.remainder-odd.ensures
      ∙ ap (λ (y : ℤ). pos (mod_z y (2 ^ ((start z).args.k + 2)))) (sum-read z) ∙ known-here.odd_is

  half-odd-read : half-odd ≡ left H-here half-is-odd
  half-odd-read =
      tz {w = w32} refl (record { sfits = c.remainder-half_odd.type_inv }) ∙ c.remainder-half_odd.ensures
      ∙ ap (λ (y : ℤ). pos (mod_z y (2 ^ ((start z).args.k + 2)))) (halves-read z) ∙ known-here.half-odd-is

  back_is : back ≡ pos H-here -ℤ left H-here half-is-odd
  back_is = ap₂ ◌-ℤ◌ (height-is z) half-odd-read

  back_read : read back ≡ pos H-here -ℤ left H-here half-is-odd
  back_read = tz back_is (fits (pos H-here -ℤ left H-here half-is-odd) (omega (arith, known-here.back-size)))

  odd_low : nat_abs odd ≤ 2 ^ 7
  odd_low = subst (λ (y : ℤ). nat_abs y ≤ 2 ^ 7) (sym odd-read) known-here.odd-size

  back-low-here : nat_abs (read back) ≤ 2 ^ 7
  back-low-here = subst (λ (y : ℤ). nat_abs y ≤ 2 ^ 7) (sym back_read) known-here.back-size

-- ---- the later places, each by the one before it: the candidates after `remainder2`, the rest after the second candidate

abbrev at-candidate : tie.After-candidate-whole → tie.After-remainder-half_odd
at-candidate c = c.before.before.before

abbrev at-candidate2 : tie.After-candidate-half → tie.After-remainder-half_odd
at-candidate2 c = at-candidate c.before.before

abbrev at-whole-cost : tie.After-whole_cost-e → tie.After-candidate-half
at-whole-cost c = c.before.before.before

abbrev at-half-cost : tie.After-half_cost-f → tie.After-candidate-half
at-half-cost c = at-whole-cost c.before.before

-- what each call gives

whole_part_lem : (c : tie.After-candidate-whole) → let d = at-candidate c in c.candidate-whole.result ≡ whole_part (H-here d) (is_odd d) (block d)
whole_part_lem c = let d = at-candidate c in c.candidate-whole.ensures ∙ (λ j. members (odd-read d j) (pos 0) (top-rank (z d) j) 0 (block d))

half-part : (c : tie.After-candidate-half) → let d = at-candidate2 c in c.candidate-half.result ≡ half_part (H-here d) (half-is-odd d) (block d)
half-part c = let d = at-candidate2 c in c.candidate-half.ensures ∙ (λ j. members (back_read d j) (height-is (z d) j) (low-rank (z d) j) 0 (block d))

whole-cost-is : (c : tie.After-whole_cost-e) → let d = at-candidate2 (at-whole-cost c) in read c.whole_cost-e.result ≡ pos (whole_cost (H-here d) (is_odd d) (block d))
whole-cost-is c =
    let d = at-candidate2 (at-whole-cost c) in
    let y = z d in
    tz {w = w32} refl (record { sfits = c.whole_cost-e.type_inv }) ∙ c.whole_cost-e.ensures
    ∙ (λ j. sizes-read y j +ℤ cond (lt_z (pos 0) (odd-read d j)) (pos 2 *ℤ (height-is y j -ℤ shr_z (top_read y j) 16)) (pos 0)) ∙ (known-here d).whole-cost

half-cost-is : (c : tie.After-half_cost-f) → let d = at-candidate2 (at-half-cost c) in read c.half_cost-f.result ≡ pos (half_cost (H-here d) (half-is-odd d) (block d))
half-cost-is c =
    let d = at-candidate2 (at-half-cost c) in
    let y = z d in
    tz {w = w32} refl (record { sfits = c.half_cost-f.type_inv }) ∙ c.half_cost-f.ensures
    ∙ (λ j. pos 4 *ℤ height-is y j +ℤ cond (lt_z (pos 0) (half-odd-read d j)) (pos 2 *ℤ shr_z (low_read y j) 16) (pos 0)) ∙ (known-here d).half-cost

-- ---- the candidates' coordinates are small, and the first of them

whole-within : (c : tie.After-candidate-whole) → Within (2 ^ 8) c.candidate-whole.result
whole-within c =
    let d = at-candidate c in
    subst (Within (2 ^ 8)) (sym c.candidate-whole.ensures) (members-within (odd d) (pos 0) _ 0 (block d) (odd_low d) (omega arith) (known-here d).block_size)

half-within : (c : tie.After-candidate-half) → Within (2 ^ 8) c.candidate-half.result
half-within c =
    let d = at-candidate2 c in
    subst (Within (2 ^ 8)) (sym c.candidate-half.ensures)
    (members-within (read (back d)) (height (z d)) _ 0 (block d) (back-low-here d) (height-size (z d)) (known-here d).block_size)

head_read : (v : List ℤ) → Within (2 ^ 8) v → read (get_or v 0 (pos 0)) ≡ get_or v 0 (pos 0)
head_read v w = plain (get_or v 0 (pos 0)) (omega (arith, within-at (2 ^ 8) v 0 w))

whole-head : (c : tie.After-candidate-whole) → let d = at-candidate c in
    read (get_or c.candidate-whole.result 0 (pos 0)) ≡ get_or (whole_part (H-here d) (is_odd d) (block d)) 0 (pos 0)
whole-head c = head_read c.candidate-whole.result (whole-within c) ∙ ap (λ v. get_or v 0 (pos 0)) (whole_part_lem c)

half-head : (c : tie.After-candidate-half) → let d = at-candidate2 c in
    read (get_or c.candidate-half.result 0 (pos 0)) ≡ get_or (half_part (H-here d) (half-is-odd d) (block d)) 0 (pos 0)
half-head c = head_read c.candidate-half.result (half-within c) ∙ ap (λ v. get_or v 0 (pos 0)) (half-part c)

-- a truth value as a number
truth : (t : Bool) → to_z w32 (bool_byte t) ≡ pos (bit t)
truth true = refl
truth false = refl

truth-test : (t : Bool) → lt_z (pos 0) (to_z w32 (bool_byte t)) ≡ t
truth-test true = refl
truth-test false = refl

-- ---- the needs

power-requires : tie.Need-power-h-requires
power-requires c κs = search rules

round-requires : tie.Need-round-q-requires
round-requires c κs = let s = c.before in (s.requires.0, power-read s.args.k c.power-h.result s.requires.0 c.power-h.ensures, s.requires.1)

add-remainder : tie.Need-overflow_add-k
add-remainder c = search rules

remainder-requires : tie.Need-remainder-odd-requires
remainder-requires c κs =
    let y = c.before in
    (omega (arith, (start y).requires.0), plain_size (q y).sum (2 ^ 30) (omega (arith, (f y).sum-size)) (omega arith))

add-remainder-2 : tie.Need-overflow_add-k-2
add-remainder-2 c = search rules

remainder-requires-2 : tie.Need-remainder-half_odd-requires
remainder-requires-2 c κs =
    let y = c.before.before.before in
    (omega (arith, (start y).requires.0), plain_size (q y).halves (2 ^ 30) (omega (arith, (f y).halves-size)) (omega arith))

candidate-requires : tie.Need-candidate-whole-requires
candidate-requires c κs = let d = c.before.before in (odd_low d, omega arith, top_pos (z d), (known-here d).block_size)

sub-candidate : tie.Need-overflow_sub-h
sub-candidate c = let d = at-candidate c in sfits-to (back_is d) (fits _ (omega (arith, (known-here d).back-size)))

candidate-requires-2 : tie.Need-candidate-half-requires
candidate-requires-2 c κs = let d = at-candidate c.before in (back-low-here d, height-size (z d), low-pos (z d), (known-here d).block_size)

whole-cost-requires : tie.Need-whole_cost-e-requires
whole-cost-requires c κs =
    let d = at-candidate2 c.before.before in
    let u = plain_size (q (z d)).sizes (2 ^ 10) (known-here d).sizes-size (omega arith) in
    (height-size (z d), u, plain_size (q (z d)).top (2 ^ 12) (known-here d).top-size (omega arith))

half-cost-requires : tie.Need-half_cost-f-requires
half-cost-requires c κs = let d = at-candidate2 (at-whole-cost c.before) in (height-size (z d), plain_size (q (z d)).low (2 ^ 12) (known-here d).low-size (omega arith))

array-copy-out-whole-first : tie.Need-bounds-whole-0
array-copy-out-whole-first c = search rules

array-copy-out-whole-first-2 : tie.Need-bounds-half-0
array-copy-out-whole-first-2 c = search rules

whole-first-requires : tie.Need-whole_first-t-requires
whole-first-requires c κs = search rules

cast-chosen : tie.Need-overflow_cast-t
cast-chosen c = tt

chosen-requires : tie.Need-chosen-requires
chosen-requires c κs =
    let t = c.whole_first-t.result in
    let half = at-half-cost c.before.before.before in
    (truth t ∙ ap (λ u. pos (bit u)) (sym (truth-test t)), whole-within half.before.before, half-within half)

returns : tie.Need-returns
returns c =
    let first = c.before in
    let cost2 = first.before.before.before in
    let cost = cost2.before.before in
    let half = at-whole-cost cost in
    let whole = half.before.before in
    let t = first.whole_first-t.result in
    c.chosen.ensures ∙ ap (λ u. cond u whole.candidate-whole.result half.candidate-half.result) (truth-test t)
    ∙ ap₂ (cond t) (whole_part_lem whole) (half-part half)
    ∙ (known-here (at-candidate whole)).two.least t
    (first.whole_first-t.ensures ∙ (λ j. whole_first (whole-cost-is cost j) (whole-head whole j) (half-cost-is cost2 j) (half-head half j)))

pub least_spec : {M : Type 1} → statement M
least_spec =
    tie.close
    (tie.spec
    power-requires
    round-requires
    add-remainder
    remainder-requires
    add-remainder-2
    remainder-requires-2
    candidate-requires
    sub-candidate
    candidate-requires-2
    whole-cost-requires
    half-cost-requires
    array-copy-out-whole-first
    array-copy-out-whole-first-2
    whole-first-requires
    cast-chosen
    chosen-requires
    returns)
