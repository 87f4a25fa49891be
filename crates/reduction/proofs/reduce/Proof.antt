-- `reduce` meets its contract
use mathlib.Core.Path.{◌≡◌, refl, sym, ◌∙◌, ap, subst}
use mathlib.Core.List.{List}
use Prim.Native.Nat.{ℕ, ◌+◌, ◌^◌, ◌≤◌}
use native.Mathlib.Omega.{arith}
use lib.Pow.{pow_pos}
use lib.IntN.{ℤ, pos, ◌-ℤ◌, nat_abs}
use lib.ListN.{length, get_or}
use mir.Syntax.{w32}
use mir.Val.{SFits}
use borrow.Author.Rules.{rules}
use Rattle.integers.specs.Integer.{mod_z}
use Rattle.integers.proofs.Zed.{tz, sfits-to}
use Rattle.integers.proofs.Floor.{mod_z-lt}
use Rattle.e8.specs.Energy.{Within}
use Rattle.e8.specs.Least.{lowered}
use Rattle.e8.proofs.Within.{within-at, within-to}
use Rattle.coordinates.proofs.Size.{fits, less-abs, lowered-within}
use Rattle.coordinates.proofs.Rest.{scale}
use Rattle.coordinates.proofs.Reading.{read, plain_size}
use Rattle.reduction.proofs.Reducing.{result, first-row}
use Rattle.reduction.proofs.reduce.Statement.{statement}
use Rattle.reduction.proofs.reduce.Tie as tie

-- what is taken off every place, and the block without it
module _ (a b : ℤ) (ha : nat_abs a ≤ 2 ^ 24) (hb : nat_abs b ≤ 2 ^ 24) where
  gap-fits : SFits w32 (a -ℤ b)
  gap-fits = fits (a -ℤ b) (omega (arith, less-abs a b (2 ^ 24) (2 ^ 24) ha hb))

  gap-size : nat_abs (read (a -ℤ b)) ≤ 2 ^ 25
  gap-size = plain_size (a -ℤ b) (2 ^ 25) (omega (arith, less-abs a b (2 ^ 24) (2 ^ 24) ha hb)) (omega arith)

lowered-size : (d : ℤ) (v y : List ℤ) → y ≡ lowered d v → nat_abs d ≤ 2 ^ 25 → Within (2 ^ 24) v → Within (2 ^ 26) y
lowered-size d v y e h w =
    subst (Within (2 ^ 26)) (sym e) (within-to (2 ^ 24 + 2 ^ 25) (2 ^ 26) (lowered d v) (omega arith) (lowered-within d v (2 ^ 24) (2 ^ 25) h w))

module _ (s : tie.Start) where
  eight : length s.args.v ≡ 8
  eight = search rules

  abbrev x : ℤ
  x = get_or s.args.v 0 (pos 0)

  small : nat_abs x ≤ 2 ^ 24
  small = within-at (2 ^ 24) s.args.v 0 s.requires.1

  is : read x ≡ x
  is = tz refl (fits x (omega (arith, small)))

  x-size : nat_abs (read x) ≤ 2 ^ 24
  x-size = plain_size x (2 ^ 24) small (omega arith)

-- the first place: its remainder, and what is taken off every place
module _ (c : tie.After-remainder-s) where
  abbrev start : tie.Start
  start = c.before.before

  abbrev n : ℕ
  n = mod_z (x start) (2 ^ start.args.k)

  rest : read c.remainder-s.result ≡ pos n
  rest = tz {w = w32} refl (record { sfits = c.remainder-s.type_inv }) ∙ c.remainder-s.ensures ∙ ap (λ (z : ℤ). pos (mod_z z (2 ^ start.args.k))) (is start)

  rest-size : nat_abs (read c.remainder-s.result) ≤ 2 ^ 24
  rest-size =
      let h-scale = scale start.args.k start.requires.0 in
      let le : n ≤ 2 ^ 24 = omega (arith, mod_z-lt (x start) (2 ^ start.args.k) h-scale.some, h-scale.small) in
      subst (λ (z : ℤ). nat_abs z ≤ 2 ^ 24) (sym rest) le

array-copy-out-x : tie.Need-bounds-v-0
array-copy-out-x c = search rules

remainder-requires : tie.Need-remainder-s-requires
remainder-requires c κs = let s = c.before in (omega (arith, s.requires.0), subst (λ (z : ℤ). nat_abs z ≤ 2 ^ 30) (sym (is s)) (omega (arith, small s)))

sub-off : tie.Need-overflow_sub-off
sub-off c = sfits-to refl (search (gap-fits, x-size (start c), rest-size c))

lowered-requires : tie.Need-lowered-y-requires
lowered-requires c κs = (search (gap-size, x-size (start c), rest-size c), c.before.before.requires.1)

later-rows-requires : tie.Need-later_rows-requires
later-rows-requires c κs =
    let s = c.before.before.before in
    -- of the lowered block, and of the one that came
    let low = lowered-size _ s.args.v _ c.lowered-y.ensures (search (gap-size, x-size s, rest-size c.before)) s.requires.1 in
    let own = within-to (2 ^ 24) (2 ^ 26) s.args.v (omega arith) s.requires.1 in
    (s.requires.0, (search))

returns : tie.Need-returns
returns c =
    let r = c.before.before in
    let s = r.before.before in
    c.later_rows.ensures ∙ ap (result (2 ^ s.args.k)) c.before.lowered-y.ensures
    ∙ first-row (2 ^ s.args.k) s.args.v _ (read r.remainder-s.result) (pow_pos s.args.k) (eight s) (rest r)
    (tz (ap (λ (z : ℤ). z -ℤ read r.remainder-s.result) (is s)) (gap-fits (x s) (read r.remainder-s.result) (small s) (rest-size r)))

pub reduce_spec : {M : Type 1} → statement M
reduce_spec =
    tie.close
    (tie.spec
    array-copy-out-x
    remainder-requires
    sub-off
    lowered-requires
    later-rows-requires
    returns)
