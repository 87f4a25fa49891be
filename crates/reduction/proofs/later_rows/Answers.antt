-- Before place i the loop has written the remainders, and q is what came off the last place (`Rows`)
use Rattle.std.proofs.Common.{◌≡◌, ℕ, ◌+◌, ◌*◌, ◌^◌, ◌≤◌, ℤ, pos, ◌+ℤ◌, ◌-ℤ◌, nat_abs, List, get_or, refl, sym, ◌∙◌, ap, ap₂, subst, arith, rules}
use mir.Syntax.{w32}
use mir.Val.{SFits, to_z}
use Rattle.integers.specs.Integer.{mod_z}
use Rattle.integers.proofs.Zed.{tz, sfits-to}
use Rattle.integers.proofs.Floor.{mod_z-lt}
use Rattle.e8.specs.Energy.{Within}
use Rattle.e8.proofs.Within.{within-at}
use Rattle.coordinates.proofs.Size.{fits, less-abs, sum-abs}
use Rattle.coordinates.proofs.Rest.{double, quadruple, scale}
use Rattle.coordinates.proofs.Reading.{read, plain, plain_size}
use Rattle.reduction.proofs.Reducing.{rows_none, rows_next, rows_last}
use Rattle.reduction.proofs.later_rows.Goals as goal

-- one number off another, by itself and on top of a sum
gap_fits : (a b : ℤ) → nat_abs a ≤ 2 ^ 26 → nat_abs b ≤ 2 ^ 26 → SFits w32 (a -ℤ b)
gap_fits a b ha hb = fits (a -ℤ b) (omega (arith, less-abs a b (2 ^ 26) (2 ^ 26) ha hb))

on_fits : (q a b : ℤ) → nat_abs q ≤ 7 * 2 ^ 27 → nat_abs a ≤ 2 ^ 26 → nat_abs b ≤ 2 ^ 26 → SFits w32 (q +ℤ read (a -ℤ b))
on_fits q a b hq ha hb =
    let s = plain_size (a -ℤ b) (2 ^ 27) (omega (arith, less-abs a b (2 ^ 26) (2 ^ 26) ha hb)) (omega arith) in
    fits (q +ℤ read (a -ℤ b)) (omega (arith, sum-abs q (read (a -ℤ b)) (7 * 2 ^ 27) (2 ^ 27) hq s))

-- ---- one coordinate z, at the scale h = 2^k: its remainder s, what is taken off, and the sum q of that

record Small (k : ℕ) (z : ℤ) : Type 0 where
  low : k ≤ 6
  small : nat_abs z ≤ 2 ^ 26

small-at : {k : ℕ} (y : List ℤ) → (k ≤ 6) × Within (2 ^ 26) y → (i : ℕ) → Small k (get_or y i (pos 0))
small-at {k} y h i = record { low = h.0; small = within-at (2 ^ 26) y i h.1 }

module _ {k : ℕ} {z : ℤ} (t : Small k z) where
  is : read z ≡ z
  is = plain z (omega (arith, t.small))

  z-size : nat_abs (read z) ≤ 2 ^ 26
  z-size = plain_size z (2 ^ 26) t.small (omega arith)

  m-low : mod_z z (2 * 2 ^ k) ≤ 2 ^ 26
  m-low = omega (arith, mod_z-lt z (2 * 2 ^ k) (omega (arith, (scale k t.low).some)), (scale k t.low).small)

  module _ {s : ℤ} (e : s ≡ pos (mod_z (read z) (2 ^ (k + 1)))) where
    rest : read s ≡ pos (mod_z z (2 * 2 ^ k))
    rest = tz (e ∙ ap₂ (λ a n. pos (mod_z a n)) is (double k)) (fits (pos (mod_z z (2 * 2 ^ k))) (omega (arith, m-low)))

    rest-size : nat_abs (read s) ≤ 2 ^ 26
    rest-size = subst (λ (a : ℤ). nat_abs a ≤ 2 ^ 26) (sym rest) m-low

    -- what is taken off, on top of q
    sum_is : (q : ℤ) → nat_abs q ≤ 7 * 2 ^ 27 → read (q +ℤ read (read z -ℤ read s)) ≡ q +ℤ (z -ℤ read s)
    sum_is q size =
        let e : q +ℤ read (read z -ℤ read s) ≡ q +ℤ (z -ℤ read s) =
        ap (λ (a : ℤ). q +ℤ a) (tz (ap (λ (a : ℤ). a -ℤ read s) is) (gap_fits z (read s) t.small rest-size)) in
        tz e (subst (SFits w32) e (on_fits q (read z) (read s) size z-size rest-size))

  -- the last coordinate, less q
  last_is : (q : ℤ) → read z -ℤ q ≡ z -ℤ q
  last_is q = ap (λ (a : ℤ). a -ℤ q) is

  last-size : (q : ℤ) → nat_abs q ≤ 7 * 2 ^ 27 → nat_abs (z -ℤ q) ≤ 2 ^ 30
  last-size q size = omega (arith, less-abs z q (2 ^ 26) (7 * 2 ^ 27) t.small size)

  last_fits : (q : ℤ) → nat_abs q ≤ 7 * 2 ^ 27 → SFits w32 (z -ℤ q)
  last_fits q size = fits (z -ℤ q) (last-size q size)

-- ---- the goals

pub loop-i-init : goal.loop-i-init
loop-i-init c = rows_none (2 ^ c.args.k) c.args.y (search rules)

pub remainder-s-requires : goal.remainder-s-requires
remainder-s-requires c = (omega arith, omega (arith, z-size (small-at c.args.y c.requires c.loop-i.i)))

pub overflow_sub-q : goal.overflow_sub-q
overflow_sub-q c =
    let t = small-at {k = c.args.k} c.args.y c.requires c.loop-i.i in
    sfits-to refl (search (gap_fits, z-size t, rest-size t c.remainder-s.ensures))

pub overflow_add-q : goal.overflow_add-q
overflow_add-q c =
    let t = small-at {k = c.args.k} c.args.y c.requires c.loop-i.i in
    let size : nat_abs (to_z w32 c.loop-i.q-bits) ≤ 7 * 2 ^ 27 = omega (arith, c.loop-i.invariant.size) in
    sfits-to refl (search (on_fits, size, z-size t, rest-size t c.remainder-s.ensures))

pub loop-i-preserved : goal.loop-i-preserved
loop-i-preserved c =
    let t = small-at {k = c.args.k} c.args.y c.requires c.loop-i.i in
    let e = c.remainder-s.ensures in
    rows_next (scale c.args.k c.requires.0) (search rules) c.loop-i.invariant _ _ (omega arith) t.small (rest t e)
    (sum_is t e (to_z w32 c.loop-i.q-bits) (omega (arith, c.loop-i.invariant.size)))

pub overflow_sub-z : goal.overflow_sub-z
overflow_sub-z c =
    let t = small-at {k = c.args.k} c.args.y c.requires 7 in
    sfits-to (last_is t _) (last_fits t _ (omega (arith, c.loop-i.invariant.size)))

pub remainder-s-requires-2 : goal.remainder-s-requires-2
remainder-s-requires-2 c =
    let t = small-at {k = c.args.k} c.args.y c.requires 7 in
    let q = to_z w32 c.loop-i.q-bits in
    let size : nat_abs q ≤ 7 * 2 ^ 27 = omega (arith, c.loop-i.invariant.size) in
    (omega arith, subst (λ (a : ℤ). nat_abs a ≤ 2 ^ 30) (sym (tz (last_is t q) (last_fits t q size))) (last-size t q size))

pub returns : goal.returns
returns c =
    let t = small-at {k = c.args.k} c.args.y c.requires 7 in
    let q = to_z w32 c.loop-i.q-bits in
    let size : nat_abs q ≤ 7 * 2 ^ 27 = omega (arith, c.loop-i.invariant.size) in
    rows_last (scale c.args.k c.requires.0) (search rules) c.loop-i.invariant _ (omega arith)
    (tz {w = w32} refl (record { sfits = c.remainder-s-2.type_inv }) ∙ c.remainder-s-2.ensures
    ∙ ap₂ (λ a n. pos (mod_z a n)) (tz (last_is t q) (last_fits t q size)) (quadruple c.args.k))
