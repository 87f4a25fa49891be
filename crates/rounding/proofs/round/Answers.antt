-- A turn: f is the multiple of M at v + H or next below, v − f is `cent H v`. H = 2^k and M = 2·H
use Rattle.std.proofs.Common.{◌≡◌, ℕ, ◌+◌, ◌*◌, ◌-◌, ◌^◌, ◌≤◌, ℤ, pos, ◌+ℤ◌, ◌-ℤ◌, nat_abs, List, length, drop, get_or, refl, sym, ◌∙◌, ap, ap₂, subst, arith, rules}
use lib.ListN.{length-set, length-drop}
use Rattle.std.proofs.lemmas.Int.{to_z-of_z}
use mir.Syntax.{w32}
use mir.Val.{SFits, to_z}
use Rattle.integers.specs.Integer.{mod_z}
use Rattle.integers.proofs.Zed.{tz, sfits-to}
use Rattle.e8.specs.Energy.{Within}
use Rattle.e8.specs.Least.{cent}
use Rattle.e8.proofs.Within.{within-at, within-drop}
use Rattle.coordinates.proofs.Size.{fits, sum-abs}
use Rattle.coordinates.proofs.Rest.{double, Scale, scale}
use Rattle.coordinates.proofs.Reading.{read, power-read, plain}
use Rattle.mending.proofs.Figures.{Summed, summed_turn, off-floor, back, cent-low, off-one, floor-one, off-size, floors-size, sizes-low, rounded-within}
use Rattle.mending.specs.Rounded.{sizes}
use Rattle.rounding.proofs.Ranking.{top-is, low-is}
use Rattle.rounding.proofs.round.Goals as goal

-- ---- one coordinate v, at the scale H = 2^k

record Turn (k : ℕ) (h v : ℤ) : Type 0 where
  low : k ≤ 6
  scaled : h ≡ pos (2 ^ k)
  small : nat_abs v ≤ 2 ^ 24

module _ {k : ℕ} {h v : ℤ} (t : Turn k h v) where
  number : read v ≡ v
  number = plain v (omega (arith, t.small))

  raised : read v +ℤ read h ≡ v +ℤ pos (2 ^ k)
  raised = ap₂ ◌+ℤ◌ number (power-read k h t.low t.scaled)

  raised-size : nat_abs (v +ℤ pos (2 ^ k)) ≤ 2 ^ 25
  raised-size = omega (arith, sum-abs v (pos (2 ^ k)) (2 ^ 24) (2 ^ 6) t.small (scale k t.low).small)

  raised-fits : SFits w32 (v +ℤ pos (2 ^ k))
  raised-fits = fits (v +ℤ pos (2 ^ k)) (omega (arith, raised-size))

  raised-read : read (read v +ℤ read h) ≡ v +ℤ pos (2 ^ k)
  raised-read = tz raised raised-fits

  -- rounded, and what comes off
  near-low : nat_abs (cent (2 ^ k) v) ≤ 2 ^ 6
  near-low = cent-low (scale k t.low) v

  near_fits : SFits w32 (cent (2 ^ k) v)
  near_fits = fits (cent (2 ^ k) v) (omega (arith, near-low))

  off-low : nat_abs (v -ℤ cent (2 ^ k) v) ≤ 2 ^ 25
  off-low = off-one (scale k t.low) v t.small

  module _ {f : ℤ} (e : f ≡ read (read v +ℤ read h) -ℤ pos (mod_z (read (read v +ℤ read h)) (2 ^ (k + 1)))) where
    off-read : read f ≡ v -ℤ cent (2 ^ k) v
    off-read =
        tz (e ∙ ap (λ (y : ℤ). y -ℤ pos (mod_z y (2 ^ (k + 1)))) raised-read ∙ off-floor (2 ^ k) (2 ^ (k + 1)) v (double k))
        (fits (v -ℤ cent (2 ^ k) v) (omega (arith, off-low)))

    near-is : read v -ℤ read f ≡ cent (2 ^ k) v
    near-is = ap₂ ◌-ℤ◌ number off-read ∙ back v (cent (2 ^ k) v)

    value-is : read (read v -ℤ read f) ≡ cent (2 ^ k) v
    value-is = tz near-is near_fits

    value-low : nat_abs (read (read v -ℤ read f)) ≤ 2 ^ 7
    value-low = subst (λ (z : ℤ). nat_abs z ≤ 2 ^ 7) (sym value-is) (omega (arith, near-low))

    sum_is : (sum : ℤ) → sum +ℤ read f ≡ sum +ℤ (v -ℤ cent (2 ^ k) v)
    sum_is sum = ap (λ (z : ℤ). sum +ℤ z) off-read

    size-read : {n : ℤ} → n ≡ pos (nat_abs (read (read v -ℤ read f))) → (total : ℤ) → total +ℤ read n ≡ total +ℤ pos (nat_abs (read (read v -ℤ read f)))
    size-read e total = ap (λ (z : ℤ). total +ℤ z) (tz e (fits (pos (nat_abs (read (read v -ℤ read f)))) (omega (arith, value-low))))

    size_fits : (total : ℤ) → nat_abs total ≤ 2 ^ 9 → SFits w32 (total +ℤ pos (nat_abs (read (read v -ℤ read f))))
    size_fits total size = fits _ (omega (arith, sum-abs total (pos (nat_abs (read (read v -ℤ read f)))) (2 ^ 9) (2 ^ 7) size value-low))

  sum_fits : (sum : ℤ) → nat_abs sum ≤ 2 ^ 28 → SFits w32 (sum +ℤ (v -ℤ cent (2 ^ k) v))
  sum_fits sum size = fits _ (omega (arith, sum-abs sum (v -ℤ cent (2 ^ k) v) (2 ^ 28) (2 ^ 25) size off-low))

  -- what comes off in the half part
  below-low : nat_abs (v -ℤ pos (mod_z v (2 * 2 ^ k))) ≤ 2 ^ 25
  below-low = floor-one (scale k t.low) v t.small

  half-read : {g : ℤ} → g ≡ read v -ℤ pos (mod_z (read v) (2 ^ (k + 1))) → (halves : ℤ) → halves +ℤ read g ≡ halves +ℤ (v -ℤ pos (mod_z v (2 * 2 ^ k)))
  half-read e halves =
      ap (λ (z : ℤ). halves +ℤ z)
      (tz (e ∙ ap₂ (λ y n. y -ℤ pos (mod_z y n)) number (double k)) (fits (v -ℤ pos (mod_z v (2 * 2 ^ k))) (omega (arith, below-low))))

  half_fits : (halves : ℤ) → nat_abs halves ≤ 2 ^ 28 → SFits w32 (halves +ℤ (v -ℤ pos (mod_z v (2 * 2 ^ k))))
  half_fits halves size = fits _ (omega (arith, sum-abs halves (v -ℤ pos (mod_z v (2 * 2 ^ k))) (2 ^ 28) (2 ^ 25) size below-low))

-- ---- the figures so far

module _ {H : ℕ} {xs rs : List ℤ} {sum halves total : ℤ} (s : Scale H) (long : length xs ≤ 8) (w : Within (2 ^ 24) xs) (so_far : Summed H xs rs sum halves total) where
  sum-size : nat_abs sum ≤ 2 ^ 28
  sum-size = subst (λ (z : ℤ). nat_abs z ≤ 2 ^ 28) (sym so_far.whole) (omega (arith, long, off-size s xs w))

  halves-size : nat_abs halves ≤ 2 ^ 28
  halves-size = subst (λ (z : ℤ). nat_abs z ≤ 2 ^ 28) (sym so_far.half) (omega (arith, long, floors-size s xs w))

  total_size : nat_abs total ≤ 2 ^ 9
  total_size = subst (λ (z : ℤ). nat_abs z ≤ 2 ^ 9) (sym (so_far.size ∙ ap (λ cs. pos (sizes cs)) so_far.block)) (omega (arith, long, sizes-low s xs))

all-done : {H i : ℕ} {x r : List ℤ} {sum halves total : ℤ} → i ≡ 0 → Summed H (drop i x) (drop i r) sum halves total → Summed H x r sum halves total
all-done {H} {i} {x} {r} {sum} {halves} {total} e s = subst (λ (j : ℕ). Summed H (drop j x) (drop j r) sum halves total) e s

-- ---- the goals

pub overflow_add-v : goal.overflow_add-v
overflow_add-v c =
    let t : Turn c.args.k c.args.h (get_or c.args.x (c.loop-i.i - 1) (pos 0)) = record { low = c.requires.0; scaled = c.requires.1; small = within-at (2 ^ 24) c.args.x (c.loop-i.i - 1) c.requires.2 } in
    sfits-to (raised t) (raised-fits t)

pub floor-f-requires : goal.floor-f-requires
floor-f-requires c =
    let t : Turn c.args.k c.args.h (get_or c.args.x (c.loop-i.i - 1) (pos 0)) = record { low = c.requires.0; scaled = c.requires.1; small = within-at (2 ^ 24) c.args.x (c.loop-i.i - 1) c.requires.2 } in
    (omega (arith, c.requires.0), subst (λ (z : ℤ). nat_abs z ≤ 2 ^ 30) (sym (raised-read t)) (omega (arith, raised-size t)))

pub overflow_sub-c : goal.overflow_sub-c
overflow_sub-c c =
    let t : Turn c.args.k c.args.h (get_or c.args.x (c.loop-i.i - 1) (pos 0)) = record { low = c.requires.0; scaled = c.requires.1; small = within-at (2 ^ 24) c.args.x (c.loop-i.i - 1) c.requires.2 } in
    sfits-to (near-is t c.floor-f.ensures) (near_fits t)

pub overflow_add-sum : goal.overflow_add-sum
overflow_add-sum c =
    let t : Turn c.args.k c.args.h (get_or c.args.x (c.loop-i.i - 1) (pos 0)) = record { low = c.requires.0; scaled = c.requires.1; small = within-at (2 ^ 24) c.args.x (c.loop-i.i - 1) c.requires.2 } in
    let eight : length c.args.x ≡ 8 = search rules in
    let long : length (drop c.loop-i.i c.args.x) ≤ 8 = simp length-drop (omega (arith, eight)) in
    let w = within-drop (2 ^ 24) c.loop-i.i c.args.x c.requires.2 in
    let s = scale c.args.k c.requires.0 in
    sfits-to (sum_is t c.floor-f.ensures _) (sum_fits t _ (sum-size s long w c.loop-i.invariant.so_far))

pub floor-halves-requires : goal.floor-halves-requires
floor-halves-requires c =
    let t : Turn c.args.k c.args.h (get_or c.args.x (c.loop-i.i - 1) (pos 0)) = record { low = c.requires.0; scaled = c.requires.1; small = within-at (2 ^ 24) c.args.x (c.loop-i.i - 1) c.requires.2 } in
    (omega (arith, c.requires.0), subst (λ (z : ℤ). nat_abs z ≤ 2 ^ 30) (sym (number t)) (omega (arith, t.small)))

pub overflow_add-halves : goal.overflow_add-halves
overflow_add-halves c =
    let t : Turn c.args.k c.args.h (get_or c.args.x (c.loop-i.i - 1) (pos 0)) = record { low = c.requires.0; scaled = c.requires.1; small = within-at (2 ^ 24) c.args.x (c.loop-i.i - 1) c.requires.2 } in
    let eight : length c.args.x ≡ 8 = search rules in
    let long : length (drop c.loop-i.i c.args.x) ≤ 8 = simp length-drop (omega (arith, eight)) in
    let w = within-drop (2 ^ 24) c.loop-i.i c.args.x c.requires.2 in
    let s = scale c.args.k c.requires.0 in
    sfits-to (half-read t c.floor-halves.ensures _) (half_fits t _ (halves-size s long w c.loop-i.invariant.so_far))

pub magnitude-sizes-requires : goal.magnitude-sizes-requires
magnitude-sizes-requires c =
    let t : Turn c.args.k c.args.h (get_or c.args.x (c.loop-i.i - 1) (pos 0)) = record { low = c.requires.0; scaled = c.requires.1; small = within-at (2 ^ 24) c.args.x (c.loop-i.i - 1) c.requires.2 } in
    omega (arith, value-low t c.floor-f.ensures)

pub overflow_add-sizes : goal.overflow_add-sizes
overflow_add-sizes c =
    let t : Turn c.args.k c.args.h (get_or c.args.x (c.loop-i.i - 1) (pos 0)) = record { low = c.requires.0; scaled = c.requires.1; small = within-at (2 ^ 24) c.args.x (c.loop-i.i - 1) c.requires.2 } in
    let eight : length c.args.x ≡ 8 = search rules in
    let long : length (drop c.loop-i.i c.args.x) ≤ 8 = simp length-drop (omega (arith, eight)) in
    let w = within-drop (2 ^ 24) c.loop-i.i c.args.x c.requires.2 in
    let s = scale c.args.k c.requires.0 in
    sfits-to (size-read t c.floor-f.ensures c.magnitude-sizes.ensures _)
    (size_fits t c.floor-f.ensures _ (total_size s long w c.loop-i.invariant.so_far))

pub loop-i-preserved : goal.loop-i-preserved
loop-i-preserved c =
    let t : Turn c.args.k c.args.h (get_or c.args.x (c.loop-i.i - 1) (pos 0)) = record { low = c.requires.0; scaled = c.requires.1; small = within-at (2 ^ 24) c.args.x (c.loop-i.i - 1) c.requires.2 } in
    let eight : length c.args.x ≡ 8 = search rules in
    let long : length (drop c.loop-i.i c.args.x) ≤ 8 = simp length-drop (omega (arith, eight)) in
    let w = within-drop (2 ^ 24) c.loop-i.i c.args.x c.requires.2 in
    let s = scale c.args.k c.requires.0 in
    let f = c.floor-f.ensures in
    let i = c.loop-i.invariant in
    record {
      long = length-set c.loop-i.r (c.loop-i.i - 1) _ ∙ i.long;
      so_far =
          summed_turn (2 ^ c.args.k) c.args.x c.loop-i.r _ _ _ _ _ _ _ _ c.loop-i.i (c.loop-i.i - 1)
          (omega arith) (omega arith) eight i.long refl (value-is t f)
          (tz (sum_is t f _) (sum_fits t _ (sum-size s long w i.so_far)) ∙ ap (λ (z : ℤ). to_z w32 c.loop-i.sum-bits +ℤ (get_or c.args.x (c.loop-i.i - 1) (pos 0) -ℤ z)) (sym (value-is t f)))
          (tz (half-read t c.floor-halves.ensures _) (half_fits t _ (halves-size s long w i.so_far)))
          (tz (size-read t f c.magnitude-sizes.ensures _) (size_fits t f _ (total_size s long w i.so_far)))
          i.so_far;
    }

pub ranks-ranks-requires : goal.ranks-ranks-requires
ranks-ranks-requires c =
    let end : c.loop-i.i ≡ 0 = omega arith in
    let all = all-done end c.loop-i.invariant.so_far in
    subst (Within (2 ^ 7)) (sym all.block) (rounded-within (scale c.args.k c.requires.0) c.args.x)

pub returns : goal.returns
returns c =
    let end : c.loop-i.i ≡ 0 = omega arith in
    let all = all-done end c.loop-i.invariant.so_far in
    let w = subst (Within (2 ^ 7)) (sym all.block) (rounded-within (scale c.args.k c.requires.0) c.args.x) in
    let long : length c.loop-i.r ≡ 8 = c.loop-i.invariant.long in
    record {
      block = all.block;
      whole = all.whole;
      half = all.half;
      size = all.size;
      top = grind (arith, to_z-of_z, top-is c.loop-i.r 0);
      low = grind (arith, to_z-of_z, low-is c.loop-i.r 0 w (omega arith) (omega (arith, long)));
    }
