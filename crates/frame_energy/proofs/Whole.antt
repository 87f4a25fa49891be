-- Squares and sums of whole numbers as f64: nothing is rounded. Assumes nothing.
use Prim.Native.Nat.{ℕ, suc, ◌+◌, ◌*◌, ◌^◌, ◌≤◌, ◌<◌}
use mathlib.Core.Path.{◌≡◌, ap, ap₂, ◌∙◌}
use mathlib.Core.Bool.{Bool, true, false}
use mathlib.Core.List.{List}
use native.Mathlib.Nat.{mul-pos}
use native.Mathlib.Omega.{arith}
use lib.Dec.{T, le→leb}
use lib.IntN.{ℤ, pos, negsuc, nat_abs}
use lib.ListN.{length, get_or, drop, drop_of_length-le}
use lib.Ieee.{Float, nan, inf, fin, binary64, up, down, round, add, mul, of_int, in_float, in_signed, to_signed}
use lib.Ieee.Exact.{HasValue}
use lib.Ieee.Fits.{down_pos}
use lib.Ieee.Scale.{round_same}
use lib.Ieee.Back.{round_whole, positive_back}
use Rattle.floats.proofs.Exact.{add_parts}
use Rattle.e8.specs.Energy.{sq, energy}
use Rattle.coordinates.proofs.Size.{energy-drop}

-- a whole number as f64
abbrev pub whole : ℕ → Float
whole n = of_int binary64 (pos n)

value : (n : ℕ) → n ≤ 2 ^ 53 → HasValue (whole n) false n 1
unfolding of_int
value n h = round_whole binary64 false n h

pub whole_sum : (a b : ℕ) → a ≤ 2 ^ 53 → b ≤ 2 ^ 53 → add binary64 (whole a) (whole b) ≡ whole (a + b)
unfolding of_int
whole_sum a b h k = add_parts (whole a) (whole b) a b 1 (omega arith) (value a h) (value b k)

same-square : (m : ℕ) (e : ℤ) (a : ℕ) → m * up e * 1 ≡ a * down e → round binary64 false (m * up e * (m * up e)) (down e * down e) ≡ whole (a * a)
unfolding of_int
same-square m e a h =
    round_same binary64 false (m * up e * (m * up e)) (down e * down e) (a * a) 1 (mul-pos (down_pos e) (down_pos e)) (omega arith)
    (omega (arith, h, ap (λ (x : ℕ). x * x) h))

-- ± a times itself
itself : (x : Float) (s : Bool) (a : ℕ) → HasValue x s a 1 → mul binary64 x x ≡ whole (a * a)
unfolding mul of_int
itself nan s a v = absurd v
itself (inf t) s a v = absurd v
itself (fin false m e) s a v = same-square m e a v.1
itself (fin true m e) s a v = same-square m e a v.1

pub whole-square : (z : ℤ) → nat_abs z ≤ 2 ^ 24 → mul binary64 (of_int binary64 z) (of_int binary64 z) ≡ whole (sq z)
unfolding of_int sq
whole-square (pos n) h = itself (round binary64 false n 1) false n (round_whole binary64 false n (omega arith))
whole-square (negsuc n) h = itself (round binary64 true (suc n) 1) true (suc n) (round_whole binary64 true (suc n) (omega arith))

-- cast back
pub back : (n : ℕ) → n ≤ 2 ^ 53 → T (in_signed binary64 63 (whole n)) × (to_signed 63 (whole n) ≡ pos n)
unfolding in_float
back n h = positive_back binary64 63 n (le→leb n (2 ^ 53) h) (omega arith)

-- ---- sums at even and odd places

-- two sums as f64, which make the energy of the first i pairs of coordinates
pub record Apart (xs : List ℤ) (i : ℕ) (even odd : Float) : Type 0 where
  pub evens : ℕ
  pub odds : ℕ
  pub even_is : even ≡ whole evens
  pub odd_is : odd ≡ whole odds
  pub both : evens + odds + energy (drop (2 * i) xs) ≡ energy xs

pub apart_none : (xs : List ℤ) {z : Float} → z ≡ whole 0 → Apart xs 0 z z
apart_none xs e = record { evens = 0; odds = 0; even_is = e; odd_is = e; both = omega arith }

module _ {xs : List ℤ} {i : ℕ} {even odd : Float} (a : Apart xs i even odd) (few : energy xs ≤ 2 ^ 53) where
  pub apart_more : 2 * i + 1 < length xs → {y z : Float} → y ≡ whole (sq (get_or xs (2 * i) (pos 0))) → z ≡ whole (sq (get_or xs (2 * i + 1) (pos 0)))
      → Apart xs (i + 1) (add binary64 even y) (add binary64 odd z)
  apart_more h e d =
      let p = energy-drop xs (2 * i) (omega arith) in
      let q = energy-drop xs (2 * i + 1) h in
      let t : 2 * i + 1 + 1 ≡ 2 * (i + 1) = omega arith in
      let u = ap (λ (n : ℕ). energy (drop n xs)) t in
      record {
        evens = a.evens + sq (get_or xs (2 * i) (pos 0));
        odds = a.odds + sq (get_or xs (2 * i + 1) (pos 0));
        even_is = ap₂ (add binary64) a.even_is e ∙ whole_sum a.evens (sq (get_or xs (2 * i) (pos 0))) (omega (arith, a.both, p)) (omega (arith, a.both, p));
        odd_is = ap₂ (add binary64) a.odd_is d
            ∙ whole_sum a.odds (sq (get_or xs (2 * i + 1) (pos 0))) (omega (arith, a.both, p, q)) (omega (arith, a.both, p, q));
        both = omega (arith, a.both, p, q, u);
      }

  pub apart-all : length xs ≤ 2 * i → add binary64 even odd ≡ whole (energy xs)
  unfolding energy
  apart-all h =
      let e : energy (drop (2 * i) xs) ≡ 0 = ap energy (drop_of_length-le xs h) in
      let s : a.evens + a.odds ≡ energy xs = omega (arith, a.both) in
      ap₂ (add binary64) a.even_is a.odd_is ∙ whole_sum a.evens a.odds (omega (arith, s)) (omega (arith, s)) ∙ ap whole s
