-- A fit sample is a whole number of 256ths: what a sample is by its value. Assumes nothing.
use Prim.Native.Nat.{ℕ, zero, suc, ◌*◌, ◌/◌, ◌%◌, ◌≤◌}
use mathlib.Core.Path.{◌≡◌, refl, sym, ap, ◌∙◌}
use mathlib.Core.Bool.{Bool, true, false, true≢false}
use native.Mathlib.Nat.{div-add-mod', mul-div_cancel, mul-mod_left, mul_comm, mul-le-mul_right, le_of_mul-le-mul_right}
use native.Mathlib.Omega.{arith}
use lib.Dec.{eqb, leb}
use lib.IntN.{ℤ, pos, negsuc, neg_ℤ, nat_abs, ◌*ℤ◌}
use lib.Ieee.{Float, nan, inf, fin, binary32, up, down, round, of_int}
use lib.Ieee.Exact.{HasValue}
use lib.Ieee.Fits.{down_pos}
use lib.Ieee.Back.{round_whole}
use borrow.Author.Tests.{eqb-true, leb-true, le-leb}
use Rattle.e8.proofs.Within.{and_both}
use Rattle.floats.proofs.Exact.{smaller-parts}
use Rattle.samples.specs.Sample.{is_fit, sample_in_256ths, signed, FitByValue}

-- ---- the size in 256ths of a fit sample: whole, and at most 32,768

record Whole (m : ℕ) (e : ℤ) : Type 0 where
  is : 256 * (m * up e) / down e * down e ≡ 256 * (m * up e)
  small : 256 * (m * up e) / down e ≤ 32768

fit-whole : (s : Bool) (m : ℕ) (e : ℤ) → is_fit (fin s m e) ≡ true → Whole m e
unfolding is_fit
fit-whole s m e f =
    let g = and_both (leb (m * up e) (128 * down e)) (eqb (256 * (m * up e) % down e) 0) f in
    let r = eqb-true (256 * (m * up e) % down e) 0 g.1 in
    let is : 256 * (m * up e) / down e * down e ≡ 256 * (m * up e) = omega (arith, r, div-add-mod' (256 * (m * up e)) (down e)) in
    record { is = is; small = le_of_mul-le-mul_right {k = down e} (omega (arith, is, leb-true (m * up e) (128 * down e) g.0)) (down_pos e) }

-- ---- by its value

-- ± t / 256 is ± t 256ths
counted : (x : Float) (s : Bool) (t : ℕ) → HasValue x s t 256 → sample_in_256ths x ≡ signed s t
unfolding sample_in_256ths
counted nan s t v = absurd v
counted (inf i) s t v = absurd v
counted (fin i m e) s t v =
    let n : 256 * (m * up e) ≡ t * down e = omega (arith, v.1) in
    rw (v.0, n, mul-div_cancel t (down_pos e))

-- and fit where t is at most 32,768
fits_by : (x : Float) (s : Bool) (t : ℕ) → t ≤ 32768 → HasValue x s t 256 → is_fit x ≡ true
unfolding is_fit
fits_by nan s t l v = absurd v
fits_by (inf i) s t l v = absurd v
fits_by (fin i m e) s t l v =
    let n : 256 * (m * up e) ≡ t * down e = omega (arith, v.1) in
    let r : m * up e ≤ 128 * down e = omega (arith, n, mul-le-mul_right (down e) l) in
    rw (le-leb (m * up e) (128 * down e) r, n, mul-mod_left t (down e))

-- what is not fit, and no fraction
unfit : (x : Float) → is_fit x ≡ false → ((s : Bool) (t : ℕ) → HasValue x s t 256 → ⊥) → FitByValue x
unfit x n v = record {
  sign = λ f. absurd (never f);
  size = λ f. absurd (never f);
  small = λ f. absurd (never f);
  value = λ f. absurd (never f);
  counted = λ f. absurd (never f);
  fits = λ s t l w. absurd (v s t w);
}
  where
    never : is_fit x ≡ true → ⊥
    never f = true≢false (sym f ∙ n)

-- WHAT A FIT SAMPLE IS
pub fit-by-value : (x : Float) → FitByValue x
unfolding is_fit sample_in_256ths
fit-by-value nan = unfit nan refl (λ s t v. v)
fit-by-value (inf i) = unfit (inf i) refl (λ s t v. v)
fit-by-value (fin i m e) = record {
  sign = λ f. i;
  size = λ f. 256 * (m * up e) / down e;
  small = λ f. (fit-whole i m e f).small;
  value = λ f. (refl, omega (arith, (fit-whole i m e f).is));
  counted = λ f. refl;
  fits = λ s t l v. fits_by (fin i m e) s t l v;
}

-- a fit sample is at most 32,768 in size
pub fit_small : (x : Float) → is_fit x ≡ true → nat_abs (sample_in_256ths x) ≤ 32768
fit_small x f = let v = fit-by-value x in rw (v.counted f) (go (v.sign f) (v.size f) (v.small f))
  where
    go : (s : Bool) (n : ℕ) → n ≤ 32768 → nat_abs (signed s n) ≤ 32768
    go false n h = h
    go true zero h = h
    go true (suc n) h = h

-- ---- a whole number of at most 128

whole-value : (s : Bool) (n : ℕ) → n ≤ 128 → HasValue (round binary32 s n 1) s (n * 256) 256
whole-value s n l = smaller-parts (round binary32 s n 1) s n 1 256 (round_whole binary32 s n (omega arith))

pub whole-fit : (z : ℤ) → nat_abs z ≤ 128 → is_fit (of_int binary32 z) ≡ true
unfolding of_int
whole-fit (pos n) l = fits_by (round binary32 false n 1) false (n * 256) (omega arith) (whole-value false n l)
whole-fit (negsuc n) l = fits_by (round binary32 true (suc n) 1) true (suc n * 256) (omega arith) (whole-value true (suc n) l)

pub whole-256 : (z : ℤ) → nat_abs z ≤ 128 → sample_in_256ths (of_int binary32 z) ≡ pos 256 *ℤ z
unfolding of_int
whole-256 (pos n) l = counted (round binary32 false n 1) false (n * 256) (whole-value false n l) ∙ ap pos (mul_comm n 256)
whole-256 (negsuc n) l =
    counted (round binary32 true (suc n) 1) true (suc n * 256) (whole-value true (suc n) l) ∙ ap (λ (i : ℕ). neg_ℤ (pos i)) (mul_comm (suc n) 256)
