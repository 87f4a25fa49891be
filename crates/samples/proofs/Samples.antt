-- Lists of samples: all fit, and all in 256ths, none larger than 32,768; the samples of a frame without noise. Assumes nothing.
use Prim.Native.Nat.{ℕ, zero, suc, ◌+◌, ◌<◌}
use mathlib.Core.Path.{◌≡◌, refl, sym, ap, ap₂, ◌∙◌}
use mathlib.Core.Bool.{Bool, true, false, ◌&&◌, cond, and-true, and_assoc}
use mathlib.Core.List.{List, [], ◌∷◌, map}
use native.Mathlib.Numerals.{add-one}
use native.Mathlib.Omega.{arith}
use lib.Bits.{bit_or}
use lib.ListN.{length, take, get_or, length-map}
use lib.IntN.{ℤ, pos, ◌*ℤ◌}
use lib.Ieee.{Float, nan}
use Rattle.e8.specs.Energy.{Within}
use Rattle.e8.proofs.Within.{and_both}
use Rattle.samples.specs.Sample.{is_fit, sample_in_256ths, all_fit, samples_in_256ths, samples_of}
use Rattle.samples.proofs.Whole.{fit_small, whole-fit, whole-256}

-- ---- the test, one sample more

next : (xs : List Float) (p : ℕ) → p < length xs → all_fit (take (suc p) xs) ≡ (all_fit (take p xs) && is_fit (get_or xs p nan))
unfolding all_fit
next [] p h = absurd (omega arith)
next (x ∷ xs) zero h = and-true (is_fit x)
next (x ∷ xs) (suc p) h =
    ap (λ (t : Bool). is_fit x && t) (next xs p (omega arith)) ∙ sym (and_assoc (is_fit x) (all_fit (take p xs)) (is_fit (get_or xs p nan)))

pub fit-more : (xs : List Float) (p : ℕ) → p < length xs
    → bit_or (cond (all_fit (take p xs)) 0 1) (cond (is_fit (get_or xs p nan)) 0 1) ≡ cond (all_fit (take (p + 1) xs)) 0 1
fit-more xs p h =
    rw add-one (both (all_fit (take p xs)) (is_fit (get_or xs p nan)) ∙ ap (λ (t : Bool). cond t 0 1) (sym (next xs p h)))
  where
    both : (s t : Bool) → bit_or (cond s 0 1) (cond t 0 1) ≡ cond (s && t) 0 1
    both true true = refl
    both true false = refl
    both false true = refl
    both false false = refl

-- ---- each sample of a list of fit ones

pub fit-each : (xs : List Float) → all_fit xs ≡ true → (i : ℕ) → i < length xs → is_fit (get_or xs i nan) ≡ true
unfolding all_fit
fit-each [] e i h = absurd (omega arith)
fit-each (x ∷ xs) e zero h = (and_both (is_fit x) (all_fit xs) e).0
fit-each (x ∷ xs) e (suc i) h = fit-each xs (and_both (is_fit x) (all_fit xs) e).1 i (omega arith)

-- ---- the samples in 256ths

pub samples-length : (xs : List Float) → length (samples_in_256ths xs) ≡ length xs
unfolding samples_in_256ths
samples-length xs = length-map xs sample_in_256ths

pub samples-at : (xs : List Float) (i : ℕ) → get_or (samples_in_256ths xs) i (pos 0) ≡ sample_in_256ths (get_or xs i nan)
unfolding samples_in_256ths sample_in_256ths
samples-at [] zero = refl
samples-at [] (suc i) = refl
samples-at (x ∷ xs) zero = refl
samples-at (x ∷ xs) (suc i) = samples-at xs i

pub samples-within : (xs : List Float) → all_fit xs ≡ true → Within 32768 (samples_in_256ths xs)
unfolding samples_in_256ths all_fit
samples-within [] e = tt
samples-within (x ∷ xs) e = let b = and_both (is_fit x) (all_fit xs) e in (fit_small x b.0, samples-within xs b.1)

-- ---- the samples of a frame without noise

pub samples-of-fit : (f : List ℤ) → Within 128 f → all_fit (samples_of f) ≡ true
unfolding samples_of all_fit
samples-of-fit [] w = refl
samples-of-fit (z ∷ f) w = rw (whole-fit z w.0) (samples-of-fit f w.1)

pub samples-of-256 : (f : List ℤ) → Within 128 f → samples_in_256ths (samples_of f) ≡ map (λ z. pos 256 *ℤ z) f
unfolding samples_of samples_in_256ths
samples-of-256 [] w = refl
samples-of-256 (z ∷ f) w = ap₂ (λ (y : ℤ) (ys : List ℤ). y ∷ ys) (whole-256 z w.0) (samples-of-256 f w.1)
