-- Rows of samples compared from the first on: what is left of both decides. Assumes nothing.
use Prim.Native.Nat.{ℕ, suc, ◌+◌, ◌≤◌, ◌<◌}
use mathlib.Core.Path.{◌≡◌, refl, sym, ap, ◌∙◌}
use mathlib.Core.Bool.{Bool, true, false, ◌&&◌}
use mathlib.Core.List.{List, [], ◌∷◌}
use native.Mathlib.Numerals.{add-one}
use lib.Dec.{eqb}
use lib.Ieee.{Float, nan, binary32, to_bits}
use lib.ListN.{length, get_or, drop, drop_of_length-le}
use lib.Seq.{drop-cons}
use borrow.Author.Tests.{eq-eqb, ne_eqb}
use Rattle.test_recordings.specs.Judged.{same_sample, same_samples}

-- rows of other lengths are not the same
pub lengths_differ : (x y : List Float) → (length x ≡ length y → ⊥) → false ≡ same_samples x y
unfolding same_samples
lengths_differ [] [] n = absurd (n refl)
lengths_differ [] (b ∷ y) n = refl
lengths_differ (a ∷ x) [] n = refl
lengths_differ (a ∷ x) (b ∷ y) n = go (same_sample a b) (lengths_differ x y (λ e. n (ap suc e)))
  where
    go : (s : Bool) → false ≡ same_samples x y → false ≡ (s && same_samples x y)
    go true e = e
    go false e = refl

-- no sample is left
pub all-compared : (x y : List Float) (i : ℕ) → length x ≤ i → length y ≤ i → true ≡ same_samples (drop i x) (drop i y)
unfolding same_samples
all-compared x y i hx hy = rw (drop_of_length-le x hx, drop_of_length-le y hy)

-- samples i are left, with the bits a and b
module _ (x y : List Float) (i : ℕ) {a b : ℕ} (hx : i < length x) (hy : i < length y)
    (ea : a ≡ to_bits binary32 (get_or x i nan)) (eb : b ≡ to_bits binary32 (get_or y i nan)) where
  left : same_samples (drop i x) (drop i y) ≡ (eqb a b && same_samples (drop (suc i) x) (drop (suc i) y))
  unfolding same_samples
  left = rw (drop-cons x i nan hx, drop-cons y i nan hy, ea, eb)

  pub one_same : a ≡ b → same_samples (drop (i + 1) x) (drop (i + 1) y) ≡ same_samples (drop i x) (drop i y)
  one_same e = sym (left ∙ rw (eq-eqb a b e, add-one))

  pub one-differs : (a ≡ b → ⊥) → false ≡ same_samples (drop i x) (drop i y)
  one-differs n = sym (left ∙ rw (ne_eqb a b n))
