-- A loop that writes a list t over y from the front: after i turns the first i places of y are those of t
use mathlib.Core.Path.{◌≡◌, refl, sym, ◌∙◌, ap}
use mathlib.Core.List.{List, [], ◌∷◌, ◌++◌}
use Prim.Native.Nat.{ℕ, suc, ◌+◌, ◌<◌, ◌≤◌}
use native.Mathlib.Omega.{arith}
use lib.ListN.{length, take, get_or, set, length-set}
use lib.Seq.{take_all, take-suc, take-suc-set}

pub record Filled {A : Type 0} (t y : List A) (i : ℕ) : Type 0 where
  pub long : length y ≡ length t
  pub low : i ≤ length t
  pub same : take i y ≡ take i t

pub filled_none : {A : Type 0} (t y : List A) → length y ≡ length t → Filled t y 0
filled_none t y l = record { long = l; low = omega arith; same = refl }

pub filled_next : {A : Type 0} (d : A) (t y : List A) (i : ℕ) (v : A) → Filled t y i → i < length t → v ≡ get_or t i d → Filled t (set y i v) (i + 1)
filled_next d t y i v f h e = record {
  long = length-set y i v ∙ f.long;
  low = omega arith;
  same = ap (λ (n : ℕ). take n (set y i v)) {x = i + 1} {y = suc i} (omega arith) ∙ take-suc-set y i v (omega (arith, f.long))
      ∙ ap (λ l. l ++ v ∷ []) f.same ∙ ap (λ z. take i t ++ z ∷ []) e ∙ sym (take-suc t i d h)
      ∙ ap (λ (n : ℕ). take n t) {x = suc i} {y = i + 1} (omega arith);
}

pub filled-all : {A : Type 0} (t y : List A) (i : ℕ) → Filled t y i → length t ≤ i → y ≡ t
filled-all t y i f h = sym (take_all i y (omega (arith, f.long))) ∙ f.same ∙ take_all i t h
