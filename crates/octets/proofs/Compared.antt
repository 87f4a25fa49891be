-- Rows compared element by element, from the first on: they agree so far, and all through where no difference was met. Assumes nothing.
use Rattle.std.proofs.Common.{◌≡◌, ℕ, ◌+◌, ◌≤◌, ◌<◌, nat_eq, Bool, true, false, List, [], ◌∷◌, ◌++◌, length, get_or, take, refl, sym, ap, ap₂, ◌∙◌, add-one}
use Rattle.std.specs.Cmp.Lexicographic.{pointwise}
use Rattle.std.proofs.lemmas.Slice.Eq.{bytes_eq-Decides}
use Rattle.std.proofs.Math.Seq.{take-suc, take_all}
use Rattle.octets.specs.Same.{same_bytes, SameExactly}

-- SAME BYTES: the test is that of the library, which holds exactly of a row and itself
pub pointwise-same : (x y : List ℕ) → pointwise nat_eq x y ≡ same_bytes x y
unfolding same_bytes
pointwise-same [] [] = refl
pointwise-same [] (b ∷ y) = refl
pointwise-same (a ∷ x) [] = refl
pointwise-same (a ∷ x) (b ∷ y) = rw (pointwise-same x y)

pub same-exactly : (x y : List ℕ) → SameExactly x y
same-exactly x y =
    let d = bytes_eq-Decides x y in
    let e = pointwise-same x y in
    record { same = λ h. sym e ∙ d.1 h; same-only = λ h. d.0 (e ∙ h) }

-- ---- rows that agree in their first p elements

-- one more
pub agree-more : {A : Type 0} (d : A) (x y : List A) (p : ℕ) → p < length x → p < length y → take p x ≡ take p y → get_or x p d ≡ get_or y p d
    → take (p + 1) x ≡ take (p + 1) y
agree-more d x y p hx hy e at =
    ap (λ (n : ℕ). take n x) (add-one p)
    ∙ take-suc x p d hx
    ∙ ap₂ (λ (l : List _) (z : _). l ++ (z ∷ [])) e at
    ∙ sym (take-suc y p d hy)
    ∙ ap (λ (n : ℕ). take n y) (sym (add-one p))

-- all of them
pub agree-all : {A : Type 0} (x y : List A) (p : ℕ) → length x ≤ p → length y ≤ p → take p x ≡ take p y → x ≡ y
agree-all x y p hx hy e = sym (take_all p x hx) ∙ e ∙ take_all p y hy

-- ---- what the test answers, by whether the rows are the same

pub no_truth : (t : Bool) → (t ≡ true → ⊥) → t ≡ false
no_truth true n = absurd (n refl)
no_truth false n = refl

pub bytes-equal : {x y : List ℕ} → x ≡ y → true ≡ same_bytes x y
bytes-equal {x} {y} e = sym ((same-exactly x y).same e)
