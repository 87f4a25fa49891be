-- Frames compared coordinate by coordinate, without an early end. Assumes nothing.
use Prim.Native.Nat.{ℕ, zero, suc, ◌+◌, ◌≤◌, ◌<◌}
use mathlib.Core.Path.{◌≡◌, refl, sym, ap, ap₂, ◌∙◌}
use mathlib.Core.Bool.{Bool, true, false, ◌&&◌, and_assoc, and-true, cond}
use mathlib.Core.List.{List}
use native.Mathlib.Numerals.{add-one}
use native.Mathlib.Omega.{arith}
use lib.Bits.{bit_or, or_zero_l, or_add_and, and_le_r}
use lib.Dec.{eqb}
use lib.ListN.{length, drop, drop_of_length-le}
use lib.Seq.{drop-cons}
use lib.IntN.{ℤ, pos, negsuc}
use borrow.Author.Tests.{ne_eqb}
use Rattle.frames.specs.Reading.{same_number, same_frame}
use Rattle.frames.proofs.Frame.{at}
use Rattle.frames.proofs.Refusals.{number_same}

-- ---- two coordinates

pub same-yes : (x y : ℤ) → x ≡ y → same_number x y ≡ true
same-yes x y e = ap (same_number x) (sym e) ∙ number_same x

pub same-no : (x y : ℤ) → (x ≡ y → ⊥) → same_number x y ≡ false
same-no (pos a) (pos b) n = ne_eqb a b (λ e. n (ap pos e))
same-no (pos a) (negsuc b) n = refl
same-no (negsuc a) (pos b) n = refl
same-no (negsuc a) (negsuc b) n = ne_eqb a b (λ e. n (ap negsuc e))

-- ---- the differences gathered in one number, which stays 0 while there is none

none-in-either : (d e : ℕ) → eqb (bit_or d e) 0 ≡ (eqb d 0 && eqb e 0)
none-in-either zero e = ap (λ (x : ℕ). eqb x 0) (or_zero_l e)
none-in-either (suc d) e =
    ne_eqb (bit_or (suc d) e) 0 (λ z. omega (arith, or_add_and (suc d) e, and_le_r (suc d) e, z))
    ∙ sym (ap (λ (t : Bool). t && eqb e 0) (ne_eqb (suc d) 0 (λ z. omega (arith, z))))

none-is-same : (t : Bool) → eqb (cond t 0 1) 0 ≡ t
none-is-same true = refl
none-is-same false = refl

-- no difference among the coordinates passed, and the frames are the same from i on
abbrev pub same_from : ℕ → ℕ → List ℤ → List ℤ → Bool
same_from d i x y = eqb d 0 && same_frame (drop i x) (drop i y)

-- one coordinate more
pub same_more : (x y : List ℤ) (d e i : ℕ) → i < length x → i < length y → e ≡ cond (same_number (at x i) (at y i)) 0 1
    → same_from (bit_or d e) (i + 1) x y ≡ same_from d i x y
unfolding same_frame
same_more x y d e i hx hy is =
    ap (λ (t : Bool). t && same_frame (drop (i + 1) x) (drop (i + 1) y))
    (none-in-either d e ∙ ap (λ (t : Bool). eqb d 0 && t) (ap (λ (n : ℕ). eqb n 0) is ∙ none-is-same (same_number (at x i) (at y i))))
    ∙ and_assoc (eqb d 0) (same_number (at x i) (at y i)) (same_frame (drop (i + 1) x) (drop (i + 1) y))
    ∙ rw (add-one, drop-cons x i (pos 0) hx, drop-cons y i (pos 0) hy)

-- all of them
pub same-all : (x y : List ℤ) (d i : ℕ) → length x ≤ i → length y ≤ i → same_from d i x y ≡ eqb d 0
unfolding same_frame
same-all x y d i hx hy = ap (λ (t : Bool). eqb d 0 && t) (ap₂ same_frame (drop_of_length-le x hx) (drop_of_length-le y hy)) ∙ and-true (eqb d 0)
