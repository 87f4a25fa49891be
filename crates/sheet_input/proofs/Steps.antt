-- What was read after one more read, and what the answers of the reads make. Assumes nothing.
use Prim.Native.Nat.{ℕ, ◌+◌, ◌-◌, ◌≤◌}
use mathlib.Core.Path.{◌≡◌, refl, sym, ap, subst, ◌∙◌}
use mathlib.Core.Bool.{true, false}
use mathlib.Core.List.{List, [], ◌∷◌}
use native.Mathlib.Nat.{min-le_right}
use native.Mathlib.Omega.{arith}
use lib.IntN.{ℤ, pos, negsuc}
use Rattle.sheet_input.specs.Reading.{Moved, after_read, Reads, ReadBy}
use Rattle.sheet_input.specs.declared.Input.{Input}

after-within : (i : Input) (left : ℕ) (z : ℤ) → (after_read i left z).length ≤ i.length + left
after-within i left (pos k) = let m = min-le_right k left in omega arith
after-within i left (negsuc k) = omega arith

-- no more bytes come than there is room for
pub made-within : {n left : ℕ} (i r : Input) (z : ℤ) → r ≡ after_read i left z → i.length ≤ n → left ≡ n - i.length → r.length ≤ n
made-within {left = left} i r z e h q = omega (arith, subst (λ (x : Input). x.length ≤ i.length + left) (sym e) (after-within i left z), h, q)

-- ---- the answers, one after the other

module _ (n : ℕ) where
  -- whatever answers end the reading from here: with those before them they end it from the beginning
  abbrev pub FromHere : Input → Type 0
  FromHere i = (l : List ℤ) (r : Input) → Reads n i l r → ReadBy n r

  pub one-read : (i r : Input) (a : ℤ) {left : ℕ} → r ≡ after_read i left a → Moved left a → i.over ≡ false → left ≡ n - i.length → FromHere i → FromHere r
  one-read i r a e m o q f l x h =
      f (a ∷ l) x
      (o, (subst (λ (k : ℕ). Moved k a) q m, subst (λ (y : Input). Reads n y l x) (e ∙ ap (λ (k : ℕ). after_read i k a) q) h))

  pub read-over : (i : Input) → i.over ≡ true → FromHere i → ReadBy n i
  read-over i o f = f [] i (o, refl)
