-- Frames whose coordinates are bounded in size: a larger bound, each coordinate, parts, the test, and the energy. Assumes nothing.
use mathlib.Core.Path.{◌≡◌, refl, sym}
use mathlib.Core.Bool.{Bool, true, false, ◌&&◌, true≢false}
use mathlib.Core.List.{List, [], ◌∷◌}
use Prim.Native.Nat.{ℕ, zero, suc, ◌*◌, ◌≤◌, ◌<◌}
use native.Mathlib.Nat.{mul-le-mul}
use native.Mathlib.Omega.{arith}
use borrow.Author.Tests.{leb-true, le-leb}
use lib.Dec.{leb}
use lib.ListN.{length, get_or, take, drop}
use lib.IntN.{ℤ, pos, nat_abs}
use Rattle.e8.specs.Energy.{sq, energy, Within, is_within}
use Rattle.e8.specs.Lattice.{part}

pub within-to : (A B : ℕ) (xs : List ℤ) → A ≤ B → Within A xs → Within B xs
within-to A B [] h w = tt
within-to A B (z ∷ xs) h w = (omega (arith, w.0), within-to A B xs h w.1)

pub within-at : (B : ℕ) (xs : List ℤ) (i : ℕ) → Within B xs → nat_abs (get_or xs i (pos 0)) ≤ B
within-at B [] zero h = omega arith
within-at B [] (suc i) h = omega arith
within-at B (z ∷ xs) zero h = h.0
within-at B (z ∷ xs) (suc i) h = within-at B xs i h.1

pub within_all : (B : ℕ) (xs : List ℤ) → ((i : ℕ) → i < length xs → nat_abs (get_or xs i (pos 0)) ≤ B) → Within B xs
within_all B [] h = tt
within_all B (z ∷ xs) h = (h 0 (omega arith), within_all B xs (λ i l. h (suc i) (omega arith)))

within-take : (B n : ℕ) (xs : List ℤ) → Within B xs → Within B (take n xs)
within-take B zero xs h = tt
within-take B (suc n) [] h = tt
within-take B (suc n) (z ∷ xs) h = (h.0, within-take B n xs h.1)

pub within-drop : (B n : ℕ) (xs : List ℤ) → Within B xs → Within B (drop n xs)
within-drop B zero xs h = h
within-drop B (suc n) [] h = tt
within-drop B (suc n) (z ∷ xs) h = within-drop B n xs h.1

pub within-part : (B j : ℕ) (xs : List ℤ) → Within B xs → Within B (part j xs)
within-part B j xs h = within-take B 8 (drop (8 * j) xs) (within-drop B (8 * j) xs h)

-- by the test
pub and_both : (s t : Bool) → (s && t) ≡ true → (s ≡ true) × (t ≡ true)
and_both true t e = (refl, e)
and_both false t e = absurd (true≢false (sym e))

pub test-within : (B : ℕ) (xs : List ℤ) → is_within B xs ≡ true → Within B xs
unfolding is_within
test-within B [] e = tt
test-within B (z ∷ xs) e = let t = and_both (leb (nat_abs z) B) (is_within B xs) e in (leb-true (nat_abs z) B t.0, test-within B xs t.1)

pub within-test : (B : ℕ) (xs : List ℤ) → Within B xs → is_within B xs ≡ true
unfolding is_within
within-test B [] h = refl
within-test B (z ∷ xs) h = rw (le-leb (nat_abs z) B h.0) (within-test B xs h.1)

pub energy-within : (B : ℕ) (xs : List ℤ) → Within B xs → energy xs ≤ length xs * (B * B)
unfolding energy sq
energy-within B [] w = omega arith
energy-within B (z ∷ xs) w = omega (arith, energy-within B xs w.1, mul-le-mul w.0 w.0)
