-- The floor quotients of a part of a frame, and their sizes. Assumes nothing.
use Prim.Native.Nat.{ℕ, zero, suc, ◌*◌, ◌^◌, ◌≤◌, ◌<◌}
use mathlib.Core.Path.{◌≡◌, refl, ap, ◌∙◌}
use mathlib.Core.List.{List, [], ◌∷◌}
use native.Mathlib.Nat.{le_trans, div-le_self}
use native.Mathlib.Omega.{arith}
use lib.Pow.{pow_pos}
use lib.IntN.{ℤ, pos, negsuc, nat_abs}
use lib.ListN.{take, drop}
use lib.Signed.{shr_z}
use Rattle.e8.specs.Energy.{Within}
use Rattle.e8.specs.Lattice.{part}
use Rattle.frames.specs.Reading.{quotients}

quotients-take : (a n : ℕ) (f : List ℤ) → take n (quotients a f) ≡ quotients a (take n f)
unfolding quotients
quotients-take a zero f = refl
quotients-take a (suc n) [] = refl
quotients-take a (suc n) (z ∷ f) = ap (λ (l : List ℤ). shr_z z (2 ^ a) ∷ l) (quotients-take a n f)

quotients-drop : (a n : ℕ) (f : List ℤ) → drop n (quotients a f) ≡ quotients a (drop n f)
unfolding quotients
quotients-drop a zero f = refl
quotients-drop a (suc n) [] = refl
quotients-drop a (suc n) (z ∷ f) = quotients-drop a n f

pub quotients-part : (a j : ℕ) (f : List ℤ) → part j (quotients a f) ≡ quotients a (part j f)
quotients-part a j f = ap (take 8) (quotients-drop a (8 * j) f) ∙ quotients-take a 8 (drop (8 * j) f)

quotient-size : (m : ℕ) (z : ℤ) → 0 < m → nat_abs (shr_z z m) ≤ nat_abs z
quotient-size m (pos n) h = div-le_self n m
quotient-size m (negsuc n) h = omega (arith, div-le_self n m)

pub quotients-within : (B a : ℕ) (f : List ℤ) → Within B f → Within B (quotients a f)
unfolding quotients
quotients-within B a [] h = tt
quotients-within B a (z ∷ f) h = (le_trans (quotient-size (2 ^ a) z (pow_pos a)) h.0, quotients-within B a f h.1)
