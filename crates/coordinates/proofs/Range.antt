-- The test of the range, coordinate by coordinate: what a fold gives is what the recursion gives. Assumes nothing.
use Prim.Native.Nat.{ℕ}
use mathlib.Core.Path.{◌≡◌, refl, ap}
use mathlib.Core.Bool.{Bool, true, false, not, ◌&&◌, ◌||◌, cond}
use mathlib.Core.List.{List, [], ◌∷◌}
use lib.Dec.{leb, ltb, eqb}
use lib.IntN.{ℤ, nat_abs}
use Rattle.std.specs.List.{fold}
use Rattle.std.proofs.Common.{arith}
use Rattle.std.proofs.lemmas.Bool.Decides.{nat_tests}
use Rattle.e8.specs.Energy.{is_within}

far-more : (n B : ℕ) (b w f : Bool) → f ≡ (b || ltb B n || not w) → f ≡ (b || not (leb n B && w))
far-more n B b w f e = grind (arith, nat_tests)

pub far-fold : (B : ℕ) (b : Bool) (x : List ℤ) → fold (λ a z. a || ltb B (nat_abs z)) b x ≡ (b || not (is_within B x))
unfolding is_within
far-fold B true [] = refl
far-fold B false [] = refl
far-fold B b (z ∷ x) = far-more (nat_abs z) B b (is_within B x) _ (far-fold B (b || ltb B (nat_abs z)) x)

pub not-far : (r t : Bool) → r ≡ not t → not r ≡ t
not-far r true e = ap not e
not-far r false e = ap not e

pub all-passed : (t : Bool) → eqb (cond t 0 1) 0 ≡ t
all-passed true = refl
all-passed false = refl
