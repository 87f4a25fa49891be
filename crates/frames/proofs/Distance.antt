-- Squared distance as a sum over positions, and a position where two different frames differ. Assumes nothing.
use Prim.Native.Nat.{ℕ, suc, ◌+◌, ◌<◌}
use mathlib.Core.Path.{◌≡◌, refl, sym, ap, ap₂, ◌∙◌}
use mathlib.Core.List.{List, [], ◌∷◌}
use native.Mathlib.Omega.{arith}
use lib.ListN.{length}
use lib.IntN.{ℤ, ◌-ℤ◌, ℤ_discrete}
use Rattle.bits.specs.Number.{sum_to}
use Rattle.bits.proofs.Sum.{sum_first}
use Rattle.e8.specs.Energy.{sq, distance}
use Rattle.frames.proofs.Frame.{at}

pub distance-sum : (f g : List ℤ) → length f ≡ length g → distance f g ≡ sum_to (length f) (λ p. sq (at f p -ℤ at g p))
unfolding distance sum_to
distance-sum [] g e = refl
distance-sum (x ∷ f) [] e = absurd (omega arith)
distance-sum (x ∷ f) (y ∷ g) e =
    ap (λ (n : ℕ). sq (x -ℤ y) + n) (distance-sum f g (omega arith)) ∙ sym (sum_first (length f) (λ p. sq (at (x ∷ f) p -ℤ at (y ∷ g) p)))

-- a position at which f and g differ
pub record Apart (f g : List ℤ) : Type 0 where
  pub position : ℕ
  pub inside : position < length f
  pub differ : at f position ≡ at g position → ⊥

pub somewhere : (f g : List ℤ) → length f ≡ length g → (f ≡ g → ⊥) → Apart f g
somewhere [] [] e ne = absurd (ne refl)
somewhere [] (y ∷ g) e ne = absurd (omega arith)
somewhere (x ∷ f) [] e ne = absurd (omega arith)
somewhere (x ∷ f) (y ∷ g) e ne = go (somewhere f g (omega arith)) (ℤ_discrete x y)
  where
    go : ((f ≡ g → ⊥) → Apart f g) → Dec (x ≡ y) → Apart (x ∷ f) (y ∷ g)
    go later (yes s) =
        let a : Apart f g = later (λ t. ne (ap₂ ◌∷◌ s t)) in
        record { position = suc a.position; inside = omega (arith, a.inside); differ = a.differ }
    go later (no d) = record { position = 0; inside = omega arith; differ = d }
