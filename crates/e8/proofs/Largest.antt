-- The largest block energy that is computed is the one of the rule, and no other number is. Assumes nothing.
use Prim.Native.Nat.{ℕ, zero, suc, max, ◌+◌, ◌<◌, ◌≤◌}
use mathlib.Core.Path.{◌≡◌, refl, sym, ap₂, ◌∙◌, subst}
use mathlib.Core.Logic.{◌⊎◌, inl, inr}
use mathlib.Core.List.{List}
use native.Mathlib.Nat.{le_trans, le_antisymm, le-max_left, le-max_right, max-eq_left, max-eq_right, zero-max}
use native.Mathlib.Omega.{arith}
use native.Mathlib.Decide.{dec_lt, ℕ_discrete}
use native.Mathlib.Numerals.{add-one}
use lib.IntN.{ℤ}
use Rattle.e8.specs.Energy.{energy}
use Rattle.e8.specs.Lattice.{part}
use Rattle.e8.specs.Largest.{blocks_of, IsLargest, largest_to, largest_block}

-- the larger of two is one of them
pub one_of : (a b : ℕ) → (max a b ≡ a) ⊎ (max a b ≡ b)
one_of a b = go (dec_lt b a)
  where
    go : Dec (b < a) → (max a b ≡ a) ⊎ (max a b ≡ b)
    go (yes h) = inl (max-eq_left (omega arith))
    go (no h) = inr (max-eq_right (omega (arith, h)))

-- no block among the first n has more
to-most : (n : ℕ) (f : List ℤ) (i : ℕ) → i < n → energy (part i f) ≤ largest_to n f
unfolding largest_to
to-most zero f i h = absurd (omega arith)
to-most (suc n) f i h = go (to-most n f i) (ℕ_discrete i n)
  where
    go : (i < n → energy (part i f) ≤ largest_to n f) → Dec (i ≡ n) → energy (part i f) ≤ max (largest_to n f) (energy (part n f))
    go ih (yes e) = subst (λ (j : ℕ). energy (part j f) ≤ max (largest_to n f) (energy (part n f))) (sym e) (le-max_right (largest_to n f) (energy (part n f)))
    go ih (no e) = le_trans (ih (omega (arith, e))) (le-max_left (largest_to n f) (energy (part n f)))

-- and some block among them has it
record Found (n : ℕ) (f : List ℤ) : Type 0 where
  block : ℕ
  inside : block < n
  has : energy (part block f) ≡ largest_to n f

to-found : (n : ℕ) (f : List ℤ) → Found (suc n) f
unfolding largest_to
to-found zero f = record { block = 0; inside = omega arith; has = sym (zero-max (energy (part 0 f))) }
to-found (suc n) f = go (to-found n f) (one_of (largest_to (suc n) f) (energy (part (suc n) f)))
  where
    go : Found (suc n) f
        → (max (largest_to (suc n) f) (energy (part (suc n) f)) ≡ largest_to (suc n) f) ⊎ (max (largest_to (suc n) f) (energy (part (suc n) f)) ≡ energy (part (suc n) f))
        → Found (suc (suc n)) f
    go g (inl e) = record { block = g.block; inside = omega (arith, g.inside); has = g.has ∙ sym e }
    go g (inr e) = record { block = suc n; inside = omega arith; has = sym e }

-- THE RULE is met by what is computed, for a frame that has a block
pub largest-is : (f : List ℤ) → 0 < blocks_of f → IsLargest f (largest_block f)
largest-is f h = go (blocks_of f) refl h
  where
    go : (n : ℕ) → n ≡ blocks_of f → 0 < n → IsLargest f (largest_block f)
    go zero e l = absurd (omega arith)
    go (suc n) e l =
        let g = subst (λ (m : ℕ). Found m f) e (to-found n f) in
        record { block = g.block; inside = g.inside; has = g.has; most = to-most (blocks_of f) f }

-- and by no other number
pub largest-only : (f : List ℤ) (r : ℕ) → IsLargest f r → r ≡ largest_block f
largest-only f r is =
    let g = largest-is f (omega (arith, is.inside)) in
    le_antisymm (subst (λ (e : ℕ). e ≤ largest_block f) is.has (g.most is.block is.inside)) (subst (λ (e : ℕ). e ≤ r) g.has (is.most g.block g.inside))

-- one block more
pub largest-more : (n : ℕ) (f : List ℤ) → largest_to (n + 1) f ≡ max (largest_to n f) (energy (part n f))
unfolding largest_to
largest-more n f = rw add-one refl

-- frames whose first n blocks have the same energies
pub largest-same : (n : ℕ) (f g : List ℤ) → ((i : ℕ) → i < n → energy (part i f) ≡ energy (part i g)) → largest_to n f ≡ largest_to n g
unfolding largest_to
largest-same zero f g h = refl
largest-same (suc n) f g h = ap₂ max (largest-same n f g (λ i l. h i (omega arith))) (h n (omega arith))
