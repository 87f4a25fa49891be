-- Parities of those values that pass a test: one value more, congruence, sums. Assumes nothing.
use Prim.Native.Nat.{ℕ, ◌+◌, ◌%◌, ◌<◌}
use mathlib.Core.Path.{◌≡◌, refl, ◌∙◌}
use mathlib.Core.Bool.{Bool, true, false}
use native.Mathlib.Nat.{mod-lt}
use native.Mathlib.Numerals.{add-one}
use native.Mathlib.Omega.{arith}
use lib.Dec.{lit<}
use Rattle.bits.specs.Number.{sum_to, given}
use Rattle.reed_muller.specs.Level.{backwards}
use Rattle.bits.proofs.Sum.{sum-ext, sum-add, sum-parity}

-- the sum of the first n values of f that pass the test
abbrev pub chosen : (ℕ → Bool) → (ℕ → ℕ) → ℕ → ℕ
chosen t f n = sum_to n (λ i. given (t i) (f i))

-- and its parity
abbrev pub tested : (ℕ → Bool) → (ℕ → ℕ) → ℕ → ℕ
tested t f n = chosen t f n % 2

given-parity : (b : Bool) (x y : ℕ) → x % 2 ≡ y % 2 → given b x % 2 ≡ given b y % 2
given-parity true x y h = h
given-parity false x y h = refl

given-add : (b : Bool) (x y : ℕ) → given b (x + y) ≡ given b x + given b y
given-add true x y = refl
given-add false x y = refl

module _ (t : ℕ → Bool) (f : ℕ → ℕ) where
  pub tested-none : tested t f 0 ≡ 0
  unfolding sum_to
  tested-none = refl

  pub tested-small : (n : ℕ) → tested t f n < 2
  tested-small n = mod-lt _ (lit< tt)

  pub tested-in : (k : ℕ) → t k ≡ true → tested t f (k + 1) ≡ (tested t f k + f k) % 2
  unfolding sum_to
  tested-in k h = rw (add-one, h) (omega arith)

  pub tested-out : (k : ℕ) → t k ≡ false → tested t f (k + 1) ≡ tested t f k
  unfolding sum_to
  tested-out k h = rw (add-one, h) (omega arith)

  -- only the parities below n count
  pub tested-cong : (g : ℕ → ℕ) (n : ℕ) → ((i : ℕ) → i < n → f i % 2 ≡ g i % 2) → tested t f n ≡ tested t g n
  tested-cong g n h = sum-parity n _ _ (λ i l. given-parity (t i) (f i) (g i) (h i l))

  pub chosen-add : (g : ℕ → ℕ) (n : ℕ) → chosen t (λ i. f i + g i) n ≡ chosen t f n + chosen t g n
  chosen-add g n = sum-ext n (λ i l. given-add (t i) (f i) (g i)) ∙ sum-add n _ _

  pub tested-add : (g : ℕ → ℕ) (n : ℕ) → tested t (λ i. f i + g i) n ≡ (tested t f n + tested t g n) % 2
  tested-add g n = omega (arith, chosen-add g n)

pub backwards-small : (m : ℕ) (value : ℕ → ℕ) (S : ℕ) → backwards m value S < 2
unfolding backwards
backwards-small m value S = mod-lt _ (lit< tt)
