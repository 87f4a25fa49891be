-- A search from 0 up for the smallest number at which a function is least. For any function and any range. Assumes nothing.
use Prim.Native.Nat.{ℕ, zero, suc, ◌≤◌, ◌<◌}
use mathlib.Core.Path.{◌≡◌, refl, ap}
use mathlib.Core.Bool.{Bool, true, false, cond}
use native.Mathlib.Decide.{dec_lt}
use native.Mathlib.Omega.{arith}
use lib.Dec.{ltb}
use borrow.Author.Tests.{ltb-true, ltb-false}
use Rattle.frames.specs.Free.{first_least}

-- x is the smallest of the numbers below n at which e is least
pub record IsFirst (e : ℕ → ℕ) (n x : ℕ) : Type 0 where
  pub below : x < n
  pub least : (i : ℕ) → i < n → e x ≤ e i
  pub first : (i : ℕ) → i < x → e x < e i

module _ (e : ℕ → ℕ) where
  first_one : IsFirst e 1 0
  first_one = record {
    below = omega arith;
    least = λ i h. let z : i ≡ 0 = omega arith in let s : e i ≡ e 0 = ap e z in omega arith;
    first = λ i h. absurd (omega arith);
  }

  -- one number more
  first_more : (n x : ℕ) → IsFirst e n x → IsFirst e (suc n) (cond (ltb (e n) (e x)) n x)
  first_more n x so = go (ltb (e n) (e x)) refl
    where
      -- a number below n + 1 is below n, or n
      each : (y : ℕ) → ((i : ℕ) → i < n → e y ≤ e i) → e y ≤ e n → (i : ℕ) → Dec (i < n) → i < suc n → e y ≤ e i
      each y a l i (yes h) k = a i h
      each y a l i (no h) k = let z : i ≡ n = omega arith in let s : e i ≡ e n = ap e z in omega arith

      go : (t : Bool) → ltb (e n) (e x) ≡ t → IsFirst e (suc n) (cond t n x)
      go true z = let l : e n < e x = ltb-true (e n) (e x) z in record {
        below = omega arith;
        least = λ i. each n (λ i h. omega (arith, so.least i h)) (omega arith) i (dec_lt i n);
        first = λ i h. omega (arith, so.least i h);
      }
      go false z = record {
        below = omega (arith, so.below);
        least = λ i. each x so.least (ltb-false (e n) (e x) z) i (dec_lt i n);
        first = so.first;
      }

  -- THE SEARCH finds it
  pub first_least-is : (n : ℕ) → IsFirst e (suc n) (first_least e (suc n))
  unfolding first_least
  first_least-is zero = go (ltb (e 0) (e 0))
    where
      go : (t : Bool) → IsFirst e 1 (cond t 0 0)
      go true = first_one
      go false = first_one
  first_least-is (suc n) = first_more (suc n) (first_least e (suc n)) (first_least-is n)

  -- and there is no other
  pub first-only : (n x y : ℕ) → IsFirst e n x → IsFirst e n y → x ≡ y
  first-only n x y i j = go (dec_lt x y) (dec_lt y x)
    where
      go : Dec (x < y) → Dec (y < x) → x ≡ y
      go (yes h) t = absurd (omega (arith, j.first x h, i.least y j.below))
      go (no h) (yes l) = absurd (omega (arith, i.first y l, j.least x i.below))
      go (no h) (no l) = omega arith

  pub first_least-at : (n : ℕ) → 0 < n → IsFirst e n (first_least e n)
  first_least-at zero h = absurd (omega arith)
  first_least-at (suc n) h = first_least-is n

-- the search hangs on what the function is below n
pub first_least-ext : {e d : ℕ → ℕ} (n : ℕ) → ((i : ℕ) → i < n → e i ≡ d i) → first_least e n ≡ first_least d n
unfolding first_least
first_least-ext zero h = refl
first_least-ext {e} {d} (suc n) h =
    let i : IsFirst e (suc n) (first_least e (suc n)) = first_least-is e n in
    first-only d (suc n) (first_least e (suc n)) (first_least d (suc n)) (record {
      below = i.below;
      least = λ j l. omega (arith, i.least j l, h j l, h (first_least e (suc n)) i.below);
      first = λ j l. omega (arith, i.first j l, h j (omega (arith, i.below)), h (first_least e (suc n)) i.below);
    }) (first_least-is d n)
