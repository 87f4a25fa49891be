-- Sums over ℤ: a sum does not change under a map of its indices that is its own inverse. Assumes nothing.
use Prim.Native.Nat.{ℕ, zero, suc, ◌<◌}
use mathlib.Core.Path.{◌≡◌, refl, sym, ap, ap₂, ◌∙◌}
use mathlib.Core.Bool.{cond}
use native.Mathlib.Decide.{ℕ_discrete}
use native.Mathlib.Omega.{arith}
use lib.Dec.{eqb}
use lib.IntN.{ℤ, pos, neg_ℤ, ◌+ℤ◌}
use borrow.Author.Tests.{eq-eqb, ne_eqb}
use Rattle.integers.proofs.Zed.{`◌, #◌, ◌⊕◌, ⊝◌, eq!, eq?}
use Rattle.reed_muller.proofs.Lies.{eqb_same}
use Rattle.balance.specs.Total.{sum_z}

-- 0 + 1 + 2 + 3
sum-of-four : sum_z 4 pos ≡ pos 6
unfolding sum_z
sum-of-four = refl

-- terms that are the same
pub sum_z-ext : (n : ℕ) (f g : ℕ → ℤ) → ((i : ℕ) → i < n → f i ≡ g i) → sum_z n f ≡ sum_z n g
unfolding sum_z
sum_z-ext zero f g h = refl
sum_z-ext (suc n) f g h = ap₂ ◌+ℤ◌ (sum_z-ext n f g (λ i l. h i (omega arith))) (h n (omega arith))

-- a sum of sums
sum_z-add : (n : ℕ) (f g : ℕ → ℤ) → sum_z n (λ i. f i +ℤ g i) ≡ sum_z n f +ℤ sum_z n g
unfolding sum_z
sum_z-add zero f g = refl
sum_z-add (suc n) f g = eq! (` (sum_z n (λ i. f i +ℤ g i)) ⊕ (` (f n) ⊕ ` (g n))) (` (sum_z n f) ⊕ ` (f n) ⊕ (` (sum_z n g) ⊕ ` (g n)))
    (omega (arith, eq? (` (sum_z n (λ i. f i +ℤ g i))) (` (sum_z n f) ⊕ ` (sum_z n g)) (sum_z-add n f g)))

-- terms that are all 0
sum_z-zero : (n : ℕ) (f : ℕ → ℤ) → ((i : ℕ) → i < n → f i ≡ pos 0) → sum_z n f ≡ pos 0
unfolding sum_z
sum_z-zero zero f h = refl
sum_z-zero (suc n) f h = ap₂ ◌+ℤ◌ (sum_z-zero n f (λ i l. h i (omega arith))) (h n (omega arith))

-- terms with their signs changed
pub sum_z-negated : (n : ℕ) (f : ℕ → ℤ) → sum_z n (λ i. neg_ℤ (f i)) ≡ neg_ℤ (sum_z n f)
unfolding sum_z
sum_z-negated zero f = refl
sum_z-negated (suc n) f = eq! (` (sum_z n (λ i. neg_ℤ (f i))) ⊕ ⊝ ` (f n)) (⊝ (` (sum_z n f) ⊕ ` (f n)))
    (omega (arith, eq? (` (sum_z n (λ i. neg_ℤ (f i)))) (⊝ ` (sum_z n f)) (sum_z-negated n f)))

-- the order of two sums does not matter
sum_z-swap : (n m : ℕ) (f : ℕ → ℕ → ℤ) → sum_z n (λ i. sum_z m (f i)) ≡ sum_z m (λ j. sum_z n (λ i. f i j))
unfolding sum_z
sum_z-swap zero m f = sym (sum_z-zero m (λ j. pos 0) (λ j l. refl))
sum_z-swap (suc n) m f = ap (λ (z : ℤ). z +ℤ sum_z m (f n)) (sum_z-swap n m f) ∙ sym (sum_z-add m (λ j. sum_z n (λ i. f i j)) (f n))

-- z where the numbers are the same, and 0 elsewhere
abbrev only : ℕ → ℕ → ℤ → ℤ
only a j z = cond (eqb a j) z (pos 0)

only_same : (a j : ℕ) (z : ℤ) → a ≡ j → only a j z ≡ z
only_same a j z e = rw (eq-eqb a j e)

only-other : (a j : ℕ) (z : ℤ) → (a ≡ j → ⊥) → only a j z ≡ pos 0
only-other a j z e = rw (ne_eqb a j e)

-- a sum with one term that counts
sum-only : (n a : ℕ) (g : ℕ → ℤ) → a < n → sum_z n (λ j. only a j (g j)) ≡ g a
unfolding sum_z
sum-only zero a g h = absurd (omega arith)
sum-only (suc n) a g h = go (sum-only n a g) (ℕ_discrete a n)
  where
    go : (a < n → sum_z n (λ j. only a j (g j)) ≡ g a) → Dec (a ≡ n) → sum_z n (λ j. only a j (g j)) +ℤ only a n (g n) ≡ g a
    go ih (yes e) =
        ap₂ ◌+ℤ◌ (sum_z-zero n (λ j. only a j (g j)) (λ j l. only-other a j (g j) (λ d. omega arith))) (only_same a n (g n) e)
        ∙ eq! (# 0 ⊕ ` (g n)) (` (g n)) (omega arith) ∙ ap g (sym e)
    go ih (no k) = ap₂ ◌+ℤ◌ (ih (omega arith)) (only-other a n (g n) k) ∙ eq! (` (g a) ⊕ # 0) (` (g a)) (omega arith)

-- THE SUM over the indices in another order, where the order turns back into the first one
pub sum-turned : (n : ℕ) (turn : ℕ → ℕ) → ((i : ℕ) → i < n → turn i < n) → ((i : ℕ) → i < n → turn (turn i) ≡ i)
    → (g : ℕ → ℤ) → sum_z n (λ i. g (turn i)) ≡ sum_z n g
sum-turned n turn inside back g =
    sum_z-ext n (λ i. g (turn i)) (λ i. sum_z n (λ j. only (turn i) j (g j))) (λ i l. sym (sum-only n (turn i) g (inside i l)))
    ∙ sum_z-swap n n (λ i j. only (turn i) j (g j))
    ∙ sum_z-ext n (λ j. sum_z n (λ i. only (turn i) j (g j))) g (λ j l.
    sum_z-ext n (λ i. only (turn i) j (g j)) (λ i. only (turn j) i (g j)) (λ i k. ap (λ t. cond t (g j) (pos 0)) (same i j k l))
    ∙ sum-only n (turn j) (λ i. g j) (inside j l))
  where
    same : (i j : ℕ) → i < n → j < n → eqb (turn i) j ≡ eqb (turn j) i
    same i j k l = eqb_same (turn i) j (turn j) i (λ e. sym (ap turn e) ∙ back i k) (λ e. sym (ap turn e) ∙ back j l)
