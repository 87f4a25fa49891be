-- The order of the masks: each mask of at most r bits stands in it once, and `place` inverts it. For every m. Assumes nothing.
use Prim.Native.Nat.{ℕ, zero, suc, ◌+◌, ◌^◌, ◌≤◌, ◌<◌}
use mathlib.Core.Path.{◌≡◌, refl, sym, ap, ap₂, ◌∙◌}
use mathlib.Core.Bool.{Bool, true, false, cond}
use mathlib.Core.List.{List, [], ◌∷◌, ◌++◌}
use native.Mathlib.Decide.{dec_lt, dec_le, ℕ_discrete, le_ind}
use native.Mathlib.Omega.{arith}
use lib.Dec.{eqb, leb, eqb-suc-zero, leb-suc-zero}
use lib.ListN.{length, get_or, take, length-append}
use lib.Pow.{pow_pos}
use lib.Seq.{take-length, take-append-le, get_or-take}
use lib.Count.{ones-le}
use borrow.Author.Tests.{eq-eqb, ne_eqb, le-leb, lt-leb}
use Rattle.bits.specs.Number.{sum_to, given, table}
use Rattle.reed_muller.specs.Level.{weight, keep, of_weight, masks, order, place, dimension}
use Rattle.bits.proofs.Sum.{sum-ext, sum-add, sum-zero, sum-term, sum-at-most}

-- the sum of h over a list
abbrev pub sum_l : (ℕ → ℕ) → List ℕ → ℕ
sum_l h [] = 0
sum_l h (x ∷ xs) = h x + sum_l h xs

sum_l-append : (h : ℕ → ℕ) (xs ys : List ℕ) → sum_l h (xs ++ ys) ≡ sum_l h xs + sum_l h ys
sum_l-append h [] ys = omega arith
sum_l-append h (x ∷ xs) ys = omega (arith, sum_l-append h xs ys)

sum_l-keep : (h : ℕ → ℕ) (b : Bool) (x : ℕ) (xs : List ℕ) → sum_l h (keep b x xs) ≡ given b (h x) + sum_l h xs
sum_l-keep h true x xs = refl
sum_l-keep h false x xs = omega arith

sum_l-with : (h : ℕ → ℕ) (w : ℕ) (xs : List ℕ) → sum_l h (of_weight w xs) ≡ sum_l (λ S. given (eqb (weight S) w) (h S)) xs
unfolding of_weight
sum_l-with h w [] = refl
sum_l-with h w (x ∷ xs) = omega (arith, sum_l-keep h (eqb (weight x) w) x (of_weight w xs), sum_l-with h w xs)

sum_l-below : (h : ℕ → ℕ) (n : ℕ) → sum_l h (table n (λ S. S)) ≡ sum_to n h
unfolding table sum_to
sum_l-below h zero = refl
sum_l-below h (suc n) = omega (arith, sum_l-append h (table n (λ S. S)) (n ∷ []), sum_l-below h n)

-- at most r + 1 bits: at most r, or r + 1
one_more : (x r y : ℕ) → given (leb x (suc r)) y ≡ given (leb x r) y + given (eqb x (suc r)) y
one_more x r y = go (dec_le x r) (ℕ_discrete x (suc r))
  where
    go : Dec (x ≤ r) → Dec (x ≡ suc r) → given (leb x (suc r)) y ≡ given (leb x r) y + given (eqb x (suc r)) y
    go (yes a) (yes b) = absurd (omega arith)
    go (yes a) (no b) = rw (le-leb x (suc r) (omega arith), le-leb x r a, ne_eqb x (suc r) b) (omega arith)
    go (no a) (yes b) = rw (le-leb x (suc r) (omega arith), lt-leb x r (omega arith), eq-eqb x (suc r) b) (omega arith)
    go (no a) (no b) = rw (lt-leb x (suc r) (omega arith), lt-leb x r (omega arith), ne_eqb x (suc r) b) (omega arith)

no_bits : (x : ℕ) → eqb x 0 ≡ leb x 0
no_bits zero = refl
no_bits (suc x) = eqb-suc-zero x ∙ sym (leb-suc-zero x)

-- a sum over the list is the sum over the masks below 2 ^ m with at most r bits
pub sum-masks : (r m : ℕ) (h : ℕ → ℕ) → sum_l h (masks r m) ≡ sum_to (2 ^ m) (λ S. given (leb (weight S) r) (h S))
unfolding masks
sum-masks zero m h =
    sum_l-with h 0 (table (2 ^ m) (λ S. S)) ∙ sum_l-below (λ S. given (eqb (weight S) 0) (h S)) (2 ^ m)
    ∙ sum-ext (2 ^ m) (λ S h_s. ap (λ b. given b (h S)) (no_bits (weight S)))
sum-masks (suc r) m h =
    sum_l-append h (masks r m) (of_weight (suc r) (table (2 ^ m) (λ S. S)))
    ∙ ap₂ ◌+◌ (sum-masks r m h) (sum_l-with h (suc r) (table (2 ^ m) (λ S. S)) ∙ sum_l-below (λ S. given (eqb (weight S) (suc r)) (h S)) (2 ^ m))
    ∙ sym (sum-add (2 ^ m) _ _)
    ∙ sum-ext (2 ^ m) (λ S h_s. sym (one_more (weight S) r (h S)))

-- ---- how often x stands in a list

is : ℕ → ℕ → ℕ
is x y = given (eqb y x) 1

is_same : (x : ℕ) → is x x ≡ 1
unfolding is
is_same x = rw (eq-eqb x x refl)

is-other : (x y : ℕ) → (y ≡ x → ⊥) → is x y ≡ 0
unfolding is
is-other x y h = rw (ne_eqb y x h)

abbrev count : ℕ → List ℕ → ℕ
count x xs = sum_l (is x) xs

-- what stands at an index is counted
count_at : (xs : List ℕ) (k : ℕ) → k < length xs → 1 ≤ count (get_or xs k 0) xs
count_at [] k h = absurd (omega arith)
count_at (y ∷ ys) zero h = omega (arith, is_same y)
count_at (y ∷ ys) (suc k) h = omega (arith, count_at ys k (omega arith))

-- `place` undoes `get_or` where nothing stands twice
place_at : (xs : List ℕ) → ((x : ℕ) → count x xs ≤ 1) → (k : ℕ) → k < length xs → place xs (get_or xs k 0) ≡ k
unfolding place
place_at [] u k h = absurd (omega arith)
place_at (y ∷ ys) u zero h = rw (eq-eqb y y refl)
place_at (y ∷ ys) u (suc k) h = go (place_at ys (λ x. omega (arith, u x)) k (omega arith)) (ℕ_discrete y (get_or ys k 0))
  where
    go : place ys (get_or ys k 0) ≡ k → Dec (y ≡ get_or ys k 0) → cond (eqb y (get_or ys k 0)) 0 (suc (place ys (get_or ys k 0))) ≡ suc k
    go ih (yes e) = absurd (omega (arith, u (get_or ys k 0), count_at ys k (omega arith), ap (is (get_or ys k 0)) e, is_same (get_or ys k 0)))
    go ih (no n) = rw (ne_eqb y (get_or ys k 0) n, ih)

-- and `get_or` undoes `place` at what stands in the list
at_place : (xs : List ℕ) (x : ℕ) → 1 ≤ count x xs → (place xs x < length xs) × (get_or xs (place xs x) 0 ≡ x)
unfolding place
at_place [] x h = absurd (omega arith)
at_place (y ∷ ys) x h = go (at_place ys x) (ℕ_discrete y x)
  where
    go : (1 ≤ count x ys → (place ys x < length ys) × (get_or ys (place ys x) 0 ≡ x)) → Dec (y ≡ x)
        → (cond (eqb y x) 0 (suc (place ys x)) < suc (length ys)) × (get_or (y ∷ ys) (cond (eqb y x) 0 (suc (place ys x))) 0 ≡ x)
    go ih (yes e) = rw (eq-eqb y x e) (omega arith, e)
    go ih (no n) = let w = ih (omega (arith, is-other x y n)) in rw (ne_eqb y x n) (omega (arith, w.0), w.1)

-- ---- the masks of RM(r, m)

given-zero : (b : Bool) (y : ℕ) → y ≡ 0 → given b y ≡ 0
given-zero true y h = h
given-zero false y h = refl

given-le : (b : Bool) (y : ℕ) → given b y ≤ y
given-le true y = omega arith
given-le false y = omega arith

module _ (r m : ℕ) where
  -- what the law sums, for the count of x
  term : ℕ → ℕ → ℕ
  term x S = given (leb (weight S) r) (is x S)

  counted : (x : ℕ) → count x (masks r m) ≡ sum_to (2 ^ m) (term x)
  unfolding term
  counted x = sum-masks r m (is x)

  counted-most : (x : ℕ) → count x (masks r m) ≤ term x x
  unfolding term
  counted-most x = omega (arith, counted x, sum-at-most (2 ^ m) (term x) x (λ y l n. given-zero (leb (weight y) r) (is x y) (is-other x y n)))

  once : (x : ℕ) → count x (masks r m) ≤ 1
  unfolding term
  once x = omega (arith, counted-most x, given-le (leb (weight x) r) (is x x), is_same x)

  there : (x : ℕ) → x < 2 ^ m → weight x ≤ r → 1 ≤ count x (masks r m)
  unfolding term
  there x h w = omega (arith, counted x, sum-term (2 ^ m) (term x) x h, ap (λ b. given b (is x x)) (le-leb (weight x) r w), is_same x)

  only : (x : ℕ) → 1 ≤ count x (masks r m) → (x < 2 ^ m) × (weight x ≤ r)
  unfolding term
  only x c = go (dec_lt x (2 ^ m)) (dec_le (weight x) r)
    where
      go : Dec (x < 2 ^ m) → Dec (weight x ≤ r) → (x < 2 ^ m) × (weight x ≤ r)
      go (yes a) (yes b) = (a, b)
      go (yes a) (no b) = absurd (omega (arith, counted-most x, ap (λ t. given t (is x x)) (lt-leb (weight x) r (omega arith))))
      go (no a) b =
          absurd (omega (arith, counted x, sum-zero (2 ^ m) (term x) (λ S h_s. given-zero (leb (weight S) r) (is x S) (is-other x S (λ e. omega arith)))))

  -- the masks of at most r bits, and only they, each once: `place` and `get_or` are inverse between the indices and these masks
  pub mask-place : (k : ℕ) → k < dimension r m → place (masks r m) (get_or (masks r m) k 0) ≡ k
  unfolding dimension
  mask-place k h = place_at (masks r m) once k h

  pub mask-light : (k : ℕ) → k < dimension r m → (get_or (masks r m) k 0 < 2 ^ m) × (weight (get_or (masks r m) k 0) ≤ r)
  unfolding dimension
  mask-light k h = only (get_or (masks r m) k 0) (count_at (masks r m) k h)

  pub place-mask : (S : ℕ) → S < 2 ^ m → weight S ≤ r → (place (masks r m) S < dimension r m) × (get_or (masks r m) (place (masks r m) S) 0 ≡ S)
  unfolding dimension
  place-mask S h w = at_place (masks r m) S (there S h w)

  -- the list is a beginning of every later one
  beginning : (j : ℕ) → r ≤ j → (dimension r m ≤ length (masks j m)) × (take (dimension r m) (masks j m) ≡ masks r m)
  unfolding dimension masks
  beginning j h =
      le_ind (λ (i : ℕ). (length (masks r m) ≤ length (masks i m)) × (take (length (masks r m)) (masks i m) ≡ masks r m))
      (omega arith, take-length (masks r m))
      (λ i (hi : r ≤ i) e. (rw length-append (omega (arith, e.0)), take-append-le (length (masks r m)) (masks i m) _ e.0 ∙ e.1))
      j h

-- a higher degree has all message bits of a lower one
pub dimension-mono : (r j m : ℕ) → r ≤ j → dimension r m ≤ dimension j m
unfolding dimension
dimension-mono r j m h = (beginning r m j h).0

module _ (r m : ℕ) (h : r ≤ m) where
  -- the first of the order are the masks of at most r bits
  pub order-first : take (dimension r m) (order m) ≡ masks r m
  unfolding order
  order-first = (beginning r m m h).1

  pub order-at : (k : ℕ) → k < dimension r m → get_or (order m) k 0 ≡ get_or (masks r m) k 0
  order-at k l = sym (get_or-take (dimension r m) (order m) k 0 l) ∙ ap (λ (xs : List ℕ). get_or xs k 0) order-first

  pub dimension-fits : dimension r m ≤ length (order m)
  unfolding order
  dimension-fits = (beginning r m m h).0

length-sum : (xs : List ℕ) → sum_l (λ x. 1) xs ≡ length xs
length-sum [] = refl
length-sum (x ∷ xs) = omega (arith, length-sum xs)

sum_ones : (n : ℕ) → sum_to n (λ i. 1) ≡ n
unfolding sum_to
sum_ones zero = refl
sum_ones (suc n) = omega (arith, sum_ones n)

module _ (m : ℕ) where
  pub order-length : length (order m) ≡ 2 ^ m
  unfolding order
  order-length =
      sym (length-sum (masks m m)) ∙ sum-masks m m (λ x. 1)
      ∙ sum-ext (2 ^ m) (λ S h_s. ap (λ b. given b 1) (le-leb (weight S) m (ones-le m S h_s))) ∙ sum_ones (2 ^ m)

  pub order-place : (k : ℕ) → k < 2 ^ m → place (order m) (get_or (order m) k 0) ≡ k
  unfolding order dimension
  order-place k h = mask-place m m k (omega (arith, order-length))

  pub order_below : (k : ℕ) → k < 2 ^ m → get_or (order m) k 0 < 2 ^ m
  unfolding order dimension
  order_below k h = (mask-light m m k (omega (arith, order-length))).0

  pub place-order : (S : ℕ) → S < 2 ^ m → (place (order m) S < 2 ^ m) × (get_or (order m) (place (order m) S) 0 ≡ S)
  unfolding order dimension
  place-order S h = let w = place-mask m m S h (ones-le m S h) in (omega (arith, order-length, w.0), w.1)

-- the first masks of the order have at most r bits
module _ (r m : ℕ) (hr : r ≤ m) where
  -- there are no more message bits than masks
  pub dimension-small : dimension r m ≤ 2 ^ m
  dimension-small = omega (arith, dimension-fits r m hr, order-length m)

  pub order-light : (k : ℕ) → k < dimension r m → weight (get_or (order m) k 0) ≤ r
  order-light k h = rw (order-at r m hr k h) (mask-light r m k h).1
