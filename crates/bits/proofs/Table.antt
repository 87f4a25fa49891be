-- Lists of the values of a function: length, entries, tables that are filled from the first value on. Assumes nothing.
use Prim.Native.Nat.{ℕ, zero, suc, ◌+◌, ◌<◌}
use mathlib.Core.Path.{◌≡◌, refl, sym, ap, ap₂, ◌∙◌}
use mathlib.Core.List.{List, [], ◌∷◌, ◌++◌}
use native.Mathlib.Decide.{dec_lt, ℕ_discrete}
use native.Mathlib.Omega.{arith}
use lib.Dec.{ltb}
use lib.ListN.{length, get_or, set, length-append, length-set, get_or-append}
use lib.Seq.{ext_get_or, get_or-set_same, get_or-set_other, get_or_at}
use borrow.Author.Tests.{lt-ltb, le-ltb}
use Rattle.bits.specs.Number.{given, table}

pub length-table : (f : ℕ → ℕ) (n : ℕ) → length (table n f) ≡ n
unfolding table
length-table f zero = refl
length-table f (suc n) = rw length-append (omega (arith, length-table f n))

-- the table holds f k at k
pub table_at : (f : ℕ → ℕ) (n k : ℕ) → k < n → get_or (table n f) k 0 ≡ f k
unfolding table
table_at f zero k h = absurd (omega arith)
table_at f (suc n) k h = go (table_at f n k) (dec_lt k n)
  where
    go : (k < n → get_or (table n f) k 0 ≡ f k) → Dec (k < n) → get_or (table n f ++ (f n ∷ [])) k 0 ≡ f k
    go ih (yes l) = get_or-append (table n f) (f n ∷ []) 0 k (omega (arith, length-table f n)) ∙ ih l
    go ih (no x) = get_or_at (table n f) (f n) [] 0 k (omega (arith, length-table f n)) ∙ ap f (omega arith)

pub table-ext : (n : ℕ) {f g : ℕ → ℕ} → ((k : ℕ) → k < n → f k ≡ g k) → table n f ≡ table n g
unfolding table
table-ext zero h = refl
table-ext (suc n) h =
    ap₂ (λ (xs : List ℕ) (y : ℕ). xs ++ (y ∷ [])) (table-ext n (λ k l. h k (omega arith))) (h n (omega arith))

-- ---- a table filled from the first value on

-- the first i values, and 0 for the others
abbrev pub filled : ℕ → (ℕ → ℕ) → ℕ → List ℕ
filled n f i = table n (λ t. given (ltb t i) (f t))

-- none is there yet
pub filled_none : (n : ℕ) (f : ℕ → ℕ) → filled n f 0 ≡ table n (λ t. 0)
filled_none n f = table-ext n (λ t l. rw (le-ltb t 0 (omega arith)))

-- one more
pub filled_more : (n : ℕ) (f : ℕ → ℕ) (i : ℕ) → i < n → set (filled n f i) i (f i) ≡ filled n f (i + 1)
filled_more n f i h =
    ext_get_or 0 (set (filled n f i) i (f i)) (filled n f (i + 1)) (length-set (filled n f i) i (f i) ∙ long i ∙ sym (long (i + 1)))
    (λ t l. at t (omega (arith, l, length-set (filled n f i) i (f i), long i)) (ℕ_discrete t i))
  where
    long : (j : ℕ) → length (filled n f j) ≡ n
    long j = length-table (λ t. given (ltb t j) (f t)) n

    entry : (j t : ℕ) → t < n → get_or (filled n f j) t 0 ≡ given (ltb t j) (f t)
    entry j t l = table_at (λ t. given (ltb t j) (f t)) n t l

    other : (t : ℕ) → (t ≡ i → ⊥) → Dec (t < i) → given (ltb t i) (f t) ≡ given (ltb t (i + 1)) (f t)
    other t k (yes l) = rw (lt-ltb t i l, lt-ltb t (i + 1) (omega arith))
    other t k (no l) = rw (le-ltb t i (omega arith), le-ltb t (i + 1) (omega arith))

    at : (t : ℕ) → t < n → Dec (t ≡ i) → get_or (set (filled n f i) i (f i)) t 0 ≡ get_or (filled n f (i + 1)) t 0
    at t l (yes e) =
        ap (λ (j : ℕ). get_or (set (filled n f i) i (f i)) j 0) e ∙ get_or-set_same (filled n f i) i (f i) 0 (omega (arith, long i))
        ∙ sym (entry (i + 1) t l ∙ rw (lt-ltb t (i + 1) (omega arith)) (ap f e))
    at t l (no k) = get_or-set_other (filled n f i) i t (f i) 0 k ∙ entry i t l ∙ other t k (dec_lt t i) ∙ sym (entry (i + 1) t l)
