-- Sums, rows and numbers made of the values of a function. Clients cite all of it. Assumes nothing.
use Rattle.std.specs.Prelude.{ℕ, zero, suc, ◌+◌, ◌*◌, ◌/◌, ◌%◌, ◌^◌, Bool, cond, List, [], ◌∷◌, ◌++◌}

-- x where the test holds, and 0 where it does not
abbrev pub given : Bool → ℕ → ℕ
given t x = cond t x 0

-- f 0 + f 1 + .. + f (n − 1)
unfoldable pub sum_to : ℕ → (ℕ → ℕ) → ℕ
sum_to zero f = 0
sum_to (suc n) f = sum_to n f + f n

-- the list f 0, f 1, .., f (n − 1)
unfoldable pub table : ℕ → (ℕ → ℕ) → List ℕ
table zero f = []
table (suc n) f = table n f ++ (f n ∷ [])

-- the number whose bit p is f p for p < n, and 0 above: lowest first, bit p counts 2 ^ p
abbrev pub number : ℕ → (ℕ → ℕ) → ℕ
number n f = sum_to n (λ p. f p * 2 ^ p)

-- bit p of a word that is held in a number
abbrev pub bit_of : ℕ → ℕ → ℕ
bit_of w p = w / 2 ^ p % 2
