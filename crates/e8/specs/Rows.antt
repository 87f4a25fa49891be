-- One message for each class: the rows of matrix (39), and the reduction of a block by them (document 01, "Shaping"; document 003, example 1).
-- Twice matrix (39) is whole, so 2^b times it is h times that, with h = 2^(b − 1). Clients cite rows, combination, reduced_by, reduced, Ranged, ints.
-- Assumes nothing.
use Rattle.std.specs.Prelude.{List, [], ◌∷◌, map, ℕ, suc, ◌*◌, ◌<◌, get_or, ℤ, pos, ◌+ℤ◌, ◌-ℤ◌, ◌*ℤ◌, nat_abs}
use Rattle.std.specs.Int.Signed.{shr_z}
use Rattle.integers.specs.Integer.{mod_z}
use Rattle.e8.specs.Least.{lowered}

-- natural numbers as integers
abbrev pub ints : List ℕ → List ℤ
ints [] = []
ints (s ∷ ss) = pos s ∷ ints ss

-- a vector q times
abbrev pub times : ℤ → List ℤ → List ℤ
times q [] = []
times q (w ∷ ws) = (q *ℤ w) ∷ times q ws

-- twice matrix (39), row by row
abbrev pub matrix : List (List ℕ)
matrix =
    (1 ∷ 1 ∷ 1 ∷ 1 ∷ 1 ∷ 1 ∷ 1 ∷ 1 ∷ [])
    ∷ (0 ∷ 2 ∷ 0 ∷ 0 ∷ 0 ∷ 0 ∷ 0 ∷ 2 ∷ [])
    ∷ (0 ∷ 0 ∷ 2 ∷ 0 ∷ 0 ∷ 0 ∷ 0 ∷ 2 ∷ [])
    ∷ (0 ∷ 0 ∷ 0 ∷ 2 ∷ 0 ∷ 0 ∷ 0 ∷ 2 ∷ [])
    ∷ (0 ∷ 0 ∷ 0 ∷ 0 ∷ 2 ∷ 0 ∷ 0 ∷ 2 ∷ [])
    ∷ (0 ∷ 0 ∷ 0 ∷ 0 ∷ 0 ∷ 2 ∷ 0 ∷ 2 ∷ [])
    ∷ (0 ∷ 0 ∷ 0 ∷ 0 ∷ 0 ∷ 0 ∷ 2 ∷ 2 ∷ [])
    ∷ (0 ∷ 0 ∷ 0 ∷ 0 ∷ 0 ∷ 0 ∷ 0 ∷ 4 ∷ [])
    ∷ []

-- the generators: 2^b times the rows of matrix (39)
abbrev pub rows : ℕ → List (List ℤ)
rows h = map (λ row. times (pos h) (ints row)) matrix

-- the sum of two vectors, coordinate by coordinate
abbrev pub add : List ℤ → List ℤ → List ℤ
add [] ys = []
add (x ∷ xs) [] = []
add (x ∷ xs) (y ∷ ys) = (x +ℤ y) ∷ add xs ys

-- the combination of rows of eight numbers with the whole numbers qs
abbrev pub combination : List ℤ → List (List ℤ) → List ℤ
combination [] rs = ints (0 ∷ 0 ∷ 0 ∷ 0 ∷ 0 ∷ 0 ∷ 0 ∷ 0 ∷ [])
combination (q ∷ qs) [] = ints (0 ∷ 0 ∷ 0 ∷ 0 ∷ 0 ∷ 0 ∷ 0 ∷ 0 ∷ [])
combination (q ∷ qs) (r ∷ rs) = add (times q r) (combination qs rs)

-- a vector less q times a row, coordinate by coordinate
abbrev pub taken_off : ℤ → List ℤ → List ℤ → List ℤ
taken_off q [] xs = []
taken_off q (r ∷ rs) [] = []
taken_off q (r ∷ rs) (x ∷ xs) = (x -ℤ q *ℤ r) ∷ taken_off q rs xs

-- THE RULE OF REDUCTION, for rows that begin with row i: in their order, each is taken off as often as the floor quotient of the number in place i
-- by the row's diagonal entry
unfoldable pub reduced_by : ℕ → List (List ℤ) → List ℤ → List ℤ
reduced_by i [] xs = xs
reduced_by i (r ∷ rs) xs = reduced_by (suc i) rs (taken_off (shr_z (get_or xs i (pos 0)) (nat_abs (get_or r i (pos 0)))) r xs)

-- s2 to s8, from the numbers y2 to y8 that the first row leaves. Rows 2 to 7 have 2h in their own place and in the last: of yi row i is taken off
-- as often as 2h goes into it, and si is the remainder by 2h; Q counts how often that was in all, and 2h·Q is gone from the last place. There the
-- last row has 4h, and s8 is the remainder by 4h
abbrev pub later_numbers : ℕ → ℤ → List ℤ → List ℕ
later_numbers h Q [] = []
later_numbers h Q (y ∷ []) = mod_z (y -ℤ pos (2 * h) *ℤ Q) (4 * h) ∷ []
later_numbers h Q (y ∷ z ∷ zs) = mod_z y (2 * h) ∷ later_numbers h (Q +ℤ shr_z y (2 * h)) (z ∷ zs)

-- THE REDUCTION of a block to s1 .. s8, computed: the first row is taken off every place, then the others. It is the reduction by the rows (proofs/Reduction)
unfoldable pub reduced : ℕ → List ℤ → List ℕ
reduced h [] = []
reduced h (x ∷ xs) = mod_z x h ∷ later_numbers h (pos 0) (lowered (pos h *ℤ shr_z x h) xs)

-- the ranges that the diagonal gives: s2 to s7 below 2h, s8 below 4h
abbrev pub Below : ℕ → List ℕ → Type 0
Below h [] = ⊥
Below h (s ∷ []) = s < 4 * h
Below h (s ∷ t ∷ ts) = (s < 2 * h) × Below h (t ∷ ts)

-- s1 below h, and the others so
abbrev pub Ranged : ℕ → List ℕ → Type 0
Ranged h [] = ⊥
Ranged h (s ∷ ss) = (s < h) × Below h ss
