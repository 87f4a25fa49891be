-- Blocks whose least member is computed by either tie rule; matrix (39) by its rule
use Prim.Native.Nat.{ℕ, zero, suc, ◌+◌}
use mathlib.Core.Path.{◌≡◌, refl}
use mathlib.Core.Bool.{true, false, cond}
use mathlib.Core.List.{List, [], ◌∷◌, map}
use lib.Dec.{eqb}
use lib.IntN.{ℤ, pos, negsuc}
use Rattle.e8.specs.Energy.{sq, energy}
use Rattle.e8.specs.Order.{before}
use Rattle.e8.specs.Least.{cent, better, best, least_block}
use Rattle.e8.specs.Ties.{least_block_by}
use Rattle.e8.specs.Rows.{ints, matrix}

-- where rounding leaves no error but an odd sum, the tie goes to the first coordinate: M = 4
pub tie-at-4 : least_block 2 (ints (0 ∷ 0 ∷ 0 ∷ 0 ∷ 0 ∷ 0 ∷ 0 ∷ 4 ∷ [])) ≡ negsuc 3 ∷ ints (0 ∷ 0 ∷ 0 ∷ 0 ∷ 0 ∷ 0 ∷ 0 ∷ [])
unfolding sq energy before cent better best least_block
tie-at-4 = refl

-- and by the rule of the last to 4 there
pub tie-at-4-last : least_block_by true 2 (ints (0 ∷ 0 ∷ 0 ∷ 0 ∷ 0 ∷ 0 ∷ 0 ∷ 4 ∷ [])) ≡ ints (4 ∷ 0 ∷ 0 ∷ 0 ∷ 0 ∷ 0 ∷ 0 ∷ 0 ∷ [])
unfolding sq energy before cent better best least_block least_block_by
tie-at-4-last = refl

-- four coordinates of which one is −3, where 1 + 4 would be more: the first of them, or the last
abbrev three-tied : List ℤ
three-tied = ints (0 ∷ 1 ∷ 0 ∷ 1 ∷ 0 ∷ 1 ∷ 0 ∷ 5 ∷ [])

pub tie-of-3 : least_block_by false 2 three-tied ≡ pos 0 ∷ negsuc 2 ∷ ints (0 ∷ 1 ∷ 0 ∷ 1 ∷ 0 ∷ 1 ∷ [])
unfolding sq energy before cent better best least_block least_block_by
tie-of-3 = refl

pub tie-of-3-last : least_block_by true 2 three-tied ≡ pos 0 ∷ pos 1 ∷ pos 0 ∷ pos 1 ∷ pos 0 ∷ pos 1 ∷ pos 0 ∷ negsuc 2 ∷ []
unfolding sq energy before cent better best least_block least_block_by
tie-of-3-last = refl

-- twice the number in row i and place j of matrix (39): the first row has a half in every place, each of the others has 1 in its own place and 1 in the
-- last, and so the last row has 2 there
abbrev twice : ℕ → ℕ → ℕ
twice zero j = 1
twice (suc i) j = cond (eqb j (suc i)) 2 0 + cond (eqb j 7) 2 0

abbrev eight : List ℕ
eight = 0 ∷ 1 ∷ 2 ∷ 3 ∷ 4 ∷ 5 ∷ 6 ∷ 7 ∷ []

-- another basis of the same lattice can reduce every block alike, so this is what tells the matrix from it
pub matrix-entries : matrix ≡ map (λ i. map (twice i) eight) eight
matrix-entries = refl
