-- A block rounded coordinate by coordinate, and the candidates for its least member: each coordinate rounded, and where the sum is odd the one of highest
-- rank changed.
-- The contracts of rounding and candidates cite it; who shapes or sends needs none of it. M = 2·H. Assumes nothing.
use Rattle.std.specs.Prelude.{◌≡◌, Bool, cond, List, [], ◌∷◌, ℕ, suc, ◌+◌, ◌*◌, ◌-◌, eqb, ltb, ℤ, pos, ◌+ℤ◌, ◌-ℤ◌, nat_abs}
use Rattle.std.specs.Int.Signed.{lt_z, le_z}
use Rattle.integers.specs.Integer.{mod_z}
use Rattle.e8.specs.Least.{cent}

-- m up from a negative number, and down from any other
abbrev pub across : ℤ → ℤ → ℤ
across m c = cond (lt_z c (pos 0)) (c +ℤ m) (c -ℤ m)

-- the whole part, of cost e and first coordinate c, comes before the half part, of cost f and first coordinate d, where c and d differ
abbrev pub whole_first : ℤ → ℤ → ℤ → ℤ → Bool
whole_first e c f d = cond (lt_z c d) (le_z e f) (lt_z e f)

-- the rank of coordinate c at place i: by size, then 15 − i where it is not negative, and i where it is
abbrev pub rank_of : ℤ → ℕ → ℕ
rank_of c i = 16 * nat_abs c + cond (lt_z c (pos 0)) i (15 - i)

-- the ranks of coordinates that stand from place i on
abbrev pub ranks_of : List ℤ → ℕ → List ℤ
ranks_of [] i = []
ranks_of (c ∷ cs) i = pos (rank_of c i) ∷ ranks_of cs (suc i)

-- the larger of two, and the smaller
abbrev pub larger_of : ℤ → ℤ → ℤ
larger_of a b = cond (lt_z a b) b a

abbrev pub smaller_of : ℤ → ℤ → ℤ
smaller_of a b = cond (lt_z a b) a b

-- one of a whole list, by one of two: `among larger_of` is the largest, `among smaller_of` the smallest; of none 0
abbrev pub among : (ℤ → ℤ → ℤ) → List ℤ → ℤ
among f [] = pos 0
among f (x ∷ []) = x
among f (x ∷ y ∷ ys) = f (among f (y ∷ ys)) x

-- every coordinate rounded
abbrev pub rounded : ℕ → List ℤ → List ℤ
rounded H [] = []
rounded H (x ∷ xs) = cent H x ∷ rounded H xs

-- the sum of what comes off in rounding: a multiple of M at each coordinate
abbrev pub off : ℕ → List ℤ → ℤ
off H [] = pos 0
off H (x ∷ xs) = off H xs +ℤ (x -ℤ cent H x)

-- the sum of the multiples of M at each coordinate or next below
abbrev pub floors : ℕ → List ℤ → ℤ
floors H [] = pos 0
floors H (x ∷ xs) = floors H xs +ℤ (x -ℤ pos (mod_z x (2 * H)))

-- the sum of the sizes
abbrev pub sizes : List ℤ → ℕ
sizes [] = 0
sizes (c ∷ cs) = sizes cs + nat_abs c

-- the highest rank of coordinates that stand from place i on
abbrev pub highest : List ℤ → ℕ → ℕ
highest [] i = 0
highest (c ∷ cs) i = cond (ltb (highest cs (suc i)) (rank_of c i)) (rank_of c i) (highest cs (suc i))

-- the lowest
abbrev pub lowest : List ℤ → ℕ → ℕ
lowest [] i = 0
lowest (c ∷ []) i = rank_of c i
lowest (c ∷ d ∷ cs) i = cond (ltb (lowest (d ∷ cs) (suc i)) (rank_of c i)) (lowest (d ∷ cs) (suc i)) (rank_of c i)

-- rs is xs rounded, and the figures are its own: the sums of what comes off in the whole part and in the half part, the sum of the sizes, the highest
-- rank and the lowest
pub record Rounded (H : ℕ) (xs rs : List ℤ) (sum halves total most least : ℤ) : Type 0 where
  pub block : rs ≡ rounded H xs
  pub whole : sum ≡ off H xs
  pub half : halves ≡ floors H xs
  pub size : total ≡ pos (sizes rs)
  pub top : most ≡ pos (highest rs 0)
  pub low : least ≡ pos (lowest rs 0)

-- coordinate c at place i, across 0 by `at` where its rank is t, and by `elsewhere` where it is not
abbrev pub member_of : ℤ → ℤ → ℕ → ℤ → ℕ → ℤ
member_of at elsewhere t c i = across (cond (eqb (rank_of c i) t) at elsewhere) c

-- so for each coordinate, from place i on
abbrev pub members : ℤ → ℤ → ℕ → ℕ → List ℤ → List ℤ
members at elsewhere t i [] = []
members at elsewhere t i (c ∷ cs) = member_of at elsewhere t c i ∷ members at elsewhere t (suc i) cs
