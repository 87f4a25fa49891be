-- The energy of an integer frame, the squared distance of two, and the size of coordinates (document 01, "Shaping"). Clients cite all of it. Assumes nothing.
use Rattle.std.specs.Prelude.{Bool, true, ◌&&◌, List, [], ◌∷◌, ℕ, ◌+◌, ◌*◌, ◌≤◌, leb, ℤ, ◌-ℤ◌, nat_abs}

-- the square of an integer
unfoldable pub sq : ℤ → ℕ
sq z = nat_abs z * nat_abs z

-- the energy of a frame: the sum of the squares of its coordinates, which may be of any size
unfoldable pub energy : List ℤ → ℕ
energy [] = 0
energy (z ∷ zs) = sq z + energy zs

-- the squared distance of two frames: the sum of the squares of their differences, coordinate by coordinate
unfoldable pub distance : List ℤ → List ℤ → ℕ
distance [] ys = 0
distance (x ∷ xs) [] = 0
distance (x ∷ xs) (y ∷ ys) = sq (x -ℤ y) + distance xs ys

-- every coordinate is at most B in size
abbrev pub Within : ℕ → List ℤ → Type 0
Within B [] = Unit {0}
Within B (z ∷ zs) = (nat_abs z ≤ B) × Within B zs

-- the same as a test
unfoldable pub is_within : ℕ → List ℤ → Bool
is_within B [] = true
is_within B (z ∷ zs) = leb (nat_abs z) B && is_within B zs
