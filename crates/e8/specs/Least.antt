-- The member of a class that is sent: the least energy, and among equals the first in reading order (document 01, "Shaping"), or the last
-- (request E5). Clients cite the rule, IsLeast, and the frame that is computed by the old tie rule, least_block and least_frame; the scale is given
-- as H, with M = 2·H. Assumes nothing.
use Rattle.std.specs.Prelude.{◌≡◌, Bool, true, false, not, cond, List, [], ◌∷◌, ◌++◌, ℕ, zero, suc, ◌*◌, ◌≤◌, ltb, take, drop, ℤ, pos, ◌+ℤ◌, ◌-ℤ◌}
use Rattle.integers.specs.Integer.{mod_z}
use Rattle.e8.specs.Energy.{energy}
use Rattle.e8.specs.Order.{Reads, before}
use Rattle.e8.specs.Lattice.{Differ}

-- z goes before t by a tie rule, or is t: by the first in reading order (false), or by the last (true)
abbrev pub GoesBefore : Bool → List ℤ → List ℤ → Type 0
GoesBefore false z t = Reads z t
GoesBefore true z t = Reads t z

-- THE RULE: z is in the class of x, has the least energy of it, and is the first in reading order among its members of that energy, or the last
pub record IsLeast (last : Bool) (H n : ℕ) (x z : List ℤ) : Type 0 where
  pub member : Differ H n x z
  pub least : (t : List ℤ) → Differ H n x t → energy z ≤ energy t
  pub tie : (t : List ℤ) → Differ H n x t → energy t ≡ energy z → GoesBefore last z t

-- one coordinate: of the numbers that differ from x by multiples of 2M the nearest to 0, and of M and −M the latter
unfoldable pub cent : ℕ → ℤ → ℤ
cent M x = pos (mod_z (x +ℤ pos M) (2 * M)) -ℤ pos M

-- of two blocks the one of less energy, and where the energies are equal the first in reading order
unfoldable pub better : List ℤ → List ℤ → List ℤ
better a b = cond (ltb (energy a) (energy b)) a (cond (ltb (energy b) (energy a)) b (cond (before a b) a b))

-- the whole vectors: the best of xs − M·u over whole numbers u with even sum (false), or with odd sum (true).
-- The first number of u is even or odd, and the sum of the others with it
unfoldable pub best : ℕ → Bool → List ℤ → List ℤ
best M odd [] = []
best M false (x ∷ []) = cent M x ∷ []
best M true (x ∷ []) = cent M (x -ℤ pos M) ∷ []
best M odd (x ∷ y ∷ ys) = better (cent M x ∷ best M odd (y ∷ ys)) (cent M (x -ℤ pos M) ∷ best M (not odd) (y ∷ ys))

-- d less at each coordinate
abbrev pub lowered : ℤ → List ℤ → List ℤ
lowered d [] = []
lowered d (x ∷ xs) = (x -ℤ d) ∷ lowered d xs

-- THE SENT BLOCK: the better of the best by whole vectors and the best by halves of odd numbers, which is whole vectors after half of M at each coordinate
unfoldable pub least_block : ℕ → List ℤ → List ℤ
least_block H x = better (best (2 * H) false x) (best (2 * H) false (lowered (pos H) x))

-- THE SENT FRAME of n blocks, block by block
unfoldable pub least_frame : ℕ → ℕ → List ℤ → List ℤ
least_frame H zero x = []
least_frame H (suc n) x = least_block H (take 8 x) ++ least_frame H n (drop 8 x)
