-- The lattice E8, the shaping lattice M times E8 on each block of eight, and the classes it makes (document 01, "Shaping").
-- Clients cite TwoE8, InBlock, part, Differ. The scale is given as H, with M = 2·H. Assumes nothing.
use Rattle.std.specs.Prelude.{◌≡◌, Bool, true, false, List, [], ◌∷◌, ℕ, ◌*◌, ◌<◌, length, take, drop, ℤ, pos, ◌+ℤ◌, ◌-ℤ◌, ◌*ℤ◌}
use Rattle.integers.specs.Integer.{mod_z}

-- the sum of the coordinates
abbrev pub sum : List ℤ → ℤ
sum [] = pos 0
sum (w ∷ ws) = w +ℤ sum ws

-- a truth value as the remainder modulo 2 that it stands for: 1 for odd
abbrev pub bit : Bool → ℕ
bit false = 0
bit true = 1

-- every coordinate is even (false), or every one is odd (true)
abbrev pub Each : Bool → List ℤ → Type 0
Each odd [] = Unit {0}
Each odd (w ∷ ws) = (mod_z w 2 ≡ bit odd) × Each odd ws

-- ws is twice a point of E8. All even: the point is a vector of whole numbers. All odd: it is a vector of halves of odd numbers.
-- In both cases the sum of the point is even, which is to say that 4 divides the sum of ws
pub record TwoE8 (ws : List ℤ) : Type 0 where
  pub odd : Bool
  pub same : Each odd ws
  pub four : mod_z (sum ws) 4 ≡ 0

-- xs − H·ws, coordinate by coordinate
abbrev pub moved : ℕ → List ℤ → List ℤ → List ℤ
moved H [] ws = []
moved H (x ∷ xs) [] = []
moved H (x ∷ xs) (w ∷ ws) = (x -ℤ pos H *ℤ w) ∷ moved H xs ws

-- the blocks xs and zs differ by a point of M·E8: it is H·ws, where ws is twice a point of E8
pub record InBlock (H : ℕ) (xs zs : List ℤ) : Type 0 where
  pub ws : List ℤ
  pub long : length ws ≡ length xs
  pub is : zs ≡ moved H xs ws
  pub point : TwoE8 ws

-- block i of a frame: a block begins at each position that 8 divides
abbrev pub part : ℕ → List ℤ → List ℤ
part i xs = take 8 (drop (8 * i) xs)

-- xs and zs are frames of n blocks and differ by a point of the shaping lattice, which is M·E8 on each block: they are of one class
pub record Differ (H n : ℕ) (xs zs : List ℤ) : Type 0 where
  pub whole : length xs ≡ 8 * n
  pub long : length zs ≡ length xs
  pub blocks : (i : ℕ) → i < n → InBlock H (part i xs) (part i zs)
