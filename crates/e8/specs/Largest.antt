-- The largest block of a frame (request E2 of document 02: "the worst block of 8 coordinates"). Clients cite all of it. Assumes nothing.
use Rattle.std.specs.Prelude.{◌≡◌, List, ℕ, zero, suc, max, ◌/◌, ◌<◌, ◌≤◌, length, ℤ}
use Rattle.e8.specs.Energy.{energy}
use Rattle.e8.specs.Lattice.{part}

-- how many blocks of 8 coordinates a frame has: one begins at each position that 8 divides
abbrev pub blocks_of : List ℤ → ℕ
blocks_of f = length f / 8

-- THE RULE: r is the energy of some block of the frame, and no block has more
pub record IsLargest (f : List ℤ) (r : ℕ) : Type 0 where
  pub block : ℕ
  pub inside : block < blocks_of f
  pub has : energy (part block f) ≡ r
  pub most : (i : ℕ) → i < blocks_of f → energy (part i f) ≤ r

-- the largest energy among the first n blocks, 0 where n is 0
unfoldable pub largest_to : ℕ → List ℤ → ℕ
largest_to zero f = 0
largest_to (suc n) f = max (largest_to n f) (energy (part n f))

-- THE LARGEST BLOCK ENERGY of a frame, computed
abbrev pub largest_block : List ℤ → ℕ
largest_block f = largest_to (blocks_of f) f
