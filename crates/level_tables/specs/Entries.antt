-- Entries of the tables of masks and places. Contracts of what reads the tables cite it. Assumes nothing.
use Rattle.std.specs.Prelude.{ℕ, ◌<◌, List, length, get_or}

-- every entry of the table is below 64
pub record Below64 (entries : List ℕ) : Type 0 where
  pub below : (i : ℕ) → i < length entries → get_or entries i 0 < 64
