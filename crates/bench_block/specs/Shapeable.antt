-- The blocks that are shaped by themselves. Clients cite shapeable. Assumes nothing.
use Rattle.std.specs.Prelude.{ℕ, ◌^◌, Bool, ◌&&◌, List, eqb, leb, ℤ, length}
use Rattle.e8.specs.Energy.{is_within}

-- the scale 2^(k + 1) is at most 2^7, the block and the n coordinates lent for its least member are eight each, and every coordinate is at most 2^24 in size
unfoldable pub shapeable : ℕ → List ℤ → ℕ → Bool
unfolding is_within
shapeable k block n = leb k 6 && (eqb (length block) 8 && (eqb n 8 && is_within (2 ^ 24) block))
