-- The least member of a class by either tie rule, computed (request E5): `last` is false for the first in reading order among the least, true for
-- the last. Clients cite negated, least_block_by and least_frame_by; the scale is given as H, with M = 2·H. Assumes nothing.
use Rattle.std.specs.Prelude.{Bool, true, false, List, [], ◌∷◌, ℕ, ℤ, neg_ℤ}
use Rattle.e8.specs.Least.{least_block, least_frame}

-- every coordinate with its sign changed
abbrev pub negated : List ℤ → List ℤ
negated [] = []
negated (z ∷ zs) = neg_ℤ z ∷ negated zs

-- a block: the last among the least of a class is the first among the least of the negated class, negated
unfoldable pub least_block_by : Bool → ℕ → List ℤ → List ℤ
unfolding least_block
least_block_by false H x = least_block H x
least_block_by true H x = negated (least_block H (negated x))

-- a frame of n blocks, likewise
unfoldable pub least_frame_by : Bool → ℕ → ℕ → List ℤ → List ℤ
unfolding least_frame
least_frame_by false H n x = least_frame H n x
least_frame_by true H n x = negated (least_frame H n (negated x))
