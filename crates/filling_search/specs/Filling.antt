-- A leader's last block with the free bits filled, as the code holds it. The contracts of private functions cite it; clients need none of it.
-- Assumes nothing.
use Rattle.std.specs.Prelude.{ℕ, zero, suc, ◌+◌, ◌-◌, ◌*◌, ◌/◌, ◌%◌, ◌^◌, Bool, true, false, cond, List, [], ◌∷◌, ◌++◌, eqb, length, take, drop, ℤ, pos, ◌+ℤ◌, ◌-ℤ◌}
use Rattle.e8.specs.Energy.{energy}
use Rattle.e8.specs.Ties.{least_block_by, least_frame_by}
use Rattle.frames.specs.Message.{widths, numbers}
use Rattle.frames.specs.Free.{first_least}

-- the numbers s1 to s8 of a block whose last f bits hold φ, and whose other bits are 0
unfoldable pub filling_numbers : ℕ → ℕ → ℕ → List ℕ
unfolding numbers
filling_numbers b f φ = numbers (λ t. φ * 2 ^ (8 * b - f) / 2 ^ t % 2) 0 (widths b)

-- 2^a·s added to z, or taken off it
abbrev pub shift : Bool → ℕ → ℕ → ℤ → ℤ
shift off a s z = cond off (z -ℤ pos (2 ^ a * s)) (z +ℤ pos (2 ^ a * s))

-- coordinate by coordinate
abbrev pub shift_all : Bool → ℕ → List ℕ → List ℤ → List ℤ
shift_all off a [] zs = []
shift_all off a (s ∷ ss) [] = []
shift_all off a (s ∷ ss) (z ∷ zs) = shift off a s z ∷ shift_all off a ss zs

-- the last block x of a leader with the filling φ put into it, or taken out: the free bits are the last ones of its numbers, over a levels
unfoldable pub shifted_block : Bool → ℕ → ℕ → ℕ → ℕ → List ℤ → List ℤ
unfolding filling_numbers
shifted_block off a b f φ x = shift_all off a (filling_numbers b f φ) x

-- put into one whose free bits are 0
abbrev pub filled_block : ℕ → ℕ → ℕ → ℕ → List ℤ → List ℤ
filled_block a b f φ x = shifted_block false a b f φ x

-- the blocks of the first n fillings, one behind the other
unfoldable pub filled_blocks : ℕ → ℕ → ℕ → List ℤ → ℕ → List ℤ
unfolding shifted_block
filled_blocks a b f x zero = []
filled_blocks a b f x (suc n) = filled_blocks a b f x n ++ filled_block a b f n x

-- the blocks of all fillings, shaped
unfoldable pub shaped_blocks : ℕ → ℕ → ℕ → List ℤ → List ℤ
unfolding filled_blocks least_frame_by
shaped_blocks a b f x = least_frame_by false (2 ^ (a + b - 1)) (2 ^ f) (filled_blocks a b f x (2 ^ f))

-- the filling that is taken: the first whose block has the least energy
unfoldable pub quiet_of : ℕ → ℕ → ℕ → List ℤ → ℕ
unfolding shifted_block first_least least_block_by energy
quiet_of a b f x = first_least (λ φ. energy (least_block_by false (2 ^ (a + b - 1)) (filled_block a b f φ x))) (2 ^ f)

-- the filling φ is the one that is taken, where x is any block of the class of its own: with φ taken out of it
unfoldable pub is_quietest : ℕ → ℕ → ℕ → ℕ → List ℤ → Bool
unfolding shifted_block quiet_of
is_quietest a b f φ x = eqb (quiet_of a b f (shifted_block true a b f φ x)) φ

-- a leader whose free bits are 0, with that filling in its last block
unfoldable pub quiet_last : ℕ → ℕ → ℕ → List ℤ → List ℤ
unfolding shifted_block quiet_of
quiet_last a b f l = take (length l - 8) l ++ filled_block a b f (quiet_of a b f (drop (length l - 8) l)) (drop (length l - 8) l)
