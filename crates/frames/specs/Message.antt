-- Messages, and the coset leader that a message makes (document 01, "Message to coset leader"). Assumes nothing.
use Rattle.std.specs.Prelude.{ℕ, ◌+◌, ◌-◌, ◌*◌, ◌/◌, ◌%◌, ◌^◌, ◌≤◌, ◌<◌, ◌≡◌, List, [], ◌∷◌, length, get_or, ℤ}
use Rattle.bits.specs.Number.{sum_to, table, number}
use Rattle.reed_muller.specs.Level.{dimension, codeword}
use Rattle.bits.specs.Message.{message_bit}
use Rattle.e8.specs.Rows.{ints}
use Rattle.frames.specs.Kind.{degrees, level_bits, message_bits, message_bytes}

-- bytes: every number of the list is below 256
abbrev pub Bytes : List ℕ → Type 0
Bytes bytes = (j : ℕ) → get_or bytes j 0 < 256

-- a message of a kind and grade: as many bytes as the table gives, spare bits 0
pub record Message (k b : ℕ) (bytes : List ℕ) : Type 0 where
  pub long : length bytes ≡ message_bytes k b
  pub each : Bytes bytes
  pub spare : (i : ℕ) → message_bits k b ≤ i → message_bit bytes i ≡ 0

-- the widths of a block's numbers s1 to s8, in bits
abbrev pub widths : ℕ → List ℕ
widths b = (b - 1) ∷ b ∷ b ∷ b ∷ b ∷ b ∷ b ∷ (b + 1) ∷ []

-- numbers of the given widths, one after the other from bit `from` on, each lowest bit first
unfoldable pub numbers : (ℕ → ℕ) → ℕ → List ℕ → List ℕ
unfolding sum_to
numbers bit from [] = []
numbers bit from (w ∷ ws) = number w (λ i. bit (from + i)) ∷ numbers bit (from + w) ws

-- the numbers s1 to s8 of block j: the blocks' bits, 8b for each, stand behind those of the levels
unfoldable pub block_numbers : ℕ → ℕ → List ℕ → ℕ → List ℕ
unfolding numbers level_bits
block_numbers k b bytes j = numbers (message_bit bytes) (level_bits k + 8 * b * j) (widths b)

-- c0 + 2·s with one level, c0 + 2·(c1 + 2·s), which is c0 + 2·c1 + 4·s, with two, c0 + 2·(c1 + 2·(c2 + 2·s)), which is
-- c0 + 2·c1 + 4·c2 + 8·s, with three, and so on; over whole numbers.
-- The bits of the levels stand one behind the other, from bit `from` on
unfoldable pub stacked : ℕ → List ℕ → (ℕ → ℕ) → ℕ → ℕ → ℕ → ℕ
stacked m [] bit from s p = s
stacked m (r ∷ rs) bit from s p = codeword r m (λ i. bit (from + i)) p + 2 * stacked m rs bit (from + dimension r m) s p

-- coordinate p of the leader, which takes s from the numbers of its block
unfoldable pub coordinate : ℕ → ℕ → List ℕ → ℕ → ℕ
unfolding stacked degrees block_numbers
coordinate k b bytes p = stacked k (degrees k) (message_bit bytes) 0 (get_or (block_numbers k b bytes (p / 8)) (p % 8) 0) p

-- THE COSET LEADER of a message
unfoldable pub leader : ℕ → ℕ → List ℕ → List ℤ
unfolding coordinate table
leader k b bytes = ints (table (2 ^ k) (coordinate k b bytes))
