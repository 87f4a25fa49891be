-- Kinds and grades: document 01's table with request E1's kind 6, the numbers for its levels, and what a row says of messages and of the scale.
-- Assumes nothing.
use Rattle.std.specs.Prelude.{ℕ, ◌+◌, ◌*◌, ◌/◌, ◌^◌, Bool, false, ◌&&◌, ◌||◌, cond, List, [], ◌∷◌, eqb, leb, length, get_or}
use Rattle.reed_muller.specs.Level.{dimension}

-- a row of the table: the kind m, whose frames have 2^m coordinates, and the degrees r of its level codes RM(r,m), level 0 first
pub record Row : Type 0 where
  pub kind : ℕ
  pub degrees : List ℕ

-- the table of kinds
unfoldable pub kinds : List Row
kinds =
    record { kind = 3; degrees = 1 ∷ [] }
    ∷ record { kind = 4; degrees = 1 ∷ 3 ∷ [] }
    ∷ record { kind = 5; degrees = 1 ∷ 3 ∷ [] }
    ∷ record { kind = 6; degrees = 1 ∷ 3 ∷ 5 ∷ [] }
    ∷ []

-- the numbers for a broken level, level 0 first: one for each level that a kind has
abbrev pub broken_numbers : List ℕ
broken_numbers = 7 ∷ 8 ∷ 13 ∷ []

-- the number for a broken level i
abbrev pub broken_number : ℕ → ℕ
broken_number i = get_or broken_numbers i 0

-- k stands in a row
abbrev pub listed : ℕ → List Row → Bool
listed k [] = false
listed k (row ∷ rows) = eqb k row.kind || listed k rows

-- k is a kind
unfoldable pub is_kind : ℕ → Bool
unfolding kinds
is_kind k = listed k kinds

-- the grades are 1 to 4
unfoldable pub is_grade : ℕ → Bool
is_grade b = leb 1 b && leb b 4

-- the degrees in the row of k
abbrev pub degrees_in : ℕ → List Row → List ℕ
degrees_in k [] = []
degrees_in k (row ∷ rows) = cond (eqb k row.kind) row.degrees (degrees_in k rows)

-- the degrees of the level codes of kind k
unfoldable pub degrees : ℕ → List ℕ
unfolding kinds
degrees k = degrees_in k kinds

-- the number of levels, a
unfoldable pub levels : ℕ → ℕ
unfolding degrees
levels k = length (degrees k)

-- the number of blocks of 8 coordinates
abbrev pub blocks : ℕ → ℕ
blocks k = 2 ^ k / 8

-- the message bits of levels of the degrees rs together: the dimensions of their codes
abbrev pub dimensions : ℕ → List ℕ → ℕ
dimensions m [] = 0
dimensions m (r ∷ rs) = dimension r m + dimensions m rs

-- those of kind k
unfoldable pub level_bits : ℕ → ℕ
unfolding degrees
level_bits k = dimensions k (degrees k)

-- message bits: those of the levels, and b for each coordinate
unfoldable pub message_bits : ℕ → ℕ → ℕ
unfolding level_bits
message_bits k b = level_bits k + 2 ^ k * b

-- message bytes: the bits, filled up to whole bytes
unfoldable pub message_bytes : ℕ → ℕ → ℕ
unfolding message_bits
message_bytes k b = (message_bits k b + 7) / 8

-- the scale M
unfoldable pub scale : ℕ → ℕ → ℕ
unfolding levels
scale k b = 2 ^ (levels k + b)
