-- What bytes of a data file hold: numbers, coordinates, floats and accounts. Assumes nothing.
use Rattle.std.specs.Prelude.{ℕ, ◌+◌, ◌*◌, ◌%◌, ◌^◌, cond, List, [], ◌∷◌, leb, ltb, ℤ, pos, ◌-ℤ◌, length, take, drop, Float}
use Rattle.std.specs.Float.{binary32, binary64}
use Rattle.std.specs.Float.Ieee.{of_bits}
use Rattle.power_account.specs.declared.Account.{Account}
use Rattle.power_account.specs.Power.{begun}

-- the number that bytes hold, lowest byte first
unfoldable pub held : List ℕ → ℕ
held [] = 0
held (b ∷ bs) = b + 256 * held bs

-- as a number of 64 bits, and as one of 32
abbrev pub number_in : List ℕ → ℕ
number_in bytes = held bytes % 2 ^ 64

abbrev pub count_in : List ℕ → ℕ
count_in bytes = held bytes % 2 ^ 32

-- the signed number of 32 bits: from 2^31 on, n stands for n − 2^32
unfoldable pub signed_of : ℕ → ℤ
signed_of n = cond (ltb n (2 ^ 31)) (pos n) (pos n -ℤ pos (2 ^ 32))

-- a coordinate, of 4 bytes; a sample and an f64 by their bits, of 4 bytes and of 8
abbrev pub coordinate_in : List ℕ → ℤ
coordinate_in bytes = signed_of (count_in bytes)

abbrev pub sample_in : List ℕ → Float
sample_in bytes = of_bits binary32 (count_in bytes)

abbrev pub float_in : List ℕ → Float
float_in bytes = of_bits binary64 (number_in bytes)

-- a lent list with its first elements taken from bytes, each of 4 bytes, as many as there are; the rest as lent
unfoldable pub taken_from : {A : Type 0} → (List ℕ → A) → List ℕ → List A → List A
taken_from of bytes [] = []
taken_from of bytes (z ∷ lent) = cond (leb 4 (length bytes)) (of (take 4 bytes) ∷ taken_from of (drop 4 bytes) lent) (z ∷ lent)

-- the account of 24 bytes: its count of 4, its sum of 8, its largest block of 8 and its changeover of 4; with fewer, an account at its beginning
unfoldable pub account_in : List ℕ → Account
account_in bytes = cond (leb 24 (length bytes)) (record {
  count = count_in (take 4 bytes);
  sum = float_in (take 8 (drop 4 bytes));
  largest = number_in (take 8 (drop 12 bytes));
  changeover = count_in (take 4 (drop 20 bytes));
}) (begun 0)
