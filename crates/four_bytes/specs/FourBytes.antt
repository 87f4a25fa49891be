-- Numbers as four bytes, lowest byte first, and coordinates in two's complement (request E11: "all lowest byte first, coordinates in two's complement").
-- Assumes nothing.
use Rattle.std.specs.Prelude.{ℕ, zero, suc, ◌+◌, ◌*◌, ◌/◌, ◌%◌, cond, List, [], ◌∷◌, ◌++◌, ltb, ℤ, pos, ◌-ℤ◌, get_or, drop}
use Rattle.integers.specs.Integer.{mod_z}

-- ---- numbers below 2^32, which is 4,294,967,296

-- the four bytes of a number, lowest first
unfoldable pub four_bytes : ℕ → List ℕ
four_bytes w = (w % 256) ∷ (w / 256 % 256) ∷ (w / 65536 % 256) ∷ (w / 16777216 % 256) ∷ []

-- the number that four bytes make, lowest first
abbrev pub of_four : ℕ → ℕ → ℕ → ℕ → ℕ
of_four a b c d = a + 256 * b + 65536 * c + 16777216 * d

-- the number of the four bytes from place p on
abbrev pub four_at : List ℕ → ℕ → ℕ
four_at s p = of_four (get_or s p 0) (get_or s (p + 1) 0) (get_or s (p + 2) 0) (get_or s (p + 3) 0)

-- ---- integers from −2^31 to 2^31 − 1

-- two's complement: z modulo 2^32, so that −1 is 4,294,967,295
unfoldable pub twos : ℤ → ℕ
twos z = mod_z z 4294967296

-- the integer of a number in two's complement: from 2^31 on it is negative, 2^32 less
unfoldable pub signed : ℕ → ℤ
signed w = cond (ltb w 2147483648) (pos w) (pos w -ℤ pos 4294967296)

-- the bytes of coordinates, four for each
unfoldable pub coordinate_bytes : List ℤ → List ℕ
unfolding four_bytes twos
coordinate_bytes [] = []
coordinate_bytes (z ∷ zs) = four_bytes (twos z) ++ coordinate_bytes zs

-- the n coordinates of bytes, from the first byte on
unfoldable pub coordinates_from : ℕ → List ℕ → List ℤ
unfolding signed
coordinates_from zero s = []
coordinates_from (suc n) s = signed (four_at s 0) ∷ coordinates_from n (drop 4 s)
