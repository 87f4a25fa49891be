-- The lines of the sheet program's listing, each ended by a line feed (byte 10). Clients cite header_text, line_of and refused_text.
-- Assumes nothing.
use Rattle.std.specs.Prelude.{ℕ, List, [], ◌∷◌, ◌++◌, ℤ}
use Rattle.text.specs.Text.{bytes, decimal_of, signed_of}

-- the header
unfoldable pub header_text : List ℕ
unfolding bytes
header_text = bytes "kind grade energy frame\n"

-- coordinates, each after a single space (byte 32)
unfoldable pub coordinates_of : List ℤ → List ℕ
unfolding signed_of
coordinates_of [] = []
coordinates_of (z ∷ zs) = (32 ∷ signed_of z) ++ coordinates_of zs

-- a frame's line: kind, grade, energy, then coordinates, with single spaces between
unfoldable pub line_of : ℕ → ℕ → ℕ → List ℤ → List ℕ
unfolding decimal_of coordinates_of
line_of kind grade energy frame = decimal_of kind ++ (32 ∷ []) ++ decimal_of grade ++ (32 ∷ []) ++ decimal_of energy ++ coordinates_of frame ++ (10 ∷ [])

-- a refused record's line
unfoldable pub refused_text : ℕ → List ℕ
unfolding bytes decimal_of
refused_text number = bytes "refused " ++ decimal_of number ++ (10 ∷ [])
