-- The lines of document 01's listing, computed from the definitions. Assumes nothing.
use mathlib.Core.Path.{◌≡◌, refl}
use mathlib.Core.List.{[], ◌∷◌}
use lib.IntN.{pos, negsuc}
use Rattle.text.specs.Text.{bytes}
use Rattle.text.specs.Line.{line_of, refused_text}

first : line_of 3 1 16 (negsuc 3 ∷ pos 0 ∷ pos 0 ∷ pos 0 ∷ pos 0 ∷ pos 0 ∷ pos 0 ∷ pos 0 ∷ []) ≡ bytes "3 1 16 -4 0 0 0 0 0 0 0\n"
unfolding line_of bytes
first = refl

second : line_of 3 1 4 (pos 0 ∷ pos 1 ∷ pos 0 ∷ pos 1 ∷ pos 0 ∷ pos 1 ∷ pos 0 ∷ pos 1 ∷ []) ≡ bytes "3 1 4 0 1 0 1 0 1 0 1\n"
unfolding line_of bytes
second = refl

refused : refused_text 2 ≡ bytes "refused 2\n"
unfolding refused_text bytes
refused = refl

long : refused_text 12 ≡ bytes "refused 12\n"
unfolding refused_text bytes
long = refl
