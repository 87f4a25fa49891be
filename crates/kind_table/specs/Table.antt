-- A row of the table of kinds as the code has it, by value. Clients cite row_of. Assumes nothing.
use Rattle.std.specs.Prelude.{ℕ, List, [], ◌∷◌, get_or}
use Rattle.frames.specs.Kind.{degrees, levels, level_bits}
use Rattle.kind_table.specs.declared.Kind.{Kind}

-- the degrees of up to three levels, and 0 where there is no level
abbrev pub three : List ℕ → List ℕ
three rs = get_or rs 0 0 ∷ get_or rs 1 0 ∷ get_or rs 2 0 ∷ []

-- the row of kind k: its levels, their degrees, and their message bits together; no level where there is no such kind
unfoldable pub row_of : ℕ → Kind
unfolding degrees levels level_bits
row_of k = record { levels = levels k; degrees = three (degrees k); bits = level_bits k }
