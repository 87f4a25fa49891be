-- Records that are cut short, by the definitions. Assumes nothing.
use mathlib.Core.Path.{◌≡◌, refl}
use mathlib.Core.List.{[], ◌∷◌}
use Rattle.frames.specs.Kind.{kinds, is_kind}
use Rattle.sheet_record.specs.Record.{marked, record_refusal, record_number}

-- a lone 4C lacks the mark; a record of a wrong kind that is cut short is refused for its kind
pub lone : record_number (76 ∷ []) 0 ≡ 10
unfolding record_number record_refusal marked
lone = refl

pub kind-first : record_number (76 ∷ 67 ∷ 7 ∷ []) 0 ≡ 1
unfolding record_number record_refusal marked is_kind kinds
kind-first = refl

pub cut_short : record_number (76 ∷ 67 ∷ 3 ∷ []) 0 ≡ 3
unfolding record_number record_refusal marked is_kind kinds
cut_short = refl
