-- When a pair of recordings of the data passes each check: by the library's definitions, what is handed back and answered is what the data says.
-- Assumes nothing.
use Rattle.std.specs.Prelude.{ℕ, Bool, true, false, ◌&&◌, cond, List, [], ◌∷◌, eqb, length, Float}
use Rattle.std.specs.Float.{binary32}
use Rattle.std.specs.Float.Ieee.{to_bits}
use Rattle.frames.specs.Reading.{same_number}
use Rattle.recordings.specs.Choice.{handed_back, closer_number}
use Rattle.answers.specs.Answer.{answer_of, closer_code}
use Rattle.test_recordings.specs.declared.judging.Pair.{Pair}
use Rattle.test_recordings.specs.declared.Check.{Check}
use Rattle.test_recordings.specs.declared.Check.TheVariants.{Slice, Number, Exported}

-- the place of a check in the tally
abbrev pub place : Check → ℕ
place Slice = 0
place Number = 1
place Exported = 2

-- two f32 have the same bits
abbrev pub same_sample : Float → Float → Bool
same_sample a b = eqb (to_bits binary32 a) (to_bits binary32 b)

-- the same samples, and as many
unfoldable pub same_samples : List Float → List Float → Bool
same_samples [] [] = true
same_samples [] (b ∷ y) = false
same_samples (a ∷ x) [] = false
same_samples (a ∷ x) (b ∷ y) = same_sample a b && same_samples x y

-- the part is the recording that the data names, 1 for the first and 2 for the second; it is empty for 0, and nothing is right for another number
unfoldable pub is_handed : ℕ → List Float → List Float → List Float → Bool
unfolding same_samples
is_handed chosen part xs ys =
    cond (eqb chosen 0) (eqb (length part) 0)
    (cond (eqb chosen 1) (same_samples part xs)
    (cond (eqb chosen 2) (same_samples part ys) false))

-- THE SLICE PASSES: what the library hands back is that part
unfoldable pub slice_right : Pair → List Float → List Float → Bool
unfolding is_handed
slice_right q xs ys = is_handed q.chosen (handed_back q.kind q.grade xs ys) xs ys

-- THE NUMBER PASSES: the library gives that of the data
unfoldable pub number_right : Pair → List Float → List Float → Bool
number_right q xs ys = eqb (closer_number q.kind q.grade xs ys) q.number

-- THE EXPORTED FUNCTION PASSES: it answers what is chosen, or minus the number
unfoldable pub exported_right : Pair → List Float → List Float → Bool
exported_right q xs ys = same_number (closer_code q.kind q.grade xs ys) (answer_of q.number q.chosen)
