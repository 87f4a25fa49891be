-- When a near reading of the data passes: by the library's definitions, what it answers and leaves is what the data says. Assumes nothing.
use Rattle.std.specs.Prelude.{ℕ, Bool, ◌&&◌, not, cond, List, ◌++◌, eqb, leb, length, take, drop, Float}
use Rattle.frames.specs.Reading.{same_number}
use Rattle.near_reading.specs.Answer.{NearReading, Near, Far, Refused, near_message, near_answer}
use Rattle.answers.specs.Answer.{answer_of, near_code, near_held}
use Rattle.octets.specs.Same.{same_bytes}
use Rattle.test_data.specs.Alike.{same_float}
use Rattle.test_near.specs.declared.judging.Reading.{Reading}
use Rattle.test_near.specs.declared.Check.{Check}
use Rattle.test_near.specs.declared.Check.TheVariants.{Library, Exported}

-- the place of a check in the tally
abbrev pub place : Check → ℕ
place Library = 0
place Exported = 1

-- the case answers the number and the distance: a distance for 0, too far for 16, a refusal for any other number
unfoldable pub is_answer : NearReading → ℕ → Float → Bool
is_answer (Near d) number distance = eqb number 0 && same_float d distance
is_answer Far number distance = eqb number 16
is_answer (Refused n) number distance = eqb n number && (not (eqb n 0) && not (eqb n 16))

-- what the library answers for samples xs and n lent bytes is what the data says
unfoldable pub library_answers : Reading → List Float → ℕ → Bool
library_answers q xs n = is_answer (near_answer q.kind q.grade xs n) q.number q.distance

-- so are the exported function's number and the distance that it leaves
unfoldable pub exported_answers : Reading → List Float → ℕ → Bool
exported_answers q xs n =
    same_number (near_code q.kind q.grade xs n) (answer_of q.number 0)
    && same_float (near_held q.kind q.grade xs n q.before) q.distance

-- one of the two ways: 1 is the exported function
unfoldable pub answers_by : ℕ → Reading → List Float → ℕ → Bool
answers_by way q xs n = cond (eqb way 1) (exported_answers q xs n) (library_answers q xs n)

-- the bytes afterwards, of which the first m are lent
unfoldable pub bytes_left : Reading → List Float → ℕ → List ℕ → List ℕ
bytes_left q xs m bytes = cond (leb m (length bytes)) (near_message q.kind q.grade xs (take m bytes) ++ drop m bytes) bytes

-- THE READING PASSES: there are m bytes to lend, the answer is right, and so is every byte, also past those that are lent
unfoldable pub passes : ℕ → Reading → List Float → ℕ → List ℕ → List ℕ → Bool
passes way q xs m bytes left = leb m (length bytes) && (answers_by way q xs m && same_bytes (bytes_left q xs m bytes) left)
