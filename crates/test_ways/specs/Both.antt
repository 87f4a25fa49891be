-- A message sent both ways: when all comes out equal, and as the sort of the message has it. Assumes nothing.
use Rattle.std.specs.Prelude.{ℕ, Bool, ◌&&◌, not, cond, List, eqb, leb, ℤ, pos, length, take, replicate}
use Rattle.std.specs.Int.Bits.{bit_xor}
use Rattle.std.specs.Int.Signed.{lt_z}
use Rattle.frames.specs.Reading.{same_frame}
use Rattle.answers.specs.Answer.{send_answer, send_frame}
use Rattle.test_ways.specs.declared.Sort.{Sort}
use Rattle.test_ways.specs.declared.Sort.TheVariants.{Alone, Sparse, Dense, Ties, Refused, Other}

-- the place of a sort in the tally
abbrev pub place : Sort → ℕ
place Alone = 0
place Sparse = 1
place Dense = 2
place Ties = 3
place Refused = 4
place Other = 15

-- the place of the sort with a number of the data: the number itself; one that is no sort's is a difference
abbrev pub place_of : ℕ → ℕ
place_of number = cond (leb number 4) number 15

-- sent into two lent frames of the same length, which by their contracts answer one number: the frames come out the same; sort 4 is refused, and then
-- nothing is written, and every other sort is sent
unfoldable pub is_equal : ℕ → ℕ → ℕ → ℕ → List ℕ → List ℤ → List ℤ → List ℤ → Bool
is_equal sort k b number m words masks before =
    let sent = send_frame k b 0 number m words in
    same_frame sent (send_frame k b 0 number m masks)
    && cond (lt_z (send_answer k b 0 number m (length words)) (pos 0)) (eqb sort 4 && same_frame sent before) (not (eqb sort 4))

-- what the frames hold before: nines
unfoldable pub nines : List ℤ
nines = replicate 64 (pos 9)

-- with frames of n coordinates, for which there is room up to 64
unfoldable pub is_equal_in : ℕ → ℕ → ℕ → ℕ → List ℕ → ℕ → Bool
is_equal_in sort k b number m n = leb n 64 && is_equal sort k b number m (take n nines) (take n nines) (take n nines)

-- THE JUDGEMENT: the sort is one of the five, and all comes out equal under the number and under the one beside it, which has the other parity
unfoldable pub is_equal_under : ℕ → ℕ → ℕ → ℕ → List ℕ → ℕ → Bool
is_equal_under sort k b number m n = leb sort 4 && (is_equal_in sort k b number m n && is_equal_in sort k b (bit_xor number 1) m n)
