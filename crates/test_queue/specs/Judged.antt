-- When a queue of the data passes: by the library's definitions, what sending it answers and leaves is what the data says. Assumes nothing.
use Rattle.std.specs.Prelude.{ℕ, zero, suc, ◌+◌, Bool, ◌&&◌, ◌||◌, cond, List, [], ◌∷◌, ◌++◌, eqb, leb, ℤ, pos, length, take, drop}
use Rattle.frames.specs.Reading.{same_number, same_frame}
use Rattle.queue_turns.specs.Queue.{Queued, queue_outcome, queue_frames}
use Rattle.answers.specs.Answer.{answer_of, queue_answer}
use Rattle.test_data.specs.Alike.{same_account}
use Rattle.test_tally.specs.Tally.{judged}
use Rattle.test_queue.specs.declared.judging.Queue.{Queue}
use Rattle.test_queue.specs.declared.judging.Expected.{Expected}
use Rattle.test_queue.specs.declared.Check.{Check}
use Rattle.test_queue.specs.declared.Check.TheVariants.{Library, Exported, OneByOne}

-- the place of a check in the tally
abbrev pub place : Check → ℕ
place Library = 0
place Exported = 1
place OneByOne = 2

-- what sending a queue gives, the same in every figure
unfoldable pub same_queued : Queued → Expected → Bool
same_queued a b = eqb a.number b.number && (eqb a.sent b.sent && same_account a.account b.account)

-- what sending the messages into n lent coordinates gives
abbrev pub outcome : Queue → List ℕ → ℕ → Queued
outcome q bytes n = queue_outcome q.kind q.grade bytes n q.account

-- the exported function's number is that of the data, and so are the number of messages sent and the account that it leaves
unfoldable pub exported_answers : Queue → List ℕ → ℕ → Bool
exported_answers q bytes n =
    same_number (queue_answer q.kind q.grade bytes n q.account) (answer_of q.answer.number 0)
    && (eqb (outcome q bytes n).sent q.answer.sent && same_account (outcome q bytes n).account q.answer.account)

-- one of the three ways: 1 is the exported function; in one call of the library and one by one the same is answered
unfoldable pub answers_by : ℕ → Queue → List ℕ → ℕ → Bool
answers_by way q bytes n = cond (eqb way 1) (exported_answers q bytes n) (same_queued (outcome q bytes n) q.answer)

-- coordinates that no frame has, another one at each place: n of them, from a on
unfoldable pub laid_out : ℕ → ℕ → List ℤ
laid_out zero a = []
laid_out (suc n) a = pos a ∷ laid_out n (a + 1)

-- those before the call: n that are lent, and 8 past them
abbrev pub before : ℕ → List ℤ
before n = take (n + 8) (laid_out 392 77777)

-- coordinates f afterwards, of which the first n are lent
unfoldable pub frames_left : Queue → List ℕ → ℕ → List ℤ → List ℤ
frames_left q bytes n f = cond (leb n (length f)) (queue_frames q.kind q.grade bytes (take n f) q.account ++ drop n f) f

-- the queue passes: there are n coordinates to lend, the answer is right, and so is every coordinate, also past those that are lent
unfoldable pub passes : ℕ → Queue → List ℕ → ℕ → List ℤ → List ℤ → Bool
passes way q bytes n f left = leb n (length f) && (answers_by way q bytes n && same_frame (frames_left q bytes n f) left)

-- THE JUDGEMENT of a queue sent this way: there is room for n coordinates and 8 past them, and over such as no frame has it passes
unfoldable pub holds_by : ℕ → Queue → List ℕ → ℕ → List ℤ → Bool
holds_by way q bytes n left = leb n 384 && passes way q bytes n (before n) left

-- by its number in the data, the queue is not refused before its first message: it is sent one by one too
abbrev pub is_begun : ℕ → Bool
is_begun number = eqb number 0 || (eqb number 5 || eqb number 11)

-- the tally after the queue was sent in one call, by the exported function, and one by one where it is begun
unfoldable pub counted : Queue → List ℕ → ℕ → List ℤ → List ℕ → List ℕ
counted q bytes n left tally =
    let two : List ℕ = judged 1 (holds_by 1 q bytes n left) (judged 0 (holds_by 0 q bytes n left) tally) in
    cond (is_begun q.answer.number) (judged 2 (holds_by 2 q bytes n left) two) two
