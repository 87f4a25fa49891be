-- What the theorems of request E11 say beyond the definitions, of one record: a statement for each sentence. Assumes nothing.
use Rattle.std.specs.Prelude.{ℕ, ◌+◌, ◌^◌, ◌≤◌, ◌<◌, ◌≡◌, cond, List, eqb, leb, ℤ, length, get_or, take, drop}
use Rattle.e8.specs.Energy.{energy}
use Rattle.frames.specs.Kind.{is_kind, is_grade, degrees, message_bytes}
use Rattle.frames.specs.Message.{Message}
use Rattle.frames.specs.Free.{quiet_frame}
use Rattle.frames.specs.Sending.{unless, free_set, LeastEnergy}
use Rattle.frames.specs.Reading.{open_message, in_range, broken, is_sent}
use Rattle.records.specs.Record.{sent_record, record_bytes, kind_at, grade_at, number_at, frame_at}
use Rattle.records.specs.Writing.{write_refusal, write_answer, buffer_after}
use Rattle.records.specs.Reading.{head_refusal, read_refusal, read_answer, frame_read}

-- "The writer tests as sending does, without 4, and then 19": 1, 2, 3, 5, 19
pub record WriterOrder (k b : ℕ) (bytes : List ℕ) (p l : ℕ) : Type 0 where
  pub order : write_refusal k b bytes p l ≡
      unless (is_kind k) 1
      (unless (is_grade b) 2
      (unless (eqb (length bytes) (message_bytes k b)) 3
      (cond (free_set k b 0 bytes) 5
      (unless (leb (p + record_bytes k) l) 19 0))))

-- "then 6 to 9 and 13 as in strict reading": past the first tests 6, then 7, 8 or 13 for the first broken level, then 9
pub record ReaderOrder (s : List ℕ) (p n : ℕ) : Type 0 where
  pub first : (head_refusal s p n ≡ 0 → ⊥) → read_refusal s p n ≡ head_refusal s p n
  pub order : head_refusal s p n ≡ 0 → read_refusal s p n ≡
      unless (in_range (frame_at s p)) 6
      (cond (eqb (broken (kind_at s p) 0 (degrees (kind_at s p)) (frame_at s p)) 0)
      (unless (is_sent (kind_at s p) (grade_at s p) 0 (number_at s p) (frame_at s p)) 9 0)
      (broken (kind_at s p) 0 (degrees (kind_at s p)) (frame_at s p)))

-- a place from which fewer than two bytes stand, at the end of the buffer or past it, "a missing mark": 10, whatever is lent
pub record MarkMissing (s : List ℕ) (p : ℕ) : Type 0 where
  pub ten : length s < p + 2 → (n : ℕ) → read_refusal s p n ≡ 10

-- the answer has the number of the first test that is not passed; a refusal writes nothing, and every other figure of its answer is 0
pub record WriterRefuses (k b number : ℕ) (bytes : List ℕ) (p : ℕ) (o : List ℕ) : Type 0 where
  pub same : (write_refusal k b bytes p (length o) ≡ 0 → ⊥) → buffer_after k b number bytes p o ≡ o
  pub refusal : (write_answer k b bytes p (length o)).refusal ≡ write_refusal k b bytes p (length o)
  pub next-0 : (write_refusal k b bytes p (length o) ≡ 0 → ⊥) → (write_answer k b bytes p (length o)).next ≡ 0

pub record ReaderRefuses (s : List ℕ) (p : ℕ) (lent : List ℤ) : Type 0 where
  pub same : (read_refusal s p (length lent) ≡ 0 → ⊥) → frame_read s p lent ≡ lent
  pub refusal : (read_answer s p (length lent)).refusal ≡ read_refusal s p (length lent)
  pub kind_0 : (read_refusal s p (length lent) ≡ 0 → ⊥) → (read_answer s p (length lent)).kind ≡ 0
  pub grade-0 : (read_refusal s p (length lent) ≡ 0 → ⊥) → (read_answer s p (length lent)).grade ≡ 0
  pub number-0 : (read_refusal s p (length lent) ≡ 0 → ⊥) → (read_answer s p (length lent)).number ≡ 0
  pub energy-0 : (read_refusal s p (length lent) ≡ 0 → ⊥) → (read_answer s p (length lent)).energy ≡ 0
  pub next-0 : (read_refusal s p (length lent) ≡ 0 → ⊥) → (read_answer s p (length lent)).next ≡ 0

-- "changes no byte outside the record and gives the place after it": the buffer o is o' afterwards, the record stands from p up to `next`
pub record Outside (k b number : ℕ) (bytes : List ℕ) (p next : ℕ) (o o' : List ℕ) : Type 0 where
  pub after : next ≡ p + length (sent_record k b number bytes)
  pub inside : next ≤ length o
  pub stands : take (length (sent_record k b number bytes)) (drop p o') ≡ sent_record k b number bytes
  pub long : length o' ≡ length o
  pub before : (i : ℕ) → i < p → get_or o' i 0 ≡ get_or o i 0
  pub behind : (i : ℕ) → next ≤ i → get_or o' i 0 ≡ get_or o i 0

-- "What the writer puts down is read back the same": at the same place, with a frame of the kind's length lent, the reader gives the kind, the grade, the
-- number, the sent frame and its energy, and the place that the writer gave
pub record ReadBackSame (k b number : ℕ) (bytes : List ℕ) (p : ℕ) (o : List ℕ) : Type 0 where
  pub answer : read_answer (buffer_after k b number bytes p o) p (2 ^ k)
      ≡ record {
        refusal = 0;
        kind = k;
        grade = b;
        number = number;
        energy = energy (quiet_frame k b 0 number bytes);
        next = (write_answer k b bytes p (length o)).next;
      }
  pub frame : (lent : List ℤ) → length lent ≡ 2 ^ k → frame_read (buffer_after k b number bytes p o) p lent ≡ quiet_frame k b 0 number bytes

-- "a record the reader passes is one the writer makes": of a message of the record's kind and grade, the one that reading its frame gives. The writer accepts
-- it at this place, and puts down, under the record's number, the bytes that stand there: the buffer stays as it is. It does so for no other message. The
-- frame is the sent one, of least energy
pub record Made (s : List ℕ) (p : ℕ) : Type 0 where
  pub bytes : List ℕ
  pub message : Message (kind_at s p) (grade_at s p) bytes
  pub given : open_message (kind_at s p) (grade_at s p) (frame_at s p) ≡ bytes
  pub number : number_at s p < 2 ^ 32
  pub accepted : write_refusal (kind_at s p) (grade_at s p) bytes p (length s) ≡ 0
  pub sent : frame_at s p ≡ quiet_frame (kind_at s p) (grade_at s p) 0 (number_at s p) bytes
  pub least : LeastEnergy (kind_at s p) (grade_at s p) (frame_at s p) (energy (frame_at s p))
  pub stands : take (record_bytes (kind_at s p)) (drop p s) ≡ sent_record (kind_at s p) (grade_at s p) (number_at s p) bytes
  pub same : buffer_after (kind_at s p) (grade_at s p) (number_at s p) bytes p s ≡ s
  pub only : (other : List ℕ) → Message (kind_at s p) (grade_at s p) other
      → buffer_after (kind_at s p) (grade_at s p) (number_at s p) other p s ≡ s → other ≡ bytes
