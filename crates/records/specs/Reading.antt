-- What the reader of records answers, and what it leaves in the lent frame (request E11). Assumes nothing.
use Rattle.std.specs.Prelude.{ℕ, ◌+◌, ◌^◌, cond, List, Result, Ok, Err, eqb, leb, ℤ, length}
use Rattle.e8.specs.Energy.{energy}
use Rattle.frames.specs.Kind.{is_kind, is_grade, message_bytes}
use Rattle.frames.specs.Sending.{unless}
use Rattle.frames.specs.Reading.{strict_refusal}
use Rattle.four_bytes.specs.FourBytes.{coordinates_from}
use Rattle.refusals.specs.declared.Refusal.{Refusal}
use Rattle.refusals.specs.Number.{code}
use Rattle.records.specs.declared.Record.{Record}
use Rattle.records.specs.Record.{marked, kind_at, grade_at, number_at, frame_at, end_at}

-- the tests before those of the frame, where n coordinates are lent: "a wrong or missing mark is 10; then 1, 2, 4 for a frame buffer of the wrong length, then
-- the record's end", 19. "A missing kind or grade byte is 19 in place of 1 or 2"
unfoldable pub head_refusal : List ℕ → ℕ → ℕ → ℕ
unfolding marked is_kind is_grade
head_refusal s p n =
    unless (marked s p) 10
    (unless (leb (p + 3) (length s)) 19
    (unless (is_kind (kind_at s p)) 1
    (unless (leb (p + 4) (length s)) 19
    (unless (is_grade (grade_at s p)) 2
    (unless (eqb n (2 ^ kind_at s p)) 4
    (unless (leb (end_at s p) (length s)) 19 0))))))

-- "tests the frame strictly under its number": what the strict reading says of the record's frame, where the bytes of a message are lent
abbrev pub strict_at : List ℕ → ℕ → ℕ
strict_at s p = strict_refusal (kind_at s p) (grade_at s p) 0 (number_at s p) (frame_at s p) (message_bytes (kind_at s p) (grade_at s p))

-- all tests: "then 6 to 9 and 13 as in strict reading"
unfoldable pub read_refusal : List ℕ → ℕ → ℕ → ℕ
unfolding head_refusal strict_refusal coordinates_from message_bytes
read_refusal s p n = cond (eqb (head_refusal s p n) 0) (strict_at s p) (head_refusal s p n)

-- an answer of the reader by its figures: the refusal number, 0 for success, the record's kind, grade and frame number, the energy of its frame, and the
-- place after it
pub record RecordRead : Type 0 where
  pub refusal : ℕ
  pub kind : ℕ
  pub grade : ℕ
  pub number : ℕ
  pub energy : ℕ
  pub next : ℕ

-- the answer of a refusal: its number, and 0 in every other figure
abbrev pub refused_by : ℕ → RecordRead
refused_by refusal = record { refusal = refusal; kind = 0; grade = 0; number = 0; energy = 0; next = 0 }

-- those of a result
abbrev pub record_read : Result Record Refusal → RecordRead
record_read (Ok r) = record { refusal = 0; kind = r.kind; grade = r.grade; number = r.number; energy = r.energy; next = r.next }
record_read (Err e) = refused_by (code e)

-- "the reader gives kind, grade, number, the frame and the place after it", and the frame's energy: the answer
unfoldable pub read_answer : List ℕ → ℕ → ℕ → RecordRead
unfolding read_refusal energy coordinates_from
read_answer s p n =
    cond (eqb (read_refusal s p n) 0)
    (record { refusal = 0; kind = kind_at s p; grade = grade_at s p; number = number_at s p; energy = energy (frame_at s p); next = end_at s p })
    (refused_by (read_refusal s p n))

-- and the lent frame f afterwards: that of the record; a refusal changes no coordinate
unfoldable pub frame_read : List ℕ → ℕ → List ℤ → List ℤ
unfolding read_refusal coordinates_from
frame_read s p f = cond (eqb (read_refusal s p (length f)) 0) (frame_at s p) f
