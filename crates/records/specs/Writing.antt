-- What the writer of records answers, and what it leaves in the lent buffer (request E11). Assumes nothing.
use Rattle.std.specs.Prelude.{ℕ, ◌+◌, ◌^◌, cond, List, Result, eqb, leb, length}
use Rattle.octets.specs.Place.{put_at}
use Rattle.frames.specs.Sending.{unless, send_refusal}
use Rattle.refusals.specs.declared.Refusal.{Refusal}
use Rattle.refusals.specs.Number.{number_of, figure_of}
use Rattle.records.specs.Record.{sent_record, record_bytes}

-- "The writer tests as sending does, without 4": as where as many coordinates are lent as the kind has; "and then 19": "record end, when the buffer from the
-- place on is too short for the record". The buffer has l bytes, and the place p may be any number
unfoldable pub write_refusal : ℕ → ℕ → List ℕ → ℕ → ℕ → ℕ
unfolding send_refusal
write_refusal k b bytes p l =
    cond (eqb (send_refusal k b 0 bytes (2 ^ k)) 0) (unless (leb (p + record_bytes k) l) 19 0) (send_refusal k b 0 bytes (2 ^ k))

-- an answer of the writer by its figures: the refusal number, 0 for success, and the place after the record, 0 where nothing is written
pub record RecordWritten : Type 0 where
  pub refusal : ℕ
  pub next : ℕ

-- those of a result
abbrev pub record_written : Result ℕ Refusal → RecordWritten
record_written r = record { refusal = number_of r; next = figure_of r }

-- the answer: the refusal, 0 for success, and "the place after it", 0 where the writer refuses
unfoldable pub write_answer : ℕ → ℕ → List ℕ → ℕ → ℕ → RecordWritten
unfolding write_refusal
write_answer k b bytes p l =
    record { refusal = write_refusal k b bytes p l; next = cond (eqb (write_refusal k b bytes p l) 0) (p + record_bytes k) 0 }

-- "puts the sent frame's record at a place in a lent buffer, changes no byte outside the record": the buffer o afterwards; a refusal changes no byte
unfoldable pub buffer_after : ℕ → ℕ → ℕ → List ℕ → ℕ → List ℕ → List ℕ
unfolding write_refusal put_at sent_record
buffer_after k b number bytes p o = cond (eqb (write_refusal k b bytes p (length o)) 0) (put_at o p (sent_record k b number bytes)) o
