-- Records one behind the other (request E11): "the place after it" is where the next one stands. Assumes nothing.
use Rattle.std.specs.Prelude.{ℕ, zero, suc, ◌+◌, ◌^◌, ◌<◌, ◌≡◌, List, [], ◌∷◌, ◌++◌, ℤ, pos, length, get_or, replicate, take, drop}
use Rattle.octets.specs.Place.{put_at}
use Rattle.e8.specs.Energy.{energy}
use Rattle.frames.specs.Message.{Bytes}
use Rattle.frames.specs.Free.{quiet_frame}
use Rattle.frames.specs.Sending.{Accepts}
use Rattle.records.specs.Record.{sent_record, record_bytes, kind_at}
use Rattle.records.specs.Writing.{write_answer, buffer_after}
use Rattle.records.specs.Reading.{RecordRead, read_refusal, refused_by, read_answer, frame_read}

-- what is recorded: a message of a kind and grade, under a number
pub record Entry : Type 0 where
  pub kind : ℕ
  pub grade : ℕ
  pub number : ℕ
  pub message : List ℕ

-- sending accepts it, and the number is one of a frame: "Frame numbers run to 4,294,967,295"
pub record Sound (e : Entry) : Type 0 where
  pub bytes : Bytes e.message
  pub accepted : Accepts e.kind e.grade 0 e.message
  pub number : e.number < 2 ^ 32

-- each of them; behind the last there is none
abbrev pub no_entry : Entry
no_entry = record { kind = 0; grade = 0; number = 0; message = [] }

pub record AllSound (es : List Entry) : Type 0 where
  pub each : (i : ℕ) → i < length es → Sound (get_or es i no_entry)

-- the frame that is sent for it, and that frame's record
abbrev pub frame_of : Entry → List ℤ
frame_of e = quiet_frame e.kind e.grade 0 e.number e.message

abbrev pub record_for : Entry → List ℕ
record_for e = sent_record e.kind e.grade e.number e.message

-- RECORDS ONE BEHIND THE OTHER
unfoldable pub row_of : List Entry → List ℕ
unfolding sent_record
row_of [] = []
row_of (e ∷ es) = record_for e ++ row_of es

-- ---- the writer and the reader called in turn, each time at the place that was given, from place p on

-- the buffer o after the writer, and the place that it gave last
unfoldable pub written_in_turn : List Entry → ℕ → List ℕ → List ℕ
unfolding write_answer buffer_after
written_in_turn [] p o = o
written_in_turn (e ∷ es) p o =
    written_in_turn es (write_answer e.kind e.grade e.message p (length o)).next (buffer_after e.kind e.grade e.number e.message p o)

unfoldable pub last_place : List Entry → ℕ → ℕ → ℕ
unfolding write_answer
last_place [] p l = p
last_place (e ∷ es) p l = last_place es (write_answer e.kind e.grade e.message p l).next l

-- the numbers that it answered; the buffer has l bytes
unfoldable pub refusals_in_turn : List Entry → ℕ → ℕ → List ℕ
unfolding write_answer
refusals_in_turn [] p l = []
refusals_in_turn (e ∷ es) p l =
    (write_answer e.kind e.grade e.message p l).refusal ∷ refusals_in_turn es (write_answer e.kind e.grade e.message p l).next l

-- what one call of the reader gives: its answer, and the frame
pub record Given : Type 0 where
  pub answer : RecordRead
  pub frame : List ℤ

-- the call at place p, with as many coordinates lent as the kind byte that stands there says, zeros
unfoldable pub read_at : List ℕ → ℕ → Given
unfolding read_answer frame_read
read_at s p = record { answer = read_answer s p (2 ^ kind_at s p); frame = frame_read s p (replicate (2 ^ kind_at s p) (pos 0)) }

-- n calls of the reader
unfoldable pub read_in_turn : ℕ → List ℕ → ℕ → List Given
unfolding read_at
read_in_turn zero s p = []
read_in_turn (suc n) s p = read_at s p ∷ read_in_turn n s (read_at s p).answer.next

-- what they have to give: the entry's kind, grade, number and frame, with its energy and the place after its record, which stands at place p
unfoldable pub given_for : Entry → ℕ → Given
unfolding energy quiet_frame
given_for e p =
    record {
      answer = record {
        refusal = 0;
        kind = e.kind;
        grade = e.grade;
        number = e.number;
        energy = energy (frame_of e);
        next = p + record_bytes e.kind;
      };
      frame = frame_of e;
    }

unfoldable pub given_for_all : List Entry → ℕ → List Given
unfolding given_for
given_for_all [] p = []
given_for_all (e ∷ es) p = given_for e p ∷ given_for_all es (p + record_bytes e.kind)

-- ---- the statements

-- writing in turn, where there is room for all: each call passes, the records stand one behind the other, no other byte is changed, and the last place is the
-- one after the last record. Read in turn from the first place on, each is read back the same
pub record WrittenInTurn (es : List Entry) (p : ℕ) (o : List ℕ) : Type 0 where
  pub refusals : refusals_in_turn es p (length o) ≡ replicate (length es) 0
  pub buffer : written_in_turn es p o ≡ put_at o p (row_of es)
  pub place : last_place es p (length o) ≡ p + length (row_of es)
  pub read_back : read_in_turn (length es) (written_in_turn es p o) p ≡ given_for_all es p

-- a buffer in which records stand one behind the other from place p on is read as their frames, each call at the place that the one before gave
pub record ReadAll (es : List Entry) (s : List ℕ) (p : ℕ) : Type 0 where
  pub given : read_in_turn (length es) s p ≡ given_for_all es p

-- where nothing stands behind them, the next call answers 10: the buffer is at its end
pub record EndsWith (es : List Entry) (s : List ℕ) (p : ℕ) : Type 0 where
  pub ten : drop p s ≡ row_of es → (n : ℕ) → read_refusal s (p + length (row_of es)) n ≡ 10

-- n calls in turn all pass
abbrev pub none_given : Given
none_given = record { answer = refused_by 10; frame = [] }

pub record AllPass (n : ℕ) (s : List ℕ) (p : ℕ) : Type 0 where
  pub each : (i : ℕ) → i < n → (get_or (read_in_turn n s p) i none_given).answer.refusal ≡ 0

-- back: where n calls in turn pass, n records of the writer stand there one behind the other, and the calls give their frames
pub record MadeInTurn (n : ℕ) (s : List ℕ) (p : ℕ) : Type 0 where
  pub entries : List Entry
  pub count : length entries ≡ n
  pub sound : AllSound entries
  pub stands : take (length (row_of entries)) (drop p s) ≡ row_of entries
  pub given : read_in_turn n s p ≡ given_for_all entries p
