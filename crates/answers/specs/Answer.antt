-- What the exported functions answer, in one signed number, and what they leave in what is lent. Assumes nothing.
use Rattle.std.specs.Prelude.{ℕ, cond, List, eqb, ℤ, pos, neg_ℤ, length, Float}
use Rattle.e8.specs.Energy.{energy}
use Rattle.frames.specs.Free.{quiet_frame}
use Rattle.frames.specs.Sending.{send_refusal, frame_after}
use Rattle.frames.specs.Reading.{open_refusal, strict_refusal, message_after}
use Rattle.power_account.specs.declared.Account.{Account}
use Rattle.power_account.specs.Opening.{opening_refusal}
use Rattle.power_account.specs.Counted.{number_for, counted_refusal, counted_account}
use Rattle.queue_turns.specs.Queue.{queue_outcome}
use Rattle.near_reading.specs.Answer.{near_number, near_distance}
use Rattle.recordings.specs.Choice.{Chosen, First, Second, Neither, choice, chosen_number}
use Rattle.records.specs.Writing.{write_answer}
use Rattle.records.specs.Reading.{read_answer}

-- the energy, or minus the refusal number
unfoldable pub answer_of : ℕ → ℕ → ℤ
answer_of number energy = cond (eqb number 0) (pos energy) (neg_ℤ (pos number))

-- sending under a number, with f free bits: the energy of the sent frame, or minus the refusal number; n coordinates are lent
unfoldable pub send_answer : ℕ → ℕ → ℕ → ℕ → List ℕ → ℕ → ℤ
unfolding answer_of quiet_frame
send_answer k b f number bytes n = answer_of (send_refusal k b f bytes n) (energy (quiet_frame k b f number bytes))

-- the lent frame afterwards: the sent one, or as it was where sending is refused
abbrev pub send_frame : ℕ → ℕ → ℕ → ℕ → List ℕ → List ℤ → List ℤ
send_frame k b f number bytes frame = frame_after (send_refusal k b f bytes (length frame)) k b f number bytes frame

-- the open reading of a frame, with f free bits: its energy, or minus the refusal number; n message bytes are lent
unfoldable pub open_answer : ℕ → ℕ → ℕ → List ℤ → ℕ → ℤ
unfolding answer_of
open_answer k b f frame n = answer_of (open_refusal k b f frame n) (energy frame)

-- the lent bytes afterwards: the fixed bits of the message, or as they were where the reading is refused
abbrev pub open_bytes : ℕ → ℕ → ℕ → List ℤ → List ℕ → List ℕ
open_bytes k b f frame bytes = message_after (open_refusal k b f frame (length bytes)) k b f frame bytes

-- the strict reading likewise, under a number
unfoldable pub strict_answer : ℕ → ℕ → ℕ → ℕ → List ℤ → ℕ → ℤ
unfolding answer_of
strict_answer k b f number frame n = answer_of (strict_refusal k b f number frame n) (energy frame)

abbrev pub strict_bytes : ℕ → ℕ → ℕ → ℕ → List ℤ → List ℕ → List ℕ
strict_bytes k b f number frame bytes = message_after (strict_refusal k b f number frame (length bytes)) k b f frame bytes

-- ---- opening an account; opened_with of account says the rest

-- the account of four numbers
abbrev pub account_of : ℕ → Float → ℕ → ℕ → Account
account_of count sum largest changeover = record { count = count; sum = sum; largest = largest; changeover = changeover }

-- 0, or minus the refusal number
unfoldable pub opening_answer : ℕ → ℤ
unfolding answer_of
opening_answer changeover = answer_of (opening_refusal changeover) 0

-- ---- sending with an account a and f free bits

-- the energy of the sent frame, or minus the refusal number; n coordinates are lent
unfoldable pub counted_answer : ℕ → ℕ → ℕ → List ℕ → ℕ → Account → ℤ
unfolding answer_of quiet_frame
counted_answer k b f bytes n a = answer_of (counted_refusal k b f bytes n a) (energy (quiet_frame k b f (number_for a) bytes))

-- the lent frame afterwards
abbrev pub counted_frame : ℕ → ℕ → ℕ → List ℕ → Account → List ℤ → List ℤ
counted_frame k b f bytes a frame = frame_after (counted_refusal k b f bytes (length frame) a) k b f (number_for a) bytes frame

-- the account that the lent numbers hold afterwards: grown by the sent frame, or as it came where sending is refused
abbrev pub counted_held : ℕ → ℕ → ℕ → List ℕ → ℕ → Account → Account
counted_held k b f bytes n a = counted_account (counted_refusal k b f bytes n a) k b f bytes a

-- ---- sending a queue with an account a; queue_outcome and queue_frames of queue say the rest

-- 0, or minus the refusal number; n coordinates are lent
unfoldable pub queue_answer : ℕ → ℕ → List ℕ → ℕ → Account → ℤ
unfolding answer_of
queue_answer k b bytes n a = answer_of (queue_outcome k b bytes n a).number 0

-- ---- the near reading of samples; near_message of near says the rest

-- 0, or minus the number; n message bytes are lent
unfoldable pub near_code : ℕ → ℕ → List Float → ℕ → ℤ
unfolding answer_of
near_code k b xs n = answer_of (near_number k b xs n) 0

-- the f64 that is lent afterwards: the squared distance, or as it was where the number is another than 0
unfoldable pub near_held : ℕ → ℕ → List Float → ℕ → Float → Float
unfolding near_number near_distance
near_held k b xs n lent = cond (eqb (near_number k b xs n) 0) (near_distance k b xs n) lent

-- ---- two recordings of one frame

-- 1 for the first, 2 for the second; 0 where neither is chosen
abbrev pub which_of : Chosen → ℕ
which_of First = 1
which_of Second = 2
which_of (Neither n) = 0

-- which of them a choice is, or minus its number
abbrev pub chosen_code : Chosen → ℤ
chosen_code c = answer_of (chosen_number c) (which_of c)

-- the same of the recordings
unfoldable pub closer_code : ℕ → ℕ → List Float → List Float → ℤ
unfolding answer_of choice
closer_code k b xs ys = chosen_code (choice k b xs ys)

-- ---- records; buffer_after and frame_read of records say the rest

-- writing a record: 0, or minus the refusal number; the buffer has l bytes
unfoldable pub write_code : ℕ → ℕ → List ℕ → ℕ → ℕ → ℤ
unfolding answer_of write_answer
write_code k b bytes p l = answer_of (write_answer k b bytes p l).refusal 0

-- the place that is lent afterwards: the one after the record, or as it was where the writer refuses
unfoldable pub write_held : ℕ → ℕ → List ℕ → ℕ → ℕ → ℕ → ℕ
unfolding write_answer
write_held k b bytes p l lent = cond (eqb (write_answer k b bytes p l).refusal 0) (write_answer k b bytes p l).next lent

-- reading a record: the energy of its frame, or minus the refusal number; n coordinates are lent
unfoldable pub read_code : List ℕ → ℕ → ℕ → ℤ
unfolding answer_of read_answer
read_code s p n = answer_of (read_answer s p n).refusal (read_answer s p n).energy

-- the figures that are lent afterwards: the record's kind, grade and number and the place after it, or as they were where the reader refuses
pub record Figures : Type 0 where
  pub kind : ℕ
  pub grade : ℕ
  pub number : ℕ
  pub next : ℕ

abbrev pub figures_of : ℕ → ℕ → ℕ → ℕ → Figures
figures_of kind grade number next = record { kind = kind; grade = grade; number = number; next = next }

unfoldable pub read_held : List ℕ → ℕ → ℕ → Figures → Figures
unfolding read_answer
read_held s p n lent =
    cond (eqb (read_answer s p n).refusal 0)
    (figures_of (read_answer s p n).kind (read_answer s p n).grade (read_answer s p n).number (read_answer s p n).next) lent
