-- What a call answers and leaves, by the definitions of the library, and when a record's checks pass. Assumes nothing.
use Rattle.std.specs.Prelude.{
  ℕ,
  zero,
  suc,
  ◌+◌,
  ◌*◌,
  Bool,
  true,
  false,
  ◌&&◌,
  cond,
  List,
  [],
  ◌∷◌,
  ◌++◌,
  eqb,
  leb,
  ℤ,
  pos,
  negsuc,
  length,
  get_or,
  take,
  drop,
  replicate,
}
use Rattle.e8.specs.Energy.{energy}
use Rattle.frames.specs.Sending.{send_refusal, frame_after, energy_sent}
use Rattle.frames.specs.Reading.{open_refusal, strict_refusal, fixed_message, energy_read, same_frame}
use Rattle.power_account.specs.declared.Account.{Account}
use Rattle.power_account.specs.Counted.{number_for, counted_refusal, counted_account}
use Rattle.octets.specs.Same.{same_bytes}
use Rattle.test_data.specs.Alike.{same_account}
use Rattle.test_data.specs.Held.{number_in, coordinate_in, taken_from}
use Rattle.test_tally.specs.Tally.{Judgement}
use Rattle.test_free.specs.declared.calls.Under.{Under}
use Rattle.test_free.specs.declared.calls.Answer.{Answer}
use Rattle.test_free.specs.declared.calls.Sent.{Sent}
use Rattle.test_free.specs.declared.calls.Reading.{Reading}
use Rattle.test_free.specs.declared.calls.Reading.TheVariants.{Openly, Strictly}
use Rattle.test_free.specs.declared.calls.Sending.{Sending}
use Rattle.test_free.specs.declared.calls.Sending.TheVariants.{Numbered, Counted}
use Rattle.test_free.specs.declared.Check.{Check}
use Rattle.test_free.specs.declared.Check.TheVariants.{
  Record,
  Sent as SentAlone,
  Counted as SentCounted,
  ExportedSent,
  ExportedCounted,
  Open,
  Strict,
  ExportedOpen,
  ExportedStrict,
}

-- the place of a check in the tally
abbrev pub place : Check → ℕ
place Record = 0
place SentAlone = 1
place SentCounted = 2
place ExportedSent = 3
place ExportedCounted = 4
place Open = 5
place Strict = 6
place ExportedOpen = 7
place ExportedStrict = 8

abbrev pub answered : ℕ → ℕ → Answer
answered number energy = record { number = number; energy = energy }

-- the two readings, and the two sendings
abbrev pub is_strict : Reading → Bool
is_strict Openly = false
is_strict Strictly = true

abbrev pub is_counted : Sending → Bool
is_counted Numbered = false
is_counted Counted = true

-- what an exported function's number says: the energy, or minus the refusal number
unfoldable pub decoded : ℤ → Answer
decoded (pos e) = answered 0 e
decoded (negsuc n) = answered (suc n) 0

abbrev pub same_answer : Answer → Answer → Bool
same_answer a b = eqb a.number b.number && eqb a.energy b.energy

abbrev pub same_sent : Sent → Sent → Bool
same_sent a b = same_answer a.answer b.answer && same_account a.account b.account

-- what is lent before a call: a frame of marks, of a size that no sent frame has, and bytes of marks
unfoldable pub marked_frame : List ℤ
marked_frame = replicate 64 (pos 77777)

unfoldable pub marked_bytes : List ℕ
marked_bytes = replicate 48 165

-- ---- reading

-- what the strict reading or the open one answers of the frame x; n message bytes are lent
abbrev pub read_refusal : Bool → Under → List ℤ → ℕ → ℕ
read_refusal strict u x n =
    cond strict (strict_refusal u.kind u.grade u.free u.number x n) (open_refusal u.kind u.grade u.free x n)

abbrev pub read_answer : Bool → Under → List ℤ → ℕ → Answer
read_answer strict u x n = answered (read_refusal strict u x n) (energy_read (read_refusal strict u x n) x)

-- THE JUDGEMENT of reading x: the number is the expected one, and where that is 0 the message is m and the energy the expected one; that a refusal leaves the
-- lent bytes, and answers no energy, is the library's contract
unfoldable pub is_read_free : Bool → Under → List ℤ → List ℕ → Answer → Bool
is_read_free strict u x m expected =
    eqb (read_refusal strict u x (length m)) expected.number
    && cond (eqb expected.number 0) (eqb (energy x) expected.energy && same_bytes (fixed_message u.kind u.grade u.free x) m) true

-- ---- sending the message m into n coordinates, with the account a or without it

abbrev pub sent_number : Bool → Under → Account → ℕ
sent_number counted u a = cond counted (number_for a) u.number

abbrev pub sent_refusal : Bool → Under → List ℕ → ℕ → Account → ℕ
sent_refusal counted u m n a = cond counted (counted_refusal u.kind u.grade u.free m n a) (send_refusal u.kind u.grade u.free m n)

-- what it answers, and the account afterwards; without it the account is as it came
abbrev pub sent_of : Bool → Under → List ℕ → ℕ → Account → Sent
sent_of counted u m n a =
    let refusal = sent_refusal counted u m n a in
    record {
      answer = answered refusal (energy_sent refusal u.kind u.grade u.free (sent_number counted u a) m);
      account = cond counted (counted_account refusal u.kind u.grade u.free m a) a;
    }

-- the frame that it leaves: the sent one, or the lent one as it was
abbrev pub frame_left : Bool → Under → List ℕ → Account → List ℤ → List ℤ
frame_left counted u m a lent =
    frame_after (sent_refusal counted u m (length lent) a) u.kind u.grade u.free (sent_number counted u a) m lent

-- ---- the frames of a record, one behind the other: of each what the open reading and the strict one answer, its energy of 8 bytes, and its coordinates

abbrev pub frame_in : List ℕ → List ℤ
frame_in bytes = taken_from coordinate_in (drop 10 bytes) marked_frame

-- frame i of those of n coordinates
abbrev pub record_of : ℕ → ℕ → List ℕ → List ℕ
record_of n i bytes = take (10 + 4 * n) (drop ((10 + 4 * n) * i) bytes)

-- x is the first frame
unfoldable pub is_first : List ℤ → List ℕ → Bool
is_first x frames = leb 10 (length frames) && same_frame x (take (length x) (frame_in frames))

-- what has to be left in the lent frame: the first of the frames and no other, or where sending is refused what was lent
abbrev pub is_left : Sent → List ℤ → List ℕ → List ℤ → Bool
is_left expected lent frames x = cond (eqb expected.answer.number 0) (is_first x frames) (same_frame x lent)

-- THE JUDGEMENT of sending into n marked coordinates: its answer, the account and the frame that it leaves are as expected
unfoldable pub is_sent_free : Bool → Under → List ℕ → ℕ → Account → Sent → List ℕ → Bool
unfolding is_first
is_sent_free counted u m n a expected frames =
    let lent = take n marked_frame in
    same_sent (sent_of counted u m n a) expected && is_left expected lent frames (frame_left counted u m a lent)

-- ---- all judgements of a record, each with the place of its check in the tally

abbrev pub ◌at◌ : Bool → ℕ → Judgement
passed at check = record { check = check; passed = passed }

infixl 30 ◌at◌
-- the four sendings of the message
abbrev pub send_judgements : Under → List ℕ → ℕ → Account → Sent → Sent → List ℕ → List Judgement
send_judgements u m n a sent counted frames =
    (is_sent_free false u m n a sent frames at 1)
    ∷ (is_sent_free true u m n a counted frames at 2)
    ∷ (is_sent_free false u m n a sent frames at 3)
    ∷ (is_sent_free true u m n a counted frames at 4)
    ∷ []

-- the four readings of a frame
abbrev pub read_judgements : Under → List ℕ → List ℤ → Answer → Answer → List Judgement
read_judgements u m x openly strictly =
    (is_read_free false u x m openly at 5)
    ∷ (is_read_free true u x m strictly at 6)
    ∷ (is_read_free false u x m openly at 7)
    ∷ (is_read_free true u x m strictly at 8)
    ∷ []

abbrev pub frame_judgements : Under → List ℕ → ℕ → List ℕ → List Judgement
frame_judgements u m n bytes =
    let e = number_in (take 8 (drop 2 bytes)) in
    read_judgements u m (take n (frame_in bytes)) (answered (get_or bytes 0 0) e) (answered (get_or bytes 1 0) e)

-- those of the first p frames
unfoldable pub all_judgements : Under → List ℕ → ℕ → ℕ → List ℕ → List Judgement
unfolding is_read_free
all_judgements u m n zero bytes = []
all_judgements u m n (suc p) bytes = all_judgements u m n p bytes ++ frame_judgements u m n (record_of n p bytes)
