-- What the near reading answers (request E6): the number of the first test that is not passed, the near frame's message and its squared distance.
-- Assumes nothing.
use Rattle.std.specs.Prelude.{ℕ, ◌*◌, ◌^◌, false, cond, List, [], eqb, pos, length, Float, Result, Ok, Err}
use Rattle.std.specs.Float.{fin, binary64}
use Rattle.std.specs.Float.Ieee.{round}
use Rattle.frames.specs.Kind.{is_grade, message_bytes}
use Rattle.frames.specs.Sending.{unless}
use Rattle.frames.specs.Reading.{message_after}
use Rattle.samples.specs.Sample.{all_fit, samples_in_256ths}
use Rattle.near_frames.specs.Near.{near_kind, some_near, near_frame, near_cost}
use Rattle.refusals.specs.declared.Refusal.{Refusal}
use Rattle.refusals.specs.Number.{code}
use Rattle.near_reading.specs.declared.NearReading.{NearReading as Reading}
use Rattle.near_reading.specs.declared.NearReading.TheVariants.{Near as near, Far as far, Refused as refused}

-- the tests before the search: 1, where kind 6 is not one of the kinds, 2, 4, 3, then 15 over all samples; n message bytes are lent. 0 where each is passed
unfoldable pub near_refusal : ℕ → ℕ → List Float → ℕ → ℕ
unfolding near_kind is_grade message_bytes all_fit
near_refusal k b xs n =
    unless (near_kind k) 1
    (unless (is_grade b) 2
    (unless (eqb (length xs) (2 ^ k)) 4
    (unless (eqb n (message_bytes k b)) 3
    (unless (all_fit xs) 15 0))))

-- THE NUMBER: these tests, and last 16, too far. 0 is success
unfoldable pub near_number : ℕ → ℕ → List Float → ℕ → ℕ
unfolding near_refusal some_near samples_in_256ths
near_number k b xs n = cond (eqb (near_refusal k b xs n) 0) (unless (some_near k (samples_in_256ths xs)) 16 0) (near_refusal k b xs n)

-- 0.0
abbrev pub zero64 : Float
zero64 = fin false 0 (pos 0)

-- d / 65,536 as f64; nothing is rounded (law Parts)
unfoldable pub in_parts : ℕ → Float
in_parts d = round binary64 false d 65536

-- the squared distance of the samples from the near frame; 0.0 where the number is another than 0
unfoldable pub near_distance : ℕ → ℕ → List Float → ℕ → Float
unfolding near_number in_parts near_cost samples_in_256ths
near_distance k b xs n = cond (eqb (near_number k b xs n) 0) (in_parts (near_cost k (samples_in_256ths xs))) zero64

-- the same in parts of 1 / 65,536, a whole number; 0 where the number is another than 0
unfoldable pub near_parts : ℕ → ℕ → List Float → ℕ → ℕ
unfolding near_number near_cost samples_in_256ths
near_parts k b xs n = cond (eqb (near_number k b xs n) 0) (near_cost k (samples_in_256ths xs)) 0

-- number and distance in one number: of a refusal its number times 4,294,967,296, and else the squared distance in parts of 1 / 65,536, which is less
-- (law Figures)
unfoldable pub near_figures : ℕ → ℕ → List Float → ℕ → ℕ
unfolding near_number near_cost samples_in_256ths
near_figures k b xs n = cond (eqb (near_number k b xs n) 0) (near_cost k (samples_in_256ths xs)) (near_number k b xs n * 4294967296)

-- what the code answers, a squared distance in parts or a refusal, in one number likewise
abbrev pub in_one : Result ℕ Refusal → ℕ
in_one (Ok cost) = cost
in_one (Err r) = code r * 4294967296

-- THE LENT BYTES afterwards: the message of the near frame, no bit free, or as they were where the number is another than 0
unfoldable pub near_message : ℕ → ℕ → List Float → List ℕ → List ℕ
unfolding near_number near_frame samples_in_256ths message_after
near_message k b xs bytes = message_after (near_number k b xs (length bytes)) k b 0 (near_frame k (samples_in_256ths xs) []) bytes

-- an answer: the squared distance, too far, or the number of the first test that is not passed
pub data NearReading : Type 0 where
  Near : Float → NearReading
  Far : NearReading
  Refused : ℕ → NearReading

-- the paper's number for each case: 0, 16, or that of the test; and the squared distance, 0.0 where there is none
abbrev pub number_of : NearReading → ℕ
number_of (Near d) = 0
number_of Far = 16
number_of (Refused n) = n

abbrev pub distance_of : NearReading → Float
distance_of (Near d) = d
distance_of Far = zero64
distance_of (Refused n) = zero64

-- the case for a number and a squared distance
abbrev pub case_of : ℕ → Float → NearReading
case_of number d = cond (eqb number 0) (Near d) (cond (eqb number 16) Far (Refused number))

-- THE ANSWER
unfoldable pub near_answer : ℕ → ℕ → List Float → ℕ → NearReading
unfolding near_number near_distance
near_answer k b xs n = case_of (near_number k b xs n) (near_distance k b xs n)

-- what the code answers, with the number of the refusal
abbrev pub reading_of : Reading → NearReading
reading_of (near d) = Near d
reading_of far = Far
reading_of (refused r) = Refused (code r)
