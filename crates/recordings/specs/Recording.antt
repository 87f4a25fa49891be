-- One recording of a frame: its near reading (request E6) where no message buffer is lent (request E9). Assumes nothing.
use Rattle.std.specs.Prelude.{ℕ, ◌^◌, ◌<◌, ◌≡◌, true, List, [], eqb, length, ℤ, Float}
use Rattle.frames.specs.Kind.{is_grade}
use Rattle.frames.specs.Frame.{InCodingSet}
use Rattle.frames.specs.Sending.{unless}
use Rattle.frames.specs.Reading.{open_message}
use Rattle.samples.specs.Sample.{all_fit, samples_in_256ths}
use Rattle.near_frames.specs.Near.{near_kind, near_limit, nearness, some_near, near_frame, near_cost}

-- THE NUMBER: the tests of the near reading in their order, "No message buffer is lent, so 3 isn't tested": 1, 2, 4, 15 over all samples, and last 16,
-- too far. 0 where a frame is near
unfoldable pub recording_number : ℕ → ℕ → List Float → ℕ
unfolding near_kind is_grade all_fit some_near samples_in_256ths
recording_number k b xs =
    unless (near_kind k) 1
    (unless (is_grade b) 2
    (unless (eqb (length xs) (2 ^ k)) 4
    (unless (all_fit xs) 15
    (unless (some_near k (samples_in_256ths xs)) 16 0))))

-- the message of the near frame
unfoldable pub recording_message : ℕ → ℕ → List Float → List ℕ
unfolding open_message near_frame samples_in_256ths
recording_message k b xs = open_message k b (near_frame k (samples_in_256ths xs) [])

-- its squared distance, in parts of 1 / 65,536
unfoldable pub recording_distance : ℕ → List Float → ℕ
unfolding near_cost samples_in_256ths
recording_distance k xs = near_cost k (samples_in_256ths xs)

-- ---- the same without a search

-- xs is a recording of the frame f with noise inside the limit: as many samples as the kind has coordinates, fit ones, and their squared distance from f is
-- below 1, 2 or 4
pub record RecordingOf (k : ℕ) (xs : List Float) (f : List ℤ) : Type 0 where
  pub samples : length xs ≡ 2 ^ k
  pub fit : all_fit xs ≡ true
  pub inside : nearness f (samples_in_256ths xs) < near_limit k

-- the recording xs is near to the message m, at the squared distance d / 65,536: it is one of a frame of the coding set that has the message m, at that
-- distance
pub record NearTo (k b : ℕ) (xs : List Float) (m : List ℕ) (d : ℕ) : Type 0 where
  pub kind : near_kind k ≡ true
  pub grade : is_grade b ≡ true
  pub frame : List ℤ
  pub coded : InCodingSet k frame
  pub recorded : RecordingOf k xs frame
  pub message : open_message k b frame ≡ m
  pub distance : nearness frame (samples_in_256ths xs) ≡ d

-- the recording is refused, too far among the refusals: it is near to no message
abbrev pub IsRefused : ℕ → ℕ → List Float → Type 0
IsRefused k b xs = (m : List ℕ) (d : ℕ) → NearTo k b xs m d → ⊥
