-- What the theorems say of the near reading, sentence by sentence (request E6). Assumes nothing.
use Rattle.std.specs.Prelude.{ℕ, ◌^◌, ◌≡◌, true, false, List, [], ℤ, length, Float}
use Rattle.std.specs.Float.Ieee.Exact.{HasValue}
use Rattle.frames.specs.Kind.{is_grade, message_bytes}
use Rattle.frames.specs.Frame.{numbered_frame}
use Rattle.frames.specs.Reading.{open_message}
use Rattle.samples.specs.Sample.{all_fit, samples_in_256ths}
use Rattle.near_frames.specs.Near.{near_kind, nearness, IsNear, near_frame}
use Rattle.near_reading.specs.Answer.{near_number, near_distance, near_message}

-- what the near reading asks: a kind that has one, a grade, as many samples as the kind has coordinates, as many bytes as a message has, fit samples
pub record Readable (k b : ℕ) (xs : List Float) (n : ℕ) : Type 0 where
  pub kind : near_kind k ≡ true
  pub grade : is_grade b ≡ true
  pub samples : length xs ≡ 2 ^ k
  pub bytes : n ≡ message_bytes k b
  pub fit : all_fit xs ≡ true

-- "finds the coding-set frame at squared distance below 1, 2 or 4, and gives its message, and the exact squared distance as f64": where the frame f is
-- near, the number is 0, the message is that of f, and the f64 has the value of f's squared distance
pub record Finds (k b : ℕ) (xs : List Float) (bytes : List ℕ) (f : List ℤ) : Type 0 where
  pub number : near_number k b xs (length bytes) ≡ 0
  pub message : near_message k b xs bytes ≡ open_message k b f
  pub exact : HasValue (near_distance k b xs (length bytes)) false (nearness f (samples_in_256ths xs)) 65536

-- the frame that is found, where the number is 0: it is in the coding set, nearer than 1, 2 or 4, and there is never a second one
pub record FoundOne (k : ℕ) (t : List ℤ) : Type 0 where
  pub near : IsNear k t (near_frame k t [])
  pub only : (f : List ℤ) → IsNear k t f → f ≡ near_frame k t []

-- "otherwise it answers too far. It is too far only when no frame of the coding set is that near": 16 exactly there, and the lent bytes stay
pub record FarExactly (k b : ℕ) (xs : List Float) (bytes : List ℕ) : Type 0 where
  pub far : ((f : List ℤ) → IsNear k (samples_in_256ths xs) f → ⊥) → near_number k b xs (length bytes) ≡ 16
  pub far-only : near_number k b xs (length bytes) ≡ 16 → (f : List ℤ) → IsNear k (samples_in_256ths xs) f → ⊥
  pub kept : near_number k b xs (length bytes) ≡ 16 → near_message k b xs bytes ≡ bytes

-- a message comes back: samples of its sent frame, whatever the frame's number, into lent bytes
pub record ComesBack (k b number : ℕ) (message : List ℕ) (xs : List Float) (lent : List ℕ) : Type 0 where
  pub success : near_number k b xs (length lent) ≡ 0
  pub given : near_message k b xs lent ≡ message
  pub exact : HasValue (near_distance k b xs (length lent)) false (nearness (numbered_frame k b number message) (samples_in_256ths xs)) 65536
