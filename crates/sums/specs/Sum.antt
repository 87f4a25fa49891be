-- Request E8: "A repeater that adds many frames". The sum of frames of one kind, coordinate by coordinate. Assumes nothing.
use Rattle.std.specs.Prelude.{ℕ, ◌^◌, ◌≡◌, List, [], ◌∷◌, replicate, ℤ, pos, ◌+ℤ◌}
use Rattle.frames.specs.Message.{Bytes}
use Rattle.frames.specs.Free.{quiet_frame}
use Rattle.frames.specs.Sending.{Accepts}

-- two frames of one length, added coordinate by coordinate
abbrev pub added : List ℤ → List ℤ → List ℤ
added [] g = []
added (x ∷ f) [] = []
added (x ∷ f) (y ∷ g) = (x +ℤ y) ∷ added f g

-- THE SUM of any number of frames of kind k; of no frame it is all zeros
unfoldable pub sum_of : ℕ → List (List ℤ) → List ℤ
sum_of k [] = replicate (2 ^ k) (pos 0)
sum_of k (f ∷ fs) = added f (sum_of k fs)

-- each frame of the list is such a one
abbrev pub Each : (List ℤ → Type 0) → List (List ℤ) → Type 0
Each Such [] = Unit {0}
Each Such (f ∷ fs) = Such f × Each Such fs

-- the frame is sent at kind k and grade b: with some free count, under some number, for some bytes that sending accepts
pub record SentAt (k b : ℕ) (frame : List ℤ) : Type 0 where
  pub free : ℕ
  pub number : ℕ
  pub bytes : List ℕ
  pub each : Bytes bytes
  pub accepted : Accepts k b free bytes
  pub sent : frame ≡ quiet_frame k b free number bytes

-- the frame is sent at kind k: at some grade
pub record IsSent (k : ℕ) (frame : List ℤ) : Type 0 where
  pub grade : ℕ
  pub at-grade : SentAt k grade frame
