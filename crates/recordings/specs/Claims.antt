-- What the theorems say of two recordings xs and ys of one frame, sentence by sentence (request E9). Distances are squared, in parts of 1 / 65,536: whole
-- numbers, which compare exactly. Assumes nothing.
use Rattle.std.specs.Prelude.{ℕ, ◌≤◌, ◌<◌, ◌≡◌, true, false, ◌⊎◌, List, [], ltb, length, Float}
use Rattle.std.specs.Float.Ieee.{lt}
use Rattle.std.specs.Float.Ieee.Exact.{HasValue}
use Rattle.frames.specs.Kind.{is_grade, message_bytes}
use Rattle.frames.specs.Message.{Message}
use Rattle.frames.specs.Frame.{numbered_frame}
use Rattle.near_frames.specs.Near.{near_kind}
use Rattle.near_reading.specs.Answer.{near_number, near_distance, near_message}
use Rattle.recordings.specs.Recording.{recording_number, recording_message, recording_distance, RecordingOf, NearTo, IsRefused}
use Rattle.recordings.specs.Choice.{Chosen, First, Second, Neither, choice, handed_back, closer_number}

-- ---- one recording

-- a near reading into lent bytes gives the message m at the distance d, and the f64 has that value exactly
pub record ReadsTo (k b : ℕ) (xs : List Float) (lent m : List ℕ) (d : ℕ) : Type 0 where
  pub number : near_number k b xs (length lent) ≡ 0
  pub message : near_message k b xs lent ≡ m
  pub exact : HasValue (near_distance k b xs (length lent)) false d 65536

-- the number of a recording is that of its near reading with as many bytes lent as a message has, and never 3; it is 0 exactly where the recording is near to a
-- message, which then is one, at one distance; and any near reading of it gives these two
pub record Judged (k b : ℕ) (xs : List Float) : Type 0 where
  pub as_read : recording_number k b xs ≡ near_number k b xs (message_bytes k b)
  pub never-3 : recording_number k b xs ≡ 3 → ⊥
  pub near : {m : List ℕ} {d : ℕ} → NearTo k b xs m d → recording_number k b xs ≡ 0
  pub near-only : recording_number k b xs ≡ 0 → NearTo k b xs (recording_message k b xs) (recording_distance k xs)
  pub one-message : {m : List ℕ} {d : ℕ} → NearTo k b xs m d → recording_message k b xs ≡ m
  pub one-distance : {m : List ℕ} {d : ℕ} → NearTo k b xs m d → recording_distance k xs ≡ d
  pub reads : {m : List ℕ} {d : ℕ} → NearTo k b xs m d → (lent : List ℕ) → length lent ≡ message_bytes k b → ReadsTo k b xs lent m d

-- ---- THE CHOICE WITHOUT AN ALGORITHM: what c has to be, by the request's sentences. There is one such c (laws choice-is, choice-only)

pub record IsChoice (k b : ℕ) (xs ys : List Float) (c : Chosen) : Type 0 where
  -- "hands back the one whose near reading is closer, ..; on equal distance the first"
  pub first-closer : (m : List ℕ) (d e : ℕ) → NearTo k b xs m d → NearTo k b ys m e → d < e → c ≡ First
  pub second-closer : (m : List ℕ) (d e : ℕ) → NearTo k b xs m d → NearTo k b ys m e → e < d → c ≡ Second
  pub equal : (m : List ℕ) (d : ℕ) → NearTo k b xs m d → NearTo k b ys m d → c ≡ First
  -- "If one is refused, the other is handed back."
  pub first-refused : (m : List ℕ) (d : ℕ) → IsRefused k b xs → NearTo k b ys m d → c ≡ Second
  pub second-refused : (m : List ℕ) (d : ℕ) → NearTo k b xs m d → IsRefused k b ys → c ≡ First
  -- "If both are refused, or both are near to different messages": neither, by "the first's" number, and by 18
  pub both-refused : IsRefused k b xs → IsRefused k b ys → c ≡ Neither (recording_number k b xs)
  pub at-odds : (m n : List ℕ) (d e : ℕ) → NearTo k b xs m d → NearTo k b ys n e → (m ≡ n → ⊥) → c ≡ Neither 18

-- ---- its parts

-- both are near, and their messages differ
pub record AtOdds (k b : ℕ) (xs ys : List Float) : Type 0 where
  pub messages : List ℕ × List ℕ
  pub distances : ℕ × ℕ
  pub first : NearTo k b xs messages.0 distances.0
  pub second : NearTo k b ys messages.1 distances.1
  pub differ : messages.0 ≡ messages.1 → ⊥

-- both are near to one message, at one distance
pub record Equal (k b : ℕ) (xs ys : List Float) : Type 0 where
  pub message : List ℕ
  pub distance : ℕ
  pub first : NearTo k b xs message distance
  pub second : NearTo k b ys message distance

-- both are refused
pub record BothRefused (k b : ℕ) (xs ys : List Float) : Type 0 where
  pub first : IsRefused k b xs
  pub second : IsRefused k b ys

-- "the number: 0 when a recording was chosen, the first's when both are refused. (18: at odds, when both are near and their messages differ ..)": each
-- exactly there
pub record NumberExactly (k b : ℕ) (xs ys : List Float) : Type 0 where
  pub chosen : (choice k b xs ys ≡ First) ⊎ (choice k b xs ys ≡ Second) → closer_number k b xs ys ≡ 0
  pub chosen-only : closer_number k b xs ys ≡ 0 → (choice k b xs ys ≡ First) ⊎ (choice k b xs ys ≡ Second)
  pub odds : AtOdds k b xs ys → closer_number k b xs ys ≡ 18
  pub odds-only : closer_number k b xs ys ≡ 18 → AtOdds k b xs ys
  pub refused : BothRefused k b xs ys → closer_number k b xs ys ≡ recording_number k b xs
  pub refused-only : (closer_number k b xs ys ≡ 0 → ⊥) → (closer_number k b xs ys ≡ 18 → ⊥) → BothRefused k b xs ys

-- what is handed back: the empty part, or one of the two, exactly by the number
pub record HandedBack (k b : ℕ) (xs ys : List Float) : Type 0 where
  pub none : (closer_number k b xs ys ≡ 0 → ⊥) → handed_back k b xs ys ≡ []
  pub one : closer_number k b xs ys ≡ 0 → (handed_back k b xs ys ≡ xs) ⊎ (handed_back k b xs ys ≡ ys)

-- a slice zs that is handed back where the number is 0 is near to a message, that of either recording which is near, at a distance no larger than
-- either's
pub record NoFarther (k b : ℕ) (xs ys zs : List Float) : Type 0 where
  pub message : List ℕ
  pub distance : ℕ
  pub near : NearTo k b zs message distance
  pub first : (m : List ℕ) (d : ℕ) → NearTo k b xs m d → (m ≡ message) × (distance ≤ d)
  pub second : (m : List ℕ) (d : ℕ) → NearTo k b ys m d → (m ≡ message) × (distance ≤ d)

-- "closer": compared as f64 the distances say the same, for they are exact
pub record ComparedExactly (k b : ℕ) (xs ys : List Float) (d e : ℕ) : Type 0 where
  pub first : HasValue (near_distance k b xs (message_bytes k b)) false d 65536
  pub second : HasValue (near_distance k b ys (message_bytes k b)) false e 65536
  pub as-f64 : lt (near_distance k b ys (message_bytes k b)) (near_distance k b xs (message_bytes k b)) ≡ ltb e d

-- ---- the two recordings exchanged

-- the same recording, where the two are lent the other way round
abbrev pub exchanged : Chosen → Chosen
exchanged First = Second
exchanged Second = First
exchanged (Neither n) = Neither n

-- the answer changes only where distances are equal, both are refused, or they are at odds; else the same recording is handed back. On equal distance it
-- is the one that is lent first. Where neither is chosen, the empty part is the beginning of the one that is lent first, and if both are refused the
-- number is that one's; at odds it is 18 both ways
pub record Exchange (k b : ℕ) (xs ys : List Float) : Type 0 where
  pub unchanged : (Equal k b xs ys → ⊥) → (BothRefused k b xs ys → ⊥) → (AtOdds k b xs ys → ⊥) → choice k b ys xs ≡ exchanged (choice k b xs ys)
  pub equal : Equal k b xs ys → (choice k b xs ys ≡ First) × (choice k b ys xs ≡ First)
  pub refused : BothRefused k b xs ys → (choice k b xs ys ≡ Neither (recording_number k b xs)) × (choice k b ys xs ≡ Neither (recording_number k b ys))
  pub odds : AtOdds k b xs ys → (choice k b xs ys ≡ Neither 18) × (choice k b ys xs ≡ Neither 18)
  pub same_number : (BothRefused k b xs ys → ⊥) → closer_number k b ys xs ≡ closer_number k b xs ys

-- ---- "Both record the same frame."

-- one is chosen, and it reads back to the message
pub record ReadsBack (k b : ℕ) (message : List ℕ) (xs ys : List Float) : Type 0 where
  pub number : closer_number k b xs ys ≡ 0
  pub one : (handed_back k b xs ys ≡ xs) ⊎ (handed_back k b xs ys ≡ ys)
  pub read : (lent : List ℕ) → length lent ≡ message_bytes k b → ReadsTo k b (handed_back k b xs ys) lent message (recording_distance k (handed_back k b xs ys))

-- a sent frame, recorded twice, each time with noise inside the limit: one of the two is always chosen, and it reads back to its message
abbrev pub TwiceRecorded : Type 0
TwiceRecorded = (k b : ℕ) → near_kind k ≡ true → is_grade b ≡ true → (number : ℕ) (message : List ℕ) → Message k b message → (xs ys : List Float)
    → RecordingOf k xs (numbered_frame k b number message) → RecordingOf k ys (numbered_frame k b number message) → ReadsBack k b message xs ys

-- recordings of frames that are sent for two different messages, whatever their numbers, are at odds
abbrev pub DifferentSent : Type 0
DifferentSent = (k b : ℕ) → near_kind k ≡ true → is_grade b ≡ true → (i j : ℕ) (u v : List ℕ) → Message k b u → Message k b v → (u ≡ v → ⊥)
    → (xs ys : List Float) → RecordingOf k xs (numbered_frame k b i u) → RecordingOf k ys (numbered_frame k b j v) → choice k b xs ys ≡ Neither 18
