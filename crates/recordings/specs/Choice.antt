-- THE CHOICE between two recordings of one frame, sentence by sentence (request E9). Assumes nothing.
use Rattle.std.specs.Prelude.{ℕ, Bool, cond, List, [], eqb, leb, Float, Result, Ok, Err}
use Rattle.refusals.specs.declared.Refusal.{Refusal}
use Rattle.refusals.specs.Number.{code}
use Rattle.octets.specs.Same.{same_bytes}
use Rattle.recordings.specs.declared.Which.{Which}
use Rattle.recordings.specs.declared.Which.TheVariants as which
use Rattle.recordings.specs.Recording.{recording_number, recording_message, recording_distance}

-- which recording is chosen; neither, by a number
pub data Chosen : Type 0 where
  First : Chosen
  Second : Chosen
  Neither : ℕ → Chosen

-- what the code answers: the recording that is chosen, or the refusal
abbrev pub chosen_of : Result Which Refusal → Chosen
chosen_of (Ok which.First) = First
chosen_of (Ok which.Second) = Second
chosen_of (Err r) = Neither (code r)

-- the recording is not refused: a frame is near
abbrev pub is_heard : ℕ → ℕ → List Float → Bool
is_heard k b xs = eqb (recording_number k b xs) 0

-- "the one whose near reading is closer, ..; on equal distance the first": by the distances of the two
unfoldable pub closer : ℕ → ℕ → Chosen
closer d e = cond (leb d e) First Second

-- both are near: "18: at odds, when both are near and their messages differ, after both readings"
unfoldable pub both_heard : ℕ → ℕ → List Float → List Float → Chosen
unfolding closer same_bytes recording_message recording_distance
both_heard k b xs ys =
    cond (same_bytes (recording_message k b xs) (recording_message k b ys))
    (closer (recording_distance k xs) (recording_distance k ys))
    (Neither 18)

-- "If one is refused, the other is handed back."; if both are, neither, by "the first's" number
unfoldable pub choice : ℕ → ℕ → List Float → List Float → Chosen
unfolding both_heard recording_number
choice k b xs ys =
    cond (is_heard k b xs)
    (cond (is_heard k b ys) (both_heard k b xs ys) First)
    (cond (is_heard k b ys) Second (Neither (recording_number k b xs)))

-- what is handed back: the recording that is chosen; "If both are refused, or both are near to different messages, the part handed back is the empty
-- beginning of the first", `beginning`
abbrev pub handed : {A : Type 0} → Chosen → A → A → A → A
handed First first second beginning = first
handed Second first second beginning = second
handed (Neither n) first second beginning = beginning

-- the paper's number for each case: "0 when a recording was chosen"
abbrev pub chosen_number : Chosen → ℕ
chosen_number First = 0
chosen_number Second = 0
chosen_number (Neither n) = n

-- THE SAMPLES handed back, and THE NUMBER that the companion call gives
abbrev pub handed_back : ℕ → ℕ → List Float → List Float → List Float
handed_back k b xs ys = handed (choice k b xs ys) xs ys []

abbrev pub closer_number : ℕ → ℕ → List Float → List Float → ℕ
closer_number k b xs ys = chosen_number (choice k b xs ys)
