-- A tally of judgements, 16 figures: place p counts those that passed check p, place 15 the differences. Assumes nothing.
use Rattle.std.specs.Prelude.{ℕ, ◌+◌, ◌≡◌, Bool, true, ◌&&◌, cond, List, [], ◌∷◌, ltb, get_or, set}

-- a figure raised by one, up to 1,000,000
abbrev pub raised : ℕ → ℕ
raised n = cond (ltb n 1000000) (n + 1) n

-- the place where a judgement counts: that of its check, one of 15, where it passed, and else that of the differences
abbrev pub place_of : ℕ → Bool → ℕ
place_of check passed = cond (passed && ltb check 15) check 15

-- the tally after a judgement: its place is raised, and every other as it was
unfoldable pub judged : ℕ → Bool → List ℕ → List ℕ
judged check passed tally = set tally (place_of check passed) (raised (get_or tally (place_of check passed) 0))

-- a judgement: its check, and whether it passed
pub record Judgement : Type 0 where
  pub check : ℕ
  pub passed : Bool

-- the tally after judgements, one after the other
unfoldable pub judged_all : List Judgement → List ℕ → List ℕ
unfolding judged
judged_all [] tally = tally
judged_all (j ∷ js) tally = judged_all js (judged j.check j.passed tally)

-- every one of them passed
unfoldable pub all_passed : List Judgement → Bool
all_passed [] = true
all_passed (j ∷ js) = j.passed && all_passed js

-- a tally grew by judgements and by nothing else
pub record GrownBy (before after : List ℕ) : Type 0 where
  pub judgements : List Judgement
  pub counted : after ≡ judged_all judgements before
