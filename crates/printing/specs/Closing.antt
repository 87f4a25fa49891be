-- What the answer at the end of the output says: the file is closed, with what was written to it (0), or it is not (below 0). Assumes nothing.
use Rattle.std.specs.Prelude.{◌≡◌, Bool, true, false, ℤ, pos, negsuc, Result, Ok, Err}

-- what a call that succeeds or fails may answer: 0, or -1
abbrev pub Status : ℤ → Type 0
Status (pos k) = k ≡ 0
Status (negsuc k) = k ≡ 0

-- the answer of a settling: 0, or -1 where it failed
abbrev pub answer_of : {A E : Type 0} → Result A E → ℤ
answer_of (Ok a) = pos 0
answer_of (Err e) = negsuc 0

-- whether the file is closed
abbrev pub closed : ℤ → Bool
closed (pos k) = true
closed (negsuc k) = false

-- what is told of a close, by its answer, which is one that a close may give
pub record ClosedBy (r : Bool) : Type 0 where
  pub answer : ℤ
  pub may : Status answer
  pub told : r ≡ closed answer
