-- The choice by cases: the closer of two distances; and both refused, where the number is the first's, whatever is wrong with the second, and each test of
-- the first answers before all later ones, with everything wrong that is tested later. Assumes nothing.
use Rattle.std.specs.Prelude.{◌≡◌, false, [], ◌∷◌, replicate, pos}
use Rattle.std.specs.Float.{nan, fin}
use Rattle.recordings.specs.Choice.{First, Second, Neither, closer, choice}

-- of 5 and 6 parts the smaller; of 5 and 5 the first
pub record CloserCases : Type 0 where
  pub first : closer 5 6 ≡ First
  pub second : closer 6 5 ≡ Second
  pub equal : closer 5 5 ≡ First

pub record RefusedCases : Type 0 where
  -- "Kind 6 is answered 1 here" (request E6)
  pub kind : choice 6 0 (nan ∷ []) [] ≡ Neither 1
  pub kind-alone : choice 6 1 (replicate 64 (fin false 0 (pos 0))) (replicate 64 (fin false 0 (pos 0))) ≡ Neither 1
  pub grade : choice 3 5 (nan ∷ []) (replicate 8 nan) ≡ Neither 2
  pub length : choice 3 1 (nan ∷ []) (replicate 8 nan) ≡ Neither 4
  pub unfit : choice 3 1 (replicate 8 nan) (nan ∷ []) ≡ Neither 15
  -- the empty slice
  pub empty : choice 3 1 [] [] ≡ Neither 4
