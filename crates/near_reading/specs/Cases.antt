-- What request E6 prints, and the order of its tests by cases: each test answers before all later ones, with everything wrong that is tested later.
-- Assumes nothing.
use Rattle.std.specs.Prelude.{◌*◌, ◌≡◌, true, false, [], ◌∷◌, map, replicate, pos}
use Rattle.std.specs.Float.{nan, fin}
use Rattle.near_frames.specs.Near.{near_kind, near_limit}
use Rattle.near_reading.specs.Answer.{near_number}

-- "For kinds 3, 4 and 5", "below 1, 2 or 4"
pub record Printed : Type 0 where
  pub kinds : map near_kind (0 ∷ 2 ∷ 3 ∷ 4 ∷ 5 ∷ 6 ∷ 7 ∷ []) ≡ false ∷ false ∷ true ∷ true ∷ true ∷ false ∷ false ∷ []
  pub limits : map near_limit (3 ∷ 4 ∷ 5 ∷ []) ≡ map (λ d. d * 65536) (1 ∷ 2 ∷ 4 ∷ [])

-- "Kind 6 is answered 1 here. Tests run in the order 1, 2, 4, 3. (15: unfit sample, .. after 3 ..)"
pub record NearTests : Type 0 where
  pub kind : near_number 6 0 (nan ∷ []) 0 ≡ 1
  pub kind-alone : near_number 6 1 (replicate 64 (fin false 0 (pos 0))) 22 ≡ 1
  pub grade : near_number 3 5 (nan ∷ []) 0 ≡ 2
  pub samples : near_number 3 1 (nan ∷ []) 0 ≡ 4
  pub bytes : near_number 3 1 (replicate 8 nan) 0 ≡ 3
  pub unfit : near_number 3 1 (replicate 8 nan) 2 ≡ 15
