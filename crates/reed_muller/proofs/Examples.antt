-- What documents 01 and 02 write out of the level codes. Assumes nothing.
use mathlib.Core.Path.{◌≡◌, refl}
use mathlib.Core.List.{[], ◌∷◌}
use lib.Count.{ones}
use Rattle.bits.specs.Number.{table}
use Rattle.reed_muller.specs.Level.{of_weight, masks, dimension}

-- kind 4, level 1
pub kind-4-level-1 : masks 3 4 ≡ 0 ∷ 1 ∷ 2 ∷ 4 ∷ 8 ∷ 3 ∷ 5 ∷ 6 ∷ 9 ∷ 10 ∷ 12 ∷ 7 ∷ 11 ∷ 13 ∷ 14 ∷ []
unfolding masks of_weight table ones
kind-4-level-1 = refl

-- the code dimensions are 4; 5 and 15; 6 and 26; and 7, 42 and 63 for kind 6 (request E1)
pub dimensions :
    dimension 1 3 ∷ dimension 1 4 ∷ dimension 3 4 ∷ dimension 1 5 ∷ dimension 3 5 ∷ dimension 1 6 ∷ dimension 3 6 ∷ dimension 5 6 ∷ []
    ≡ 4 ∷ 5 ∷ 15 ∷ 6 ∷ 26 ∷ 7 ∷ 42 ∷ 63 ∷ []
unfolding dimension masks of_weight table ones
dimensions = refl
