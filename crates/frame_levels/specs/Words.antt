-- The levels of a frame as the code holds them, one number for each, and the test of such numbers. Contracts below the entry
-- points cite it. Assumes nothing.
use Rattle.std.specs.Prelude.{ℕ, suc, ◌/◌, ◌%◌, ◌^◌, List, [], ◌∷◌, ltb, get_or, ℤ}
use Rattle.bits.specs.Number.{given, table, number}
use Rattle.reed_muller.specs.Level.{backwards, clear_above}
use Rattle.frames.specs.Kind.{broken_number, levels}
use Rattle.frames.specs.Frame.{level_word}
use Rattle.frames.specs.Sending.{unless}

-- the levels of a frame, each backwards and held in a number: bit S of number i is that of mask S; 0 where there is no such level
unfoldable pub backward_words : ℕ → List ℤ → List ℕ
unfolding table levels
backward_words k f = table 3 (λ i. given (ltb i (levels k)) (number (2 ^ k) (backwards k (level_word i f))))

-- the number of the first level from i on that is not a codeword, 0 where each one is
unfoldable pub broken_in : ℕ → ℕ → List ℕ → List ℕ → ℕ
broken_in m i [] words = 0
broken_in m i (r ∷ rs) words = unless (clear_above r (λ S. get_or words i 0 / 2 ^ S % 2) (2 ^ m)) (broken_number i) (broken_in m (suc i) rs words)
