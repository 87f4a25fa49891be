-- The codewords of a message's levels as the code holds them. The contracts on the way to the leader cite it; who sends needs none of it. Assumes nothing.
use Rattle.std.specs.Prelude.{ℕ, zero, suc, ◌+◌, ◌*◌, ◌^◌, List, ltb, get_or, take}
use Rattle.bits.specs.Number.{given, table, number}
use Rattle.reed_muller.specs.Level.{codeword}
use Rattle.frames.specs.Kind.{degrees, levels, dimensions}

-- the bit at which the message bits of level i begin: behind those of the levels before it
abbrev pub level_start : ℕ → ℕ → ℕ
level_start k i = dimensions k (take i (degrees k))

-- the value of level i at p
abbrev pub level_value : ℕ → (ℕ → ℕ) → ℕ → ℕ → ℕ
level_value k bit i p = codeword (get_or (degrees k) i 0) k (λ t. bit (level_start k i + t)) p

-- the codewords of the levels, each held in a number: bit p of number i is the value of level i at p, and 0 where there is no such level
unfoldable pub codewords_of : ℕ → (ℕ → ℕ) → List ℕ
unfolding table levels
codewords_of k bit = table 3 (λ i. given (ltb i (levels k)) (number (2 ^ k) (level_value k bit i)))

-- s over n levels of the values c 0, c 1, ..: c 0 + 2·s with one, c 0 + 2·(c 1 + 2·s) with two, and so on
unfoldable pub over_levels : ℕ → (ℕ → ℕ) → ℕ → ℕ
over_levels zero c s = s
over_levels (suc n) c s = c 0 + 2 * over_levels n (λ i. c (suc i)) s
