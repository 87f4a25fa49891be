-- What the search works with: the codewords of level 0, counted, and what the search over both levels answers. Words, samples and costs are those of
-- `costs`. Private contracts cite it. Assumes nothing.
use Rattle.std.specs.Prelude.{ℕ, suc, ◌-◌, ◌^◌, ◌<◌, ◌≡◌, Bool, true, false, List, ℤ}
use Rattle.bits.specs.Number.{sum_to, table, number, bit_of}
use Rattle.reed_muller.specs.Level.{codeword, belongs}
use Rattle.near_frames.specs.Near.{near_limit, IsNear}
use Rattle.costs.specs.Costs.{cost}

-- the codeword of level 0 of message i, whose message bit j is bit j of i
unfoldable pub first_word : ℕ → ℕ → ℕ
unfolding sum_to codeword
first_word k i = number (2 ^ k) (codeword 1 k (bit_of i))

-- the codewords of RM(1,6) of the messages 1, 3, 7, .., 127
unfoldable pub step_words : List ℕ
unfolding table sum_to codeword
step_words = table 7 (λ z. number 64 (codeword 1 6 (bit_of (2 ^ suc z - 1))))

-- what the search over both levels answers: words a and b of the two levels whose cost c is within the limit, or that no frame is near; then the three
-- figures are 0
pub record FoundPair (k : ℕ) (t : List ℤ) (found : Bool) (a b c : ℕ) : Type 0 where
  pub low-a : a < 2 ^ (2 ^ k)
  pub low-b : b < 2 ^ (2 ^ k)
  pub word-a : found ≡ true → belongs 1 k (bit_of a) ≡ true
  pub word-b : found ≡ true → belongs 3 k (bit_of b) ≡ true
  pub costs : found ≡ true → c ≡ sum_to (2 ^ k) (cost t a b)
  pub within : found ≡ true → c < near_limit k
  pub none : found ≡ false → (f : List ℤ) → IsNear k t f → ⊥
  pub no-a : found ≡ false → a ≡ 0
  pub no-b : found ≡ false → b ≡ 0
  pub no-cost : found ≡ false → c ≡ 0
