-- The changes of a word of level 1, and what the search for that word answers, where the word of level 0 is given. Words, samples and costs are those
-- of `costs`. The contracts of these functions and of `search` cite it. Assumes nothing.
use Rattle.std.specs.Prelude.{ℕ, ◌+◌, ◌*◌, ◌^◌, ◌<◌, ◌≡◌, Bool, true, false, cond, List, eqb, get_or, ℤ}
use Rattle.std.specs.Int.Bits.{bit_xor}
use Rattle.std.specs.Int.Count.{count_trailing_zeros}
use Rattle.bits.specs.Number.{sum_to, bit_of}
use Rattle.reed_muller.specs.Level.{belongs}
use Rattle.near_frames.specs.Near.{near_limit}
use Rattle.costs.specs.Costs.{cost}

-- the cost of the changes w at p: bit p of w says whether bit p is changed
abbrev pub change_cost : List ℕ → ℕ → ℕ → ℕ
change_cost costs w p = get_or costs (2 * p + bit_of w p) 0

-- the place from which on w agrees with the number before it: one past the digit of w that is 1 first; all n places at 0
unfoldable pub first_place : ℕ → ℕ → ℕ
unfolding count_trailing_zeros
first_place w n = cond (eqb w 0) n (count_trailing_zeros 64 w + 1)

-- the changes w are open to the search: base with them is a word of RM(3,k), and costs less than the limit
pub record Open (k : ℕ) (costs : List ℕ) (base limit w : ℕ) : Type 0 where
  pub word : belongs 3 k (bit_of (bit_xor base w)) ≡ true
  pub within : sum_to (2 ^ k) (change_cost costs w) < limit

-- what the search over the changes answers: the first open ones w and their cost c, or that there are none; then both figures are 0
pub record Changed (k : ℕ) (costs : List ℕ) (base limit : ℕ) (found : Bool) (w c : ℕ) : Type 0 where
  pub low : w < 2 ^ (2 ^ k)
  pub opened : found ≡ true → Open k costs base limit w
  pub first : found ≡ true → (u : ℕ) → u < w → Open k costs base limit u → ⊥
  pub costs-it : found ≡ true → c ≡ sum_to (2 ^ k) (change_cost costs w)
  pub none : found ≡ false → (u : ℕ) → u < 2 ^ (2 ^ k) → Open k costs base limit u → ⊥
  pub no_word : found ≡ false → w ≡ 0
  pub no-cost : found ≡ false → c ≡ 0

-- what the search for level 1 answers, where a is the word of level 0: a word b of RM(3,k) whose cost c is within the limit, or that there is none;
-- then both figures are 0
pub record Searched (k : ℕ) (t : List ℤ) (a : ℕ) (found : Bool) (b c : ℕ) : Type 0 where
  pub low : b < 2 ^ (2 ^ k)
  pub word : found ≡ true → belongs 3 k (bit_of b) ≡ true
  pub costs : found ≡ true → c ≡ sum_to (2 ^ k) (cost t a b)
  pub within : found ≡ true → c < near_limit k
  pub none : found ≡ false → (v : ℕ) → v < 2 ^ (2 ^ k) → belongs 3 k (bit_of v) ≡ true → sum_to (2 ^ k) (cost t a v) < near_limit k → ⊥
  pub no_word : found ≡ false → b ≡ 0
  pub no-cost : found ≡ false → c ≡ 0
