-- Level codes: masks and their order, codewords of RM(r,m), the way back, and which words belong to the code.
-- Clients cite lies_in, weight, masks, order, place, dimension, codeword, backwards, belongs, Turning, and Tabled. Assumes nothing.
use Rattle.std.specs.Prelude.{ℕ, zero, suc, ◌%◌, ◌^◌, ◌≤◌, ◌<◌, ◌≡◌, Bool, true, false, ◌&&◌, ◌||◌, cond, List, [], ◌∷◌, ◌++◌, eqb, leb, length, get_or}
use Rattle.std.specs.Int.Bits.{bit_and}
use Rattle.std.specs.Int.Count.{ones}
use Rattle.bits.specs.Number.{given, sum_to, table}

-- the mask S lies in p: every bit set in S is set in p
abbrev pub lies_in : ℕ → ℕ → Bool
lies_in S p = eqb (bit_and S p) S

-- the number of bits set in S
abbrev pub weight : ℕ → ℕ
weight S = ones S

-- x before the list where the test holds, and the list alone where it does not
abbrev pub keep : Bool → ℕ → List ℕ → List ℕ
keep true x xs = x ∷ xs
keep false x xs = xs

-- those of the list that have w bits set
unfoldable pub of_weight : ℕ → List ℕ → List ℕ
of_weight w [] = []
of_weight w (S ∷ Ss) = keep (eqb (weight S) w) S (of_weight w Ss)

-- the masks below 2 ^ m with at most r bits set, by number of set bits, then by value
unfoldable pub masks : ℕ → ℕ → List ℕ
unfolding of_weight table
masks zero m = of_weight 0 (table (2 ^ m) (λ S. S))
masks (suc r) m = masks r m ++ of_weight (suc r) (table (2 ^ m) (λ S. S))

-- the order of all masks below 2 ^ m: by number of set bits, then by value
unfoldable pub order : ℕ → List ℕ
unfolding masks
order m = masks m m

-- the place of x in a list: the first index at which it stands (the list's length where it does not)
unfoldable pub place : List ℕ → ℕ → ℕ
place [] x = 0
place (y ∷ ys) x = cond (eqb y x) 0 (suc (place ys x))

-- the dimension of RM(r,m): one message bit for each mask with at most r bits set
unfoldable pub dimension : ℕ → ℕ → ℕ
unfolding masks
dimension r m = length (masks r m)

-- the value at p of the codeword of RM(r,m): the parity of the message bits whose masks lie in p; bit k is that of mask k of the order
unfoldable pub codeword : ℕ → ℕ → (ℕ → ℕ) → ℕ → ℕ
unfolding sum_to order dimension
codeword r m bit p = sum_to (dimension r m) (λ k. given (lies_in (get_or (order m) k 0) p) (bit k)) % 2

-- backwards, the bit of mask S: the parity of the values at all p that lie in S
unfoldable pub backwards : ℕ → (ℕ → ℕ) → ℕ → ℕ
unfolding sum_to
backwards m value S = sum_to (2 ^ m) (λ p. given (lies_in p S) (value p)) % 2

-- the bit is 0 for every mask below n with more than r set bits
unfoldable pub clear_above : ℕ → (ℕ → ℕ) → ℕ → Bool
clear_above r bit zero = true
clear_above r bit (suc n) = clear_above r bit n && (leb (weight n) r || eqb (bit n) 0)

-- a word belongs to RM(r,m) when, backwards, the bit is 0 for every mask with more than r set bits
unfoldable pub belongs : ℕ → ℕ → (ℕ → ℕ) → Bool
unfolding clear_above backwards
belongs r m value = clear_above r (backwards m value) (2 ^ m)

-- masks and values turn into each other: of the codeword of a message the bit of mask k of the order, backwards, is message bit k, and a word
-- that belongs is the codeword of the bits read so from it; and any word taken backwards twice is itself
pub record Turning (r m : ℕ) (bit value : ℕ → ℕ) : Type 0 where
  pub message-back : (k : ℕ) → k < dimension r m → backwards m (codeword r m bit) (get_or (order m) k 0) ≡ bit k % 2
  pub word-again : belongs r m value ≡ true → (p : ℕ) → p < 2 ^ m → codeword r m (λ k. backwards m value (get_or (order m) k 0)) p ≡ value p % 2
  pub twice : (p : ℕ) → p < 2 ^ m → backwards m (backwards m value) p ≡ value p % 2

-- the lengths 2 ^ m that have a table of masks: 8, 16, 32, 64
abbrev pub Tabled : ℕ → Type 0
Tabled m = (3 ≤ m) × (m ≤ 6)
