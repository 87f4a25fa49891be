-- Codewords of RM(r,m), for every r ≤ m: backwards gives the message, and different messages are far apart. Assumes nothing.
use Prim.Native.Nat.{ℕ, ◌+◌, ◌-◌, ◌%◌, ◌^◌, ◌≤◌, ◌<◌}
use mathlib.Core.Path.{◌≡◌, refl, sym, ap, ap₂, ◌∙◌, subst}
use mathlib.Core.Bool.{Bool, true, false}
use mathlib.Core.List.{List, [], ◌∷◌}
use native.Mathlib.Nat.{mod-lt}
use native.Mathlib.Decide.{dec_le}
use native.Mathlib.Omega.{arith}
use lib.Dec.{leb, lit<}
use lib.ListN.{length, get_or}
use borrow.Author.Tests.{le-leb, lt-leb}
use Rattle.bits.specs.Number.{sum_to, given}
use Rattle.reed_muller.specs.Level.{lies_in, weight, masks, order, place, dimension, codeword, backwards}
use Rattle.bits.proofs.Sum.{sum-ext, sum_first}
use Rattle.reed_muller.proofs.Parity.{tested-cong, tested-add}
use Rattle.reed_muller.proofs.Transform.{backwards-cong, backwards-twice}
use Rattle.reed_muller.proofs.Weight.{minimum-weight}
use Rattle.reed_muller.proofs.Order.{sum_l, sum-masks, order-at, order-place, order_below, order-light, place-order, dimension-small}

-- ---- what a codeword depends on

module _ (r m : ℕ) (a b : ℕ → ℕ) where
  -- the parities of the first `dimension` bits
  pub codeword-cong : ((k : ℕ) → k < dimension r m → a k % 2 ≡ b k % 2) → (p : ℕ) → codeword r m a p ≡ codeword r m b p
  unfolding codeword
  codeword-cong h p = tested-cong (λ k. lies_in (get_or (order m) k 0) p) a b (dimension r m) h

  -- the code is linear
  pub codeword-add : (p : ℕ) → codeword r m (λ k. a k + b k) p ≡ (codeword r m a p + codeword r m b p) % 2
  unfolding codeword
  codeword-add p = tested-add (λ k. lies_in (get_or (order m) k 0) p) a b (dimension r m)

pub codeword-small : (r m : ℕ) (bit : ℕ → ℕ) (p : ℕ) → codeword r m bit p < 2
unfolding codeword
codeword-small r m bit p = mod-lt _ (lit< tt)

-- ---- a codeword is the transform of its coefficients

sum-list : (h : ℕ → ℕ) (xs : List ℕ) → sum_l h xs ≡ sum_to (length xs) (λ i. h (get_or xs i 0))
unfolding sum_to
sum-list h [] = refl
sum-list h (x ∷ xs) = ap (λ (s : ℕ). h x + s) (sum-list h xs) ∙ sym (sum_first (length xs) (λ i. h (get_or (x ∷ xs) i 0)))

given-swap : (a b : Bool) (x : ℕ) → given a (given b x) ≡ given b (given a x)
given-swap true b x = refl
given-swap false true x = refl
given-swap false false x = refl

-- the coefficient of mask S: its message bit, and 0 where it has none
abbrev pub coefficient : ℕ → ℕ → (ℕ → ℕ) → ℕ → ℕ
coefficient r m bit S = given (leb (weight S) r) (bit (place (order m) S))

module _ (r m : ℕ) (hr : r ≤ m) (bit : ℕ → ℕ) where
  place_at : (k : ℕ) → k < dimension r m → place (order m) (get_or (order m) k 0) ≡ k
  place_at k h = order-place m k (omega (arith, dimension-small r m hr))

  pub codeword-transform : (p : ℕ) → codeword r m bit p ≡ backwards m (coefficient r m bit) p
  unfolding codeword backwards dimension
  codeword-transform p =
      ap (λ (x : ℕ). x % 2)
      (sum-ext (dimension r m) (λ k h.
      ap₂ (λ (S i : ℕ). given (lies_in S p) (bit i)) (order-at r m hr k h) (sym (place_at k h) ∙ ap (place (order m)) (order-at r m hr k h)))
      ∙ sym (sum-list (λ S. given (lies_in S p) (bit (place (order m) S))) (masks r m))
      ∙ sum-masks r m (λ S. given (lies_in S p) (bit (place (order m) S)))
      ∙ sum-ext (2 ^ m) (λ S h. given-swap (leb (weight S) r) (lies_in S p) (bit (place (order m) S))))

  -- backwards gives the coefficients back
  pub backwards-codeword : (S : ℕ) → S < 2 ^ m → backwards m (codeword r m bit) S ≡ coefficient r m bit S % 2
  backwards-codeword S h =
      backwards-cong m (codeword r m bit) (backwards m (coefficient r m bit)) (λ p l. ap (λ (x : ℕ). x % 2) (codeword-transform p)) S
      ∙ backwards-twice m (coefficient r m bit) S h

  -- a mask with more than r bits has the coefficient 0
  coefficient-above : (S : ℕ) → r < weight S → coefficient r m bit S ≡ 0
  coefficient-above S w = rw (lt-leb (weight S) r w)

  pub backwards-above : (S : ℕ) → S < 2 ^ m → r < weight S → backwards m (codeword r m bit) S ≡ 0
  backwards-above S h w = backwards-codeword S h ∙ ap (λ (x : ℕ). x % 2) (coefficient-above S w)

  -- mask k of the order has message bit k
  coefficient-at : (k : ℕ) → k < dimension r m → coefficient r m bit (get_or (order m) k 0) ≡ bit k
  coefficient-at k h =
      ap (λ b. given b (bit (place (order m) (get_or (order m) k 0)))) (le-leb _ r (order-light r m hr k h)) ∙ ap bit (place_at k h)

  mask_below : (k : ℕ) → k < dimension r m → get_or (order m) k 0 < 2 ^ m
  mask_below k h = order_below m k (omega (arith, dimension-small r m hr))

  pub backwards-bit : (k : ℕ) → k < dimension r m → backwards m (codeword r m bit) (get_or (order m) k 0) ≡ bit k % 2
  backwards-bit k h = backwards-codeword (get_or (order m) k 0) (mask_below k h) ∙ ap (λ (x : ℕ). x % 2) (coefficient-at k h)

  -- a message with a bit set gives at least 2 ^ (m − r) ones
  pub codeword-weight : (k : ℕ) → k < dimension r m → bit k % 2 ≡ 1 → 2 ^ (m - r) ≤ sum_to (2 ^ m) (codeword r m bit)
  codeword-weight k h odd =
      subst (λ (x : ℕ). 2 ^ (m - r) ≤ x) (sym (sum-ext (2 ^ m) (λ p l. codeword-transform p)))
      (minimum-weight m r (coefficient r m bit) hr (λ S l w. ap (λ (x : ℕ). x % 2) (coefficient-above S w))
      (get_or (order m) k 0) (mask_below k h) (ap (λ (x : ℕ). x % 2) (coefficient-at k h) ∙ odd))

-- messages that differ in a bit give words that differ in at least 2 ^ (m − r) places
pub codeword-distance : (r m : ℕ) → r ≤ m → (a b : ℕ → ℕ) (k : ℕ) → k < dimension r m → (a k + b k) % 2 ≡ 1
    → 2 ^ (m - r) ≤ sum_to (2 ^ m) (λ p. (codeword r m a p + codeword r m b p) % 2)
codeword-distance r m hr a b k h differ =
    subst (λ (x : ℕ). 2 ^ (m - r) ≤ x) (sum-ext (2 ^ m) (λ p l. codeword-add r m a b p)) (codeword-weight r m hr (λ k. a k + b k) k h differ)

-- ---- from the word to the message

-- the message bits that are read from a word
abbrev pub read_bits : ℕ → (ℕ → ℕ) → ℕ → ℕ
read_bits m w k = backwards m w (get_or (order m) k 0)

-- a word whose backward bits are 0 above r is the codeword of the bits read from it
module _ (r m : ℕ) (hr : r ≤ m) (w : ℕ → ℕ) (above : (S : ℕ) → S < 2 ^ m → r < weight S → backwards m w S ≡ 0) where
  coefficient-back : (S : ℕ) → S < 2 ^ m → coefficient r m (read_bits m w) S ≡ backwards m w S
  coefficient-back S h = go (dec_le (weight S) r)
    where
      go : Dec (weight S ≤ r) → coefficient r m (read_bits m w) S ≡ backwards m w S
      go (yes l) = rw (le-leb (weight S) r l) (ap (backwards m w) (place-order m S h).1)
      go (no n) = rw (lt-leb (weight S) r (omega arith)) (sym (above S h (omega arith)))

  pub read-codeword : (p : ℕ) → p < 2 ^ m → codeword r m (read_bits m w) p ≡ w p % 2
  read-codeword p h =
      codeword-transform r m hr (read_bits m w) p
      ∙ backwards-cong m (coefficient r m (read_bits m w)) (backwards m w) (λ S h_s. ap (λ (x : ℕ). x % 2) (coefficient-back S h_s)) p
      ∙ backwards-twice m w p h
