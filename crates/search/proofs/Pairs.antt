-- A near frame is a pair of level words, and its nearness the sum of their costs; and back. Kind 3 has all words for its level 1. Assumes nothing.
use Prim.Native.Nat.{ℕ, zero, suc, ◌+◌, ◌*◌, ◌%◌, ◌^◌, ◌≤◌, ◌<◌}
use mathlib.Core.Path.{◌≡◌, refl, sym, ap, ap₂, ◌∙◌}
use mathlib.Core.Bool.{true}
use mathlib.Core.List.{List, [], ◌∷◌}
use native.Mathlib.Omega.{arith}
use lib.Count.{ones}
use lib.ListN.{length, get_or}
use lib.IntN.{ℤ, pos, ◌+ℤ◌, ◌-ℤ◌, ◌*ℤ◌}
use lib.Signed.{shr_z}
use Rattle.bits.specs.Number.{sum_to, number, bit_of}
use Rattle.bits.proofs.Sum.{sum-ext, sum-term}
use Rattle.bits.proofs.Message.{number_lt, number_bit}
use Rattle.reed_muller.specs.Level.{belongs, clear_above, dimension, codeword}
use Rattle.reed_muller.proofs.Belongs.{belongs-cong, belongs-read}
use Rattle.reed_muller.proofs.Codeword.{read_bits, codeword-cong}
use Rattle.reed_muller.proofs.Parity.{backwards-small}
use Rattle.e8.specs.Energy.{sq}
use Rattle.frames.specs.Kind.{kinds, degrees, levels}
use Rattle.frames.specs.Frame.{weight_bit, level_word, InCodingSet}
use Rattle.frames.proofs.Frame.{at}
use Rattle.near_frames.specs.Near.{near_kind, nearness}
use Rattle.near_frames.proofs.NearKinds.{each-near}
use Rattle.near_frames.proofs.Sum.{nearness-sum}
use Rattle.costs.specs.Costs.{nearest, gap, residue, cost, candidate}
use Rattle.costs.proofs.Residue.{bit-0, bit-1, bit-small, by_bits, candidate-cost, near-cost}

-- ---- the levels of a kind

-- level 0 is a word of RM(1,k), level 1 one of RM(3,k): at kind 3 that is every word
record Words (k : ℕ) (f : List ℤ) : Type 0 where
  word-0 : belongs 1 k (level_word 0 f) ≡ true
  word-1 : belongs 3 k (level_word 1 f) ≡ true

all_words : (v : ℕ → ℕ) → belongs 3 3 v ≡ true
unfolding belongs clear_above ones
all_words v = refl

words_of : (k : ℕ) → near_kind k ≡ true → (f : List ℤ) → InCodingSet k f → Words k f
unfolding levels degrees kinds
words_of = each-near (λ k. (f : List ℤ) → InCodingSet k f → Words k f)
    (λ f set. record { word-0 = set.codewords 0 (omega arith); word-1 = all_words (level_word 1 f) })
    (λ f set. record { word-0 = set.codewords 0 (omega arith); word-1 = set.codewords 1 (omega arith) })
    (λ f set. record { word-0 = set.codewords 0 (omega arith); word-1 = set.codewords 1 (omega arith) })

of_words : (k : ℕ) → near_kind k ≡ true → (f : List ℤ) → length f ≡ 2 ^ k → Words k f → InCodingSet k f
unfolding levels degrees kinds
of_words = each-near (λ k. (f : List ℤ) → length f ≡ 2 ^ k → Words k f → InCodingSet k f)
    (λ f l w. record { long = l; codewords = one f w })
    (λ f l w. record { long = l; codewords = two 4 f w })
    (λ f l w. record { long = l; codewords = two 5 f w })
  where
    one : (f : List ℤ) → Words 3 f → (i : ℕ) → i < 1 → belongs (get_or (1 ∷ []) i 0) 3 (level_word i f) ≡ true
    one f w zero h = w.word-0
    one f w (suc i) h = absurd (omega arith)

    two : (k : ℕ) (f : List ℤ) → Words k f → (i : ℕ) → i < 2 → belongs (get_or (1 ∷ 3 ∷ []) i 0) k (level_word i f) ≡ true
    two k f w zero h = w.word-0
    two k f w (suc zero) h = w.word-1
    two k f w (suc (suc i)) h = absurd (omega arith)

-- ---- from a frame to a pair

-- words a and b, held in numbers, whose costs sum up to d
pub record Pair (k : ℕ) (t : List ℤ) (d : ℕ) : Type 0 where
  pub a : ℕ
  pub b : ℕ
  pub word-a : belongs 1 k (bit_of a) ≡ true
  pub word-b : belongs 3 k (bit_of b) ≡ true
  pub low-b : b < 2 ^ (2 ^ k)
  pub costs : sum_to (2 ^ k) (cost t a b) ≡ d

module _ (k : ℕ) (kind : near_kind k ≡ true) (t : List ℤ) (long : length t ≡ 2 ^ k) where
  pub pair_of : (f : List ℤ) → InCodingSet k f → nearness f t < 262144 → Pair k t (nearness f t)
  pair_of f set l = record {
    a = a;
    b = b;
    word-a = belongs-cong 1 k (bit_of a) (level_word 0 f) (λ p h. ap (λ (x : ℕ). x % 2) (is-a p h)) ∙ (words_of k kind f set).word-0;
    word-b = belongs-cong 3 k (bit_of b) (level_word 1 f) (λ p h. ap (λ (x : ℕ). x % 2) (is_b p h)) ∙ (words_of k kind f set).word-1;
    low-b = number_lt (level_word 1 f) (2 ^ k) (λ p h. bit-small 1 (at f p));
    costs = sym (sum ∙ sum-ext (2 ^ k) each);
  }
    where
      a : ℕ
      a = number (2 ^ k) (level_word 0 f)

      b : ℕ
      b = number (2 ^ k) (level_word 1 f)

      is-a : (p : ℕ) → p < 2 ^ k → bit_of a p ≡ level_word 0 f p
      is-a p h = number_bit (level_word 0 f) (2 ^ k) (λ p h. bit-small 0 (at f p)) p h

      is_b : (p : ℕ) → p < 2 ^ k → bit_of b p ≡ level_word 1 f p
      is_b p h = number_bit (level_word 1 f) (2 ^ k) (λ p h. bit-small 1 (at f p)) p h

      sum : nearness f t ≡ sum_to (2 ^ k) (λ p. sq (pos 256 *ℤ at f p -ℤ at t p))
      sum = nearness-sum (2 ^ k) f t set.long long

      each : (p : ℕ) → p < 2 ^ k → sq (pos 256 *ℤ at f p -ℤ at t p) ≡ cost t a b p
      each p h =
          let r : ℕ = weight_bit 0 (at f p) + 2 * weight_bit 1 (at f p) in
          let j : ℤ = shr_z (shr_z (at f p) 2) 2 in
          let e : sq (pos 256 *ℤ at f p -ℤ at t p) ≡ sq (pos 256 *ℤ (pos 4 *ℤ j +ℤ pos r) -ℤ at t p) =
          ap (λ (z : ℤ). sq (pos 256 *ℤ z -ℤ at t p)) (by_bits (at f p)) in
          e
          ∙ near-cost (at t p) j r (omega (arith, l, sum, e, sum-term (2 ^ k) (λ p. sq (pos 256 *ℤ at f p -ℤ at t p)) p h))
          ∙ ap₂ (λ (x y : ℕ). gap 512 (at t p -ℤ pos (256 * (x + 2 * y)))) (sym (is-a p h)) (sym (is_b p h))

  -- ---- and back

  pub frame-of : (a b : ℕ) → belongs 1 k (bit_of a) ≡ true → belongs 3 k (bit_of b) ≡ true → (f : List ℤ) → length f ≡ 2 ^ k
      → ((p : ℕ) → p < 2 ^ k → at f p ≡ candidate t a b p) → InCodingSet k f × (nearness f t ≡ sum_to (2 ^ k) (cost t a b))
  frame-of a b wa wb f l e =
      (of_words k kind f l (record { word-0 = level-0; word-1 = level-1 }), nearness-sum (2 ^ k) f t l long ∙ sum-ext (2 ^ k) each)
    where
      j : ℕ → ℤ
      j p = nearest 512 (at t p -ℤ pos (256 * residue a b p))

      level-0 : belongs 1 k (level_word 0 f) ≡ true
      level-0 = belongs-cong 1 k (level_word 0 f) (bit_of a)
          (λ p h. ap (λ (x : ℕ). x % 2) (ap (weight_bit 0) (e p h) ∙ bit-0 (bit_of a p) (bit_of b p) (omega arith) (omega arith) (j p))) ∙ wa

      level-1 : belongs 3 k (level_word 1 f) ≡ true
      level-1 = belongs-cong 3 k (level_word 1 f) (bit_of b)
          (λ p h. ap (λ (x : ℕ). x % 2) (ap (weight_bit 1) (e p h) ∙ bit-1 (bit_of a p) (bit_of b p) (omega arith) (omega arith) (j p))) ∙ wb

      each : (p : ℕ) → p < 2 ^ k → sq (pos 256 *ℤ at f p -ℤ at t p) ≡ cost t a b p
      each p h = ap (λ (z : ℤ). sq (pos 256 *ℤ z -ℤ at t p)) (e p h) ∙ candidate-cost (at t p) (j p) (residue a b p) refl

-- ---- every word of RM(r,m) is the codeword of a number

pub record Numbered (r m : ℕ) (v : ℕ → ℕ) : Type 0 where
  pub bits : ℕ
  pub low : bits < 2 ^ dimension r m
  pub is : (p : ℕ) → p < 2 ^ m → codeword r m (bit_of bits) p ≡ v p % 2

pub numbered : (r m : ℕ) → r ≤ m → (v : ℕ → ℕ) → belongs r m v ≡ true → Numbered r m v
numbered r m hr v e = record {
  bits = number (dimension r m) (read_bits m v);
  low = number_lt (read_bits m v) (dimension r m) small;
  is = λ p h. codeword-cong r m (bit_of (number (dimension r m) (read_bits m v))) (read_bits m v)
      (λ i l. ap (λ (x : ℕ). x % 2) (number_bit (read_bits m v) (dimension r m) small i l)) p
      ∙ belongs-read r m hr v e p h;
}
  where
    small : (i : ℕ) → i < dimension r m → read_bits m v i < 2
    small i l = backwards-small m v _
