-- The levels of a frame held in numbers: their bits, and the test of the levels one after the other. Assumes nothing.
use Prim.Native.Nat.{ℕ, suc, ◌+◌, ◌%◌, ◌^◌, ◌≤◌, ◌<◌}
use mathlib.Core.Path.{◌≡◌, refl, ap, ap₂, ◌∙◌}
use mathlib.Core.Bool.{Bool, true}
use mathlib.Core.List.{List, [], ◌∷◌}
use native.Mathlib.Numerals.{add-one}
use native.Mathlib.Omega.{arith}
use lib.Dec.{ltb}
use lib.ListN.{length, drop, get_or, drop_of_length-le}
use lib.Seq.{drop-cons}
use lib.IntN.{ℤ}
use lib.Signed.{shr_z}
use borrow.Author.Tests.{lt-ltb}
use Rattle.integers.proofs.Floor.{mod_z-lt}
use Rattle.bits.specs.Number.{given, number}
use Rattle.bits.proofs.Table.{table_at}
use Rattle.bits.proofs.Message.{number_bit, number-ext, digit-of}
use Rattle.bits.proofs.Digits.{digit}
use Rattle.reed_muller.specs.Level.{clear_above, backwards}
use Rattle.reed_muller.proofs.Parity.{backwards-small}
use Rattle.reed_muller.proofs.Transform.{backwards-cong}
use Rattle.reed_muller.proofs.Belongs.{belongs-bits}
use Rattle.frames.specs.Kind.{broken_number, is_kind, degrees, levels}
use Rattle.frames.specs.Frame.{weight_bit, level_word}
use Rattle.frames.specs.Sending.{unless}
use Rattle.frames.specs.Reading.{broken}
use Rattle.frames.proofs.Frame.{weight-bit}
use Rattle.frames.proofs.Limits.{few-levels}
use Rattle.frame_levels.specs.Words.{backward_words, broken_in}

pub weight-bit-small : (i : ℕ) (z : ℤ) → weight_bit i z < 2
weight-bit-small i z = rw (weight-bit i z) (mod_z-lt (shr_z z (2 ^ i)) 2 (omega arith))

-- level i of a frame, backwards
abbrev pub backward_word : ℕ → List ℤ → ℕ → ℕ
backward_word k f i = number (2 ^ k) (backwards k (level_word i f))

-- from a number that holds it
pub word-backwards : (m n i : ℕ) (f : List ℤ) (word : ℕ) → n ≡ 2 ^ m → word ≡ number n (level_word i f)
    → number (2 ^ m) (backwards m (digit word)) ≡ number (2 ^ m) (backwards m (level_word i f))
word-backwards m n i f word long is =
    number-ext (2 ^ m) (λ S l. backwards-cong m (digit word) (level_word i f)
    (λ p h. ap (λ (x : ℕ). x % 2) (digit-of is (λ q u. weight-bit-small i _) p (omega arith))) S)

-- ---- the test of the levels, one after the other

module _ (k : ℕ) (words : List ℕ) (i : ℕ) where
  -- level i, of the degree r
  pub broken-next : (r : ℕ) → i < levels k → r ≡ get_or (degrees k) i 0
      → broken_in k i (drop i (degrees k)) words
      ≡ unless (clear_above r (digit (get_or words i 0)) (2 ^ k)) (broken_number i) (broken_in k (i + 1) (drop (i + 1) (degrees k)) words)
  unfolding broken_in levels
  broken-next r h e = rw (e, add-one, drop-cons (degrees k) i 0 h)

  pub no_more : levels k ≤ i → broken_in k i (drop i (degrees k)) words ≡ 0
  unfolding broken_in levels
  no_more h = ap (λ (rs : List ℕ). broken_in k i rs words) (drop_of_length-le (degrees k) h)

-- ---- the words of a frame

module _ (k : ℕ) (kind : is_kind k ≡ true) (f : List ℤ) where
  -- bit S of word i is that of mask S
  pub word-bit : (i : ℕ) → i < levels k → (S : ℕ) → S < 2 ^ k → digit (get_or (backward_words k f) i 0) S ≡ backwards k (level_word i f) S
  unfolding backward_words
  word-bit i h S l =
      ap (λ (x : ℕ). digit x S)
      (table_at (λ i. given (ltb i (levels k)) (number (2 ^ k) (backwards k (level_word i f)))) 3 i (omega (arith, few-levels k kind))
      ∙ rw (lt-ltb i (levels k) h))
      ∙ number_bit (backwards k (level_word i f)) (2 ^ k) (λ S u. backwards-small k (level_word i f) S) S l

  broken-from : (i : ℕ) (rs : List ℕ) → i + length rs ≤ levels k → broken_in k i rs (backward_words k f) ≡ broken k i rs f
  unfolding broken_in broken
  broken-from i [] h = refl
  broken-from i (r ∷ rs) h =
      ap₂ (λ (t : Bool) (n : ℕ). unless t (broken_number i) n)
      (belongs-bits r k (level_word i f) (digit (get_or (backward_words k f) i 0)) (word-bit i (omega arith))) (broken-from (suc i) rs (omega arith))

  -- THE TEST on the words of a frame is that of its levels
  pub broken-words : broken_in k 0 (degrees k) (backward_words k f) ≡ broken k 0 (degrees k) f
  unfolding levels
  broken-words = broken-from 0 (degrees k) (omega arith)
