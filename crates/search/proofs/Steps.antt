-- The codewords of level 0, one from the other: from message i − 1 to message i the bits up to the lowest that is 1 in i change, and with them the
-- codeword of the message that is 1 in these bits. Assumes nothing.
use Prim.Native.Nat.{ℕ, zero, suc, ◌+◌, ◌-◌, ◌/◌, ◌%◌, ◌^◌, ◌≤◌, ◌<◌}
use mathlib.Core.Path.{◌≡◌, refl, sym, ap, ap₂, ◌∙◌}
use mathlib.Core.Bool.{true}
use mathlib.Core.List.{List, [], ◌∷◌}
use native.Mathlib.Nat.{div-one, pow-suc}
use native.Mathlib.Omega.{arith}
use lib.Bits.{bit_xor, xor_lt}
use lib.Count.{ones, count_trailing_zeros, under}
use lib.ListN.{get_or}
use lib.Pow.{pow_pos}
use Rattle.bits.specs.Number.{sum_to, table, number, given}
use Rattle.bits.proofs.Table.{table_at, table-ext}
use Rattle.bits.proofs.Message.{number_lt, number_of, digit-of}
use Rattle.bits.proofs.Digits.{digit, digit-none, digit-from, xor-digit}
use Rattle.reed_muller.specs.Level.{lies_in, of_weight, masks, dimension, codeword}
use Rattle.level_tables.proofs.MaskTables.{Right, right-8, right-16, right-32, right-64, masks_of}
use Rattle.reed_muller.proofs.Codeword.{codeword-small, codeword-cong, codeword-add}
use Rattle.near_frames.specs.Near.{near_kind}
use Rattle.near_frames.proofs.NearKinds.{each-near}
use Rattle.search.specs.Search.{first_word, step_words}

-- ---- counting up

-- the number whose digits are 1 up to the lowest that is 1 in i
abbrev carried : ℕ → ℕ → ℕ
carried d i = 2 ^ suc (count_trailing_zeros d i) - 1

abbrev Changes : ℕ → ℕ → ℕ → Type 0
Changes i c j = digit i j ≡ (digit (i - 1) j + digit c j) % 2

digit-half : (x j : ℕ) → digit x (suc j) ≡ digit (x / 2) j
digit-half x j = let e : suc j ≡ 1 + j = omega arith in ap (digit x) e ∙ sym (digit-from x 1 j)

counted : (d i : ℕ) → 1 ≤ i → i < 2 ^ d → (j : ℕ) → Changes i (carried d i) j
unfolding count_trailing_zeros
counted zero i h l j = absurd (omega arith)
counted (suc d) i h l j = go (i % 2) refl (counted d (i / 2)) j
  where
    go : (r : ℕ) → i % 2 ≡ r → (1 ≤ i / 2 → i / 2 < 2 ^ d → (j : ℕ) → Changes (i / 2) (carried d (i / 2)) j)
        → (j : ℕ) → Changes i (2 ^ suc (under r (count_trailing_zeros d (i / 2))) - 1) j
    go zero e ih zero =
        let z = count_trailing_zeros d (i / 2) in
        let a : digit i 0 ≡ 0 = omega (arith, div-one i) in
        let b : digit (i - 1) 0 ≡ 1 = omega (arith, div-one (i - 1)) in
        let c : digit (2 ^ suc (suc z) - 1) 0 ≡ 1 = omega (arith, div-one (2 ^ suc (suc z) - 1), pow-suc 2 (suc z), pow_pos z) in
        a ∙ sym (ap₂ (λ (x y : ℕ). (x + y) % 2) b c)
    go zero e ih (suc j) =
        let z = count_trailing_zeros d (i / 2) in
        let a : (i - 1) / 2 ≡ i / 2 - 1 = omega arith in
        let c : (2 ^ suc (suc z) - 1) / 2 ≡ 2 ^ suc z - 1 = omega (arith, pow-suc 2 (suc z)) in
        digit-half i j
        ∙ ih (omega arith) (omega (arith, pow-suc 2 d)) j
        ∙ ap₂ (λ (x y : ℕ). (x + y) % 2)
        (sym (digit-half (i - 1) j ∙ ap (λ (x : ℕ). digit x j) a))
        (sym (digit-half (2 ^ suc (suc z) - 1) j ∙ ap (λ (x : ℕ). digit x j) c))
    go (suc r) e ih zero = omega (arith, div-one i, div-one (i - 1), div-one (2 ^ 1 - 1))
    go (suc r) e ih (suc j) =
        let a : (i - 1) / 2 ≡ i / 2 = omega arith in
        omega (arith, digit-half i j, digit-half (i - 1) j ∙ ap (λ (x : ℕ). digit x j) a, digit-half (2 ^ 1 - 1) j ∙ digit-none j)

-- ---- the codewords

module _ (k i : ℕ) where
  pub word_lt : first_word k i < 2 ^ (2 ^ k)
  unfolding first_word
  word_lt = number_lt (codeword 1 k (digit i)) (2 ^ k) (λ p l. codeword-small 1 k (digit i) p)

  pub word-digit : (p : ℕ) → p < 2 ^ k → digit (first_word k i) p ≡ codeword 1 k (digit i) p
  unfolding first_word
  word-digit = digit-of refl (λ p l. codeword-small 1 k (digit i) p)

pub next-is : (k i : ℕ) → 1 ≤ i → i < 2 ^ 64
    → bit_xor (first_word k (i - 1)) (first_word k (2 ^ suc (count_trailing_zeros 64 i) - 1)) ≡ first_word k i
unfolding first_word
next-is k i h l =
    let c = carried 64 i in
    let a = first_word k (i - 1) in
    let b = first_word k c in
    number_of (bit_xor a b) (2 ^ k) (xor_lt (2 ^ k) a b (word_lt k (i - 1)) (word_lt k c)) (λ p u.
    xor-digit a b p
    ∙ ap₂ (λ (x y : ℕ). (x + y) % 2) (word-digit k (i - 1) p u) (word-digit k c p u)
    ∙ sym (codeword-add 1 k (digit (i - 1)) (digit c) p)
    ∙ codeword-cong 1 k (λ j. digit (i - 1) j + digit c j) (digit i) (λ j m. omega (arith, counted 64 i h l j)) p)

-- ---- the table

-- the codeword of message i, where the masks are given
abbrev word_by : ℕ → List ℕ → ℕ → ℕ
word_by k os i = number (2 ^ k) (λ p. sum_to (k + 1) (λ j. given (lies_in (get_or os j 0) p) (digit i j)) % 2)

by-masks : {k : ℕ} {os ps ds : List ℕ} → Right k os ps ds → dimension 1 k ≡ k + 1 → (i : ℕ) → word_by k os i ≡ first_word k i
unfolding first_word codeword
by-masks {k = k} t e i =
    ap₂ (λ (n : ℕ) (xs : List ℕ). number (2 ^ k) (λ p. sum_to n (λ j. given (lies_in (get_or xs j 0) p) (digit i j)) % 2)) (sym e) t.orders

-- as the code has them
abbrev steps : List ℕ
steps = 18446744073709551615 ∷ 6148914691236517205 ∷ 11068046444225730969 ∷ 7595718147998050665 ∷ 10838359358483043945 ∷ 7608433999976240745 ∷ 10838310072981296745 ∷ []

computed : steps ≡ table 7 (λ z. word_by 6 (masks_of right-64) (2 ^ suc z - 1))
unfolding table sum_to
computed = refl

-- RM(1,k) has k + 1 message bits
bits-64 : dimension 1 6 ≡ 7
unfolding dimension masks of_weight ones table
bits-64 = refl

pub bits_are : (k : ℕ) → near_kind k ≡ true → dimension 1 k ≡ k + 1
unfolding dimension masks of_weight ones table
bits_are = each-near (λ k. dimension 1 k ≡ k + 1) refl refl refl

pub steps-are : steps ≡ step_words
unfolding step_words first_word
steps-are = computed ∙ table-ext 7 (λ z l. by-masks right-64 bits-64 (2 ^ suc z - 1))

-- the masks of a kind, by which are tested: message 0, and each step, which is the low end of that in the table
record Tested (k : ℕ) : Type 0 where
  all : List ℕ
  are : (i : ℕ) → word_by k all i ≡ first_word k i
  none : word_by k all 0 ≡ 0
  low : table 7 (λ z. get_or steps z 0 % 2 ^ (2 ^ k)) ≡ table 7 (λ z. word_by k all (2 ^ suc z - 1))

tested : (k : ℕ) → near_kind k ≡ true → Tested k
unfolding table sum_to
tested k kind = each-near (λ k. dimension 1 k ≡ k + 1 → Tested k)
    (λ e. record { all = masks_of right-8; are = by-masks right-8 e; none = refl; low = refl })
    (λ e. record { all = masks_of right-16; are = by-masks right-16 e; none = refl; low = refl })
    (λ e. record { all = masks_of right-32; are = by-masks right-32 e; none = refl; low = refl })
    k kind (bits_are k kind)

module _ (k : ℕ) (kind : near_kind k ≡ true) where
  pub word_none : 0 ≡ first_word k 0
  word_none = let t = tested k kind in sym t.none ∙ t.are 0

  pub step_is : (z : ℕ) → z < 7 → get_or step_words z 0 % 2 ^ (2 ^ k) ≡ first_word k (2 ^ suc z - 1)
  step_is z h =
      let t = tested k kind in
      ap (λ (xs : List ℕ). get_or xs z 0 % 2 ^ (2 ^ k)) (sym steps-are)
      ∙ sym (table_at (λ z. get_or steps z 0 % 2 ^ (2 ^ k)) 7 z h)
      ∙ ap (λ (xs : List ℕ). get_or xs z 0) t.low
      ∙ table_at (λ z. word_by k t.all (2 ^ suc z - 1)) 7 z h
      ∙ t.are (2 ^ suc z - 1)
