-- Bytes and their bits: each determines the other, and bits are put in a row. Assumes nothing.
use Prim.Native.Nat.{ℕ, zero, suc, ◌+◌, ◌-◌, ◌*◌, ◌/◌, ◌%◌, ◌^◌, ◌≤◌, ◌<◌}
use mathlib.Core.Path.{◌≡◌, sym, ap, ap₂, ◌∙◌, subst}
use mathlib.Core.Bool.{Bool, true, false, ◌&&◌, and-false, cond}
use mathlib.Core.List.{List}
use native.Mathlib.Nat.{zero-mul, mod-lt, pow-suc, add_comm, mul-le-mul_right, le_of_suc-le-suc, div-one, mod-one, mod-eq_of_lt, zero-div}
use native.Mathlib.Decide.{dec_lt}
use native.Mathlib.Omega.{arith}
use lib.Dec.{leb, ltb, lit<}
use lib.Pow.{high, mod-pow-add, pow-add, shr-shr}
use lib.Bits.{block_half, block_odd}
use lib.ListN.{length, get_or, get_or-eq_default}
use lib.Seq.{ext_get_or}
use borrow.Author.Tests.{le-leb, lt-leb, lt-ltb, le-ltb}
use Rattle.bits.specs.Number.{sum_to, table, number}
use Rattle.bits.specs.Message.{message_bit, byte_of, bytes_of, with_bits}
use Rattle.bits.proofs.Sum.{sum-ext, sum-split, sum-zero, sum-times}
use Rattle.bits.proofs.Table.{length-table, table_at, table-ext}

pub number_lt : (b : ℕ → ℕ) (n : ℕ) → ((i : ℕ) → i < n → b i < 2) → number n b < 2 ^ n
unfolding sum_to
number_lt b zero h = omega arith
number_lt b (suc n) h =
    rw pow-suc (omega (arith, number_lt b n (λ i l. h i (omega arith)), mul-le-mul_right (2 ^ n) (le_of_suc-le-suc (h n (omega arith)))))

div-suc : (x i : ℕ) → x / 2 ^ suc i ≡ x / 2 / 2 ^ i
div-suc x i = sym (shr-shr x 1 i ∙ ap (λ (j : ℕ). x / 2 ^ j) (omega arith))

-- digit i of a number, under a higher digit
pub under : (x c n i : ℕ) → i < n → (c * 2 ^ n + x) / 2 ^ i % 2 ≡ x / 2 ^ i % 2
under x c (suc n) zero h = ap (λ (y : ℕ). y % 2) (div-one (c * 2 ^ suc n + x)) ∙ block_odd c n x ∙ sym (ap (λ (y : ℕ). y % 2) (div-one x))
under x c (suc n) (suc i) h =
    ap (λ (y : ℕ). y % 2) (div-suc (c * 2 ^ suc n + x) i ∙ ap (λ (y : ℕ). y / 2 ^ i) (block_half c n x))
    ∙ under (x / 2) c n i (omega arith) ∙ sym (ap (λ (y : ℕ). y % 2) (div-suc x i))
under x c zero i h = absurd (omega arith)

pub number_bit : (b : ℕ → ℕ) (n : ℕ) → ((i : ℕ) → i < n → b i < 2) → (i : ℕ) → i < n → number n b / 2 ^ i % 2 ≡ b i
unfolding sum_to
number_bit b zero h i l = absurd (omega arith)
number_bit b (suc n) h i l = go (number_bit b n less i) (dec_lt i n)
  where
    less : (i : ℕ) → i < n → b i < 2
    less i l = h i (omega arith)

    go : (i < n → number n b / 2 ^ i % 2 ≡ b i) → Dec (i < n) → (number n b + b n * 2 ^ n) / 2 ^ i % 2 ≡ b i
    go ih (yes k) = rw (add_comm (number n b) (b n * 2 ^ n)) (under (number n b) (b n) n i k ∙ ih k)
    go ih (no k) =
        let e : i ≡ n = omega arith in
        subst (λ (j : ℕ). (number n b + b n * 2 ^ n) / 2 ^ j % 2 ≡ b j) (sym e)
        (rw (add_comm (number n b) (b n * 2 ^ n), high (b n) n (number_lt b n less)) (mod-eq_of_lt (h n (omega arith))))

-- the low n digits of x, put together again
pub number_digits : (x n : ℕ) → number n (λ i. x / 2 ^ i % 2) ≡ x % 2 ^ n
unfolding sum_to
number_digits x zero = sym (mod-one x)
number_digits x (suc n) =
    let e : 1 + n ≡ suc n = omega arith in
    omega (arith, number_digits x n, mod-pow-add x 1 n, ap (λ (j : ℕ). x % 2 ^ j) e)

-- ---- the number of given bits is the only one

pub number-ext : (n : ℕ) {f g : ℕ → ℕ} → ((i : ℕ) → i < n → f i ≡ g i) → number n f ≡ number n g
number-ext n h = sum-ext n (λ i l. ap (λ (x : ℕ). x * 2 ^ i) (h i l))

-- no bit is set past the first m
pub number-shorter : (m n : ℕ) {f : ℕ → ℕ} → m ≤ n → ((i : ℕ) → m ≤ i → f i ≡ 0) → number n f ≡ number m f
number-shorter m n {f} h none =
    let e : n ≡ m + (n - m) = omega arith in
    ap (λ (k : ℕ). number k f) e
    ∙ omega (
      arith,
      sum-split m (n - m) (λ i. f i * 2 ^ i),
      sum-zero (n - m) (λ i. f (m + i) * 2 ^ (m + i)) (λ i l. ap (λ (x : ℕ). x * 2 ^ (m + i)) (none (m + i) (omega arith)) ∙ zero-mul (2 ^ (m + i))),
    )

-- w bits, and n bits above them
pub number-join : (w n : ℕ) (f : ℕ → ℕ) → 2 ^ w * number n (λ t. f (w + t)) + number w f ≡ number (w + n) f
number-join w n f = omega (arith, sum-split w n (λ p. f p * 2 ^ p), above)
  where
    above : sum_to n (λ t. f (w + t) * 2 ^ (w + t)) ≡ 2 ^ w * number n (λ t. f (w + t))
    above = sum-ext n (λ t l. omega (arith, ap (λ (x : ℕ). f (w + t) * x) (pow-add 2 w t))) ∙ sum-times n (2 ^ w) (λ t. f (w + t) * 2 ^ t)

-- the low n digits of a number whose first n digits are given
pub number-mod : (w n : ℕ) {f : ℕ → ℕ} → ((i : ℕ) → i < n → w / 2 ^ i % 2 ≡ f i) → w % 2 ^ n ≡ number n f
number-mod w n h = sym (number_digits w n) ∙ number-ext n h

-- a number below 2 ^ n whose first n digits are given
pub number_of : (w n : ℕ) {f : ℕ → ℕ} → w < 2 ^ n → ((i : ℕ) → i < n → w / 2 ^ i % 2 ≡ f i) → w ≡ number n f
number_of w n l h = sym (mod-eq_of_lt l) ∙ number-mod w n h

-- and back: the digits of a number of given bits
pub digit-of : {w n : ℕ} {f : ℕ → ℕ} → w ≡ number n f → ((i : ℕ) → i < n → f i < 2) → (i : ℕ) → i < n → w / 2 ^ i % 2 ≡ f i
digit-of {n = n} {f = f} e small i l = ap (λ (x : ℕ). x / 2 ^ i % 2) e ∙ number_bit f n small i l

-- ---- bytes and bits

pub message-small : (bytes : List ℕ) (k : ℕ) → message_bit bytes k < 2
unfolding message_bit
message-small bytes k = mod-lt _ (lit< tt)

pub length-bytes : (n : ℕ) (bit : ℕ → ℕ) → length (bytes_of n bit) ≡ n
unfolding bytes_of
length-bytes n bit = length-table (byte_of bit) n

pub byte-lt : (bit : ℕ → ℕ) (j : ℕ) → ((i : ℕ) → i < 8 → bit (8 * j + i) < 2) → byte_of bit j < 256
unfolding byte_of
byte-lt bit j h = number_lt (λ i. bit (8 * j + i)) 8 h

-- the bits of the bytes of bits are these bits
pub bits_of_bytes : (n : ℕ) (bit : ℕ → ℕ) → ((k : ℕ) → k < 8 * n → bit k < 2) → (k : ℕ) → k < 8 * n → message_bit (bytes_of n bit) k ≡ bit k
unfolding message_bit bytes_of byte_of
bits_of_bytes n bit h k l =
    let j : k / 8 < n = omega arith in
    let i : k % 8 < 8 = omega arith in
    let e : 8 * (k / 8) + k % 8 ≡ k = omega arith in
    ap (λ (x : ℕ). x / 2 ^ (k % 8) % 2) (table_at (byte_of bit) n (k / 8) j)
    ∙ number_bit (λ i. bit (8 * (k / 8) + i)) 8 (λ i l. h (8 * (k / 8) + i) (omega arith)) (k % 8) i ∙ ap bit e

-- bytes with the same bits are the same
pub bytes-ext : (n : ℕ) (f g : ℕ → ℕ) → ((k : ℕ) → k < 8 * n → f k ≡ g k) → bytes_of n f ≡ bytes_of n g
unfolding bytes_of byte_of
bytes-ext n f g h = table-ext n (λ j l. sum-ext 8 (λ i hi. ap (λ (x : ℕ). x * 2 ^ i) (h (8 * j + i) (omega arith))))

-- bit p of byte j
pub bit-of-byte : (xs : List ℕ) (j p : ℕ) → p < 8 → message_bit xs (8 * j + p) ≡ get_or xs j 0 / 2 ^ p % 2
unfolding message_bit
bit-of-byte xs j p h =
    let a : (8 * j + p) / 8 ≡ j = omega arith in
    let b : (8 * j + p) % 8 ≡ p = omega arith in
    ap₂ (λ (a b : ℕ). get_or xs a 0 / 2 ^ b % 2) a b

pub byte-of-bits : (xs : List ℕ) (j : ℕ) → get_or xs j 0 < 256 → byte_of (message_bit xs) j ≡ get_or xs j 0
unfolding byte_of
byte-of-bits xs j h =
    sum-ext 8 (λ i hi. ap (λ (x : ℕ). x * 2 ^ i) (bit-of-byte xs j i hi)) ∙ number_digits (get_or xs j 0) 8 ∙ mod-eq_of_lt h

-- a table of the bytes' values is the bytes
pub bytes-are : (xs : List ℕ) (f : ℕ → ℕ) → ((j : ℕ) → j < length xs → f j ≡ get_or xs j 0) → table (length xs) f ≡ xs
bytes-are xs f h =
    ext_get_or 0 _ xs (length-table f (length xs)) (λ j l.
    let k : j < length xs = omega (arith, length-table f (length xs), l) in table_at f (length xs) j k ∙ h j k)

-- bytes are the bytes of their bits
pub bytes-of-bits : (xs : List ℕ) → ((j : ℕ) → get_or xs j 0 < 256) → bytes_of (length xs) (message_bit xs) ≡ xs
unfolding bytes_of
bytes-of-bits xs h = bytes-are xs (byte_of (message_bit xs)) (λ j l. byte-of-bits xs j (h j))

-- past the end every bit is 0
pub bit_past : (xs : List ℕ) (k : ℕ) → 8 * length xs ≤ k → message_bit xs k ≡ 0
unfolding message_bit
bit_past xs k h =
    let l : length xs ≤ k / 8 = omega arith in
    ap (λ (x : ℕ). x / 2 ^ (k % 8) % 2) (get_or-eq_default xs 0 l) ∙ ap (λ (x : ℕ). x % 2) (zero-div (2 ^ (k % 8)))

-- ---- bits in a row

cond_small : (t : Bool) (x y : ℕ) → x < 2 → y < 2 → cond t x y < 2
cond_small true x y a b = a
cond_small false x y a b = b

module _ (from count : ℕ) (new old : ℕ → ℕ) where
  pub with_in : (k : ℕ) → k < count → with_bits from count new old (from + k) ≡ new k
  unfolding with_bits
  with_in k h = rw (le-leb from (from + k) (omega arith), lt-ltb (from + k) (from + count) (omega arith)) (ap new (omega arith))

  pub with-before : (i : ℕ) → i < from → with_bits from count new old i ≡ old i
  unfolding with_bits
  with-before i h = rw (lt-leb from i h)

  pub with-past : (i : ℕ) → from + count ≤ i → with_bits from count new old i ≡ old i
  unfolding with_bits
  with-past i h = rw (le-ltb i (from + count) h, and-false)

  pub with-small : ((k : ℕ) → new k < 2) → ((i : ℕ) → old i < 2) → (i : ℕ) → with_bits from count new old i < 2
  unfolding with_bits
  with-small a b i = cond_small (leb from i && ltb i (from + count)) (new (i - from)) (old i) (a (i - from)) (b i)

module _ (from : ℕ) (new old : ℕ → ℕ) where
  pub with_none : (i : ℕ) → with_bits from 0 new old i ≡ old i
  with_none i = go (dec_lt i from)
    where
      go : Dec (i < from) → with_bits from 0 new old i ≡ old i
      go (yes l) = with-before from 0 new old i l
      go (no n) = with-past from 0 new old i (omega arith)
