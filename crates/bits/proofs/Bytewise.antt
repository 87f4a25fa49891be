-- Bits put into bytes, byte by byte: bytes put in a row, and bytes taken. Assumes nothing.
use Prim.Native.Nat.{ℕ, suc, ◌+◌, ◌-◌, ◌*◌, ◌/◌, ◌%◌, ◌^◌, ◌≤◌, ◌<◌}
use mathlib.Core.Path.{◌≡◌, refl, sym, ap, ap₂, ◌∙◌}
use mathlib.Core.List.{List, [], ◌∷◌, reverse}
use Rattle.std.proofs.Common.{fold}
use borrow.Rule.Slice.PartMut.{put_mid}
use Rattle.std.proofs.lemmas.List.Sums.{fold_push}
use Rattle.std.proofs.lemmas.Nat.{shl_whole, or_shifted}
use lib.Bits.{bit_or}
use Rattle.bits.specs.Number.{sum_to, table, number}
use native.Mathlib.Decide.{dec_lt}
use native.Mathlib.Omega.{arith}
use lib.Pow.{pow_mono}
use Rattle.std.proofs.lemmas.List.{reverse-append, places}
use lib.ListN.{length, get_or, take, drop, length-drop, length-take, get_or-eq_default}
use lib.Seq.{length-take-le, get_or-take, get_or-drop}
use Rattle.bits.specs.Message.{message_bit, byte_of, bytes_of, with_bits}
use Rattle.bits.proofs.Message.{number_lt, number_digits, byte-of-bits, bytes-are, number-ext, number_of, number-join, message-small, bit-of-byte, with_in, with-before, with-past}
use Rattle.bits.proofs.Digits.{digit, digit-from}

-- ---- bytes put in a row

-- byte i of a number
pub digits-byte : (x i : ℕ) → x / 2 ^ (8 * i) % 256 ≡ byte_of (digit x) i
unfolding byte_of
digits-byte x i = sym (number_digits (x / 2 ^ (8 * i)) 8) ∙ number-ext 8 (λ p l. digit-from x (8 * i) p)

-- the bytes ys of new bits, put from byte `at` on
module _ (xs ys : List ℕ) (at n : ℕ) (new : ℕ → ℕ) (room : at + n ≤ length xs) (long : length ys ≡ n)
    (bytes : (j : ℕ) → get_or (put_mid at n xs ys) j 0 < 256) (is : (i : ℕ) → i < n → get_or ys i 0 ≡ byte_of new i) where
  -- the bits once they are put
  abbrev bits_put : ℕ → ℕ
  bits_put = with_bits (8 * at) (8 * n) new (message_bit xs)

  below : (j : ℕ) → j < at → get_or (put_mid at n xs ys) j 0 ≡ get_or xs j 0
  below j h = grind (arith, places)

  within : (j : ℕ) → at ≤ j → j < at + n → get_or (put_mid at n xs ys) j 0 ≡ get_or ys (j - at) 0
  within j h k = grind (arith, places)

  past : (j : ℕ) → at + n ≤ j → get_or (put_mid at n xs ys) j 0 ≡ get_or xs j 0
  past j h = grind (arith, places)

  -- byte j
  byte_at : (j : ℕ) → Dec (j < at) → Dec (j < at + n) → byte_of bits_put j ≡ get_or (put_mid at n xs ys) j 0
  unfolding byte_of
  byte_at j (yes d) u =
      number-ext 8 (λ p h. with-before (8 * at) (8 * n) new (message_bit xs) (8 * j + p) (omega arith)) ∙ byte-of-bits xs j (omega (arith, below j d, bytes j))
      ∙ sym (below j d)
  byte_at j (no d) (yes u) =
      number-ext 8 (λ p h.
      let e : 8 * j + p ≡ 8 * at + (8 * (j - at) + p) = omega arith in
      ap bits_put e ∙ with_in (8 * at) (8 * n) new (message_bit xs) (8 * (j - at) + p) (omega arith))
      ∙ sym (is (j - at) (omega arith)) ∙ sym (within j (omega arith) u)
  byte_at j (no d) (no u) =
      number-ext 8 (λ p h. with-past (8 * at) (8 * n) new (message_bit xs) (8 * j + p) (omega arith)) ∙ byte-of-bits xs j (omega (arith, past j (omega arith), bytes j))
      ∙ sym (past j (omega arith))

  pub bytes_put : put_mid at n xs ys ≡ bytes_of (length xs) bits_put
  unfolding bytes_of
  bytes_put =
      let e : length (put_mid at n xs ys) ≡ length xs = grind (arith, places) in
      sym (bytes-are (put_mid at n xs ys) (byte_of bits_put) (λ j l. byte_at j (dec_lt j at) (dec_lt j (at + n))))
      ∙ ap (λ (k : ℕ). table k (byte_of bits_put)) e

-- only the first new bits count
module _ (from count : ℕ) (f g old : ℕ → ℕ) (h : (k : ℕ) → k < count → f k ≡ g k) where
  pub with-ext : (i : ℕ) → with_bits from count f old i ≡ with_bits from count g old i
  with-ext i = go (dec_lt i from) (dec_lt i (from + count))
    where
      go : Dec (i < from) → Dec (i < from + count) → with_bits from count f old i ≡ with_bits from count g old i
      go (yes l) d = with-before from count f old i l ∙ sym (with-before from count g old i l)
      go (no k) (yes l) =
          let e : i ≡ from + (i - from) = omega arith in
          ap (with_bits from count f old) e ∙ with_in from count f old (i - from) (omega arith) ∙ h (i - from) (omega arith)
          ∙ sym (ap (with_bits from count g old) e ∙ with_in from count g old (i - from) (omega arith))
      go (no k) (no l) = with-past from count f old i (omega arith) ∙ sym (with-past from count g old i (omega arith))

-- ---- bytes taken from the last to the first

-- a byte put below the others, in a number of 64 digits
abbrev pub joined : ℕ → ℕ → ℕ
joined w byte = bit_or (w * 256 % 2 ^ 64) byte

module _ (x : ℕ) (xs : List ℕ) where
  after : (t : ℕ) → message_bit (x ∷ xs) (8 + t) ≡ message_bit xs t
  unfolding message_bit
  after t =
      let a : (8 + t) / 8 ≡ suc (t / 8) = omega arith in
      let b : (8 + t) % 8 ≡ t % 8 = omega arith in
      ap₂ (λ (a b : ℕ). get_or (x ∷ xs) a 0 / 2 ^ b % 2) a b

  lowest : x < 256 → x ≡ number 8 (message_bit (x ∷ xs))
  lowest h = number_of x 8 h (λ i l. let e : 8 * 0 + i ≡ i = omega arith in sym (bit-of-byte (x ∷ xs) 0 i l) ∙ ap (message_bit (x ∷ xs)) e)

  joined_first : x < 256 → length xs < 8 → joined (number (8 * length xs) (message_bit xs)) x ≡ number (8 * suc (length xs)) (message_bit (x ∷ xs))
  joined_first h l =
      let n : ℕ = 8 * length xs in
      let w : ℕ = number n (message_bit xs) in
      let few : w < 2 ^ 56 =
      omega (arith, number_lt (message_bit xs) n (λ i _. message-small xs i), pow_mono {i = n} {j = 56} (omega arith)) in
      let up : 8 + n ≡ 8 * suc (length xs) = omega arith in
      ap (λ (y : ℕ). bit_or y x) (shl_whole w 56 8 64 few (omega arith)) ∙ or_shifted w 8 x h
      ∙ omega (arith, number-join 8 n (message_bit (x ∷ xs)), lowest h, number-ext n (λ t _. after t), ap (λ (k : ℕ). number k (message_bit (x ∷ xs))) up)

pub fold-joined : (xs : List ℕ) → ((j : ℕ) → get_or xs j 0 < 256) → length xs ≤ 8 → fold joined 0 (reverse xs) ≡ number (8 * length xs) (message_bit xs)
unfolding sum_to
fold-joined [] bytes l = refl
fold-joined (x ∷ xs) bytes l =
    ap (fold joined 0) (reverse-append (x ∷ []) xs) ∙ fold_push joined 0 (reverse xs) x ∙ ap (λ (w : ℕ). joined w x) (fold-joined xs (λ j. bytes (suc j)) (omega arith))
    ∙ joined_first x xs (bytes 0) (omega arith)

-- n bytes from byte `first` on: a part of the bytes has their bits
pub held-part : (xs : List ℕ) (first n : ℕ) → ((j : ℕ) → get_or xs j 0 < 256) → n ≤ 8 → first + n ≤ length xs
    → fold joined 0 (reverse (take n (drop first xs))) ≡ number (8 * n) (λ t. message_bit xs (8 * first + t))
unfolding message_bit
held-part xs first n bytes l room =
    let part : List ℕ = take n (drop first xs) in
    let long : length part ≡ n = length-take-le n (drop first xs) (rw length-drop (omega arith)) in
    fold-joined part (λ j. go j (dec_lt j n)) (omega (arith, long)) ∙ ap (λ (k : ℕ). number (8 * k) (message_bit part)) long
    ∙ number-ext (8 * n) (λ t h.
    let a : (8 * first + t) / 8 ≡ first + t / 8 = omega arith in
    let b : (8 * first + t) % 8 ≡ t % 8 = omega arith in
    let k : t / 8 < n = omega arith in
    rw (a, b) (ap (λ (x : ℕ). x / 2 ^ (t % 8) % 2) (at (t / 8) k)))
  where
    at : (j : ℕ) → j < n → get_or (take n (drop first xs)) j 0 ≡ get_or xs (first + j) 0
    at j h = get_or-take n (drop first xs) j 0 h ∙ get_or-drop first xs j 0

    go : (j : ℕ) → Dec (j < n) → get_or (take n (drop first xs)) j 0 < 256
    go j (yes h) = rw (at j h) (bytes (first + j))
    go j (no h) = rw (get_or-eq_default (take n (drop first xs)) 0 {n = j} (omega (arith, length-take n (drop first xs)))) (omega arith)
