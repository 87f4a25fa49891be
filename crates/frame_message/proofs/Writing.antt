-- A row of bits written into bytes, whole bytes at a time, with the bits of a byte that is begun carried in a number. Assumes nothing.
use Prim.Native.Nat.{ℕ, ◌+◌, ◌*◌, ◌-◌, ◌/◌, ◌%◌, ◌^◌, ◌≤◌, ◌<◌}
use mathlib.Core.Path.{◌≡◌, sym, ap, ap₂, ◌∙◌}
use mathlib.Core.List.{List}
use native.Mathlib.Decide.{dec_lt}
use native.Mathlib.Nat.{mul_comm}
use native.Mathlib.Omega.{arith}
use lib.Bits.{bit_xor, xor_comm, xor_shifted}
use lib.ListN.{length, get_or, get_or-eq_default}
use lib.Pow.{high}
use Rattle.bits.specs.Number.{number}
use Rattle.bits.specs.Message.{message_bit, bytes_of, with_bits}
use Rattle.bits.proofs.Message.{message-small, length-bytes, bits_of_bytes, bytes-ext, bytes-of-bits, number_lt, number-ext, number-join, digit-of}
use Rattle.bits.proofs.Message.{with_in, with-before, with-past, with-small, with_none}
use Rattle.bits.proofs.Bytewise.{with-ext}
use Rattle.bits.proofs.Digits.{digit, digit-past, moved_up}
use Rattle.block_reading.proofs.BitRows.{Bits}
use Rattle.frame_message.specs.Written.{written_over}

-- the entries of a row
abbrev pub entry : List ℕ → ℕ → ℕ
entry row t = get_or row t 0

-- `at` bytes of the row are written, and the next `over` bits carried
pub record Carried (row before : List ℕ) (at over rest : ℕ) (out : List ℕ) : Type 0 where
  pub bytes : out ≡ written_over at row before
  pub held : rest ≡ number over (λ t. entry row (8 * at + t))

pub written-length : (n : ℕ) (row before : List ℕ) → length (written_over n row before) ≡ length before
unfolding written_over
written-length n row before = length-bytes (length before) (with_bits 0 (8 * n) (entry row) (message_bit before))

pub carried-length : {row before out : List ℕ} {at over rest : ℕ} → Carried row before at over rest out → length out ≡ length before
carried-length {row} {before} {at = at} c = ap length c.bytes ∙ written-length at row before

-- ---- none written, and all

-- bits of the first byte alone
pub carried_first : (row before : List ℕ) (over rest : ℕ) → ((j : ℕ) → get_or before j 0 < 256) → rest ≡ number over (λ t. entry row (0 + t))
    → Carried row before 0 over rest before
unfolding written_over
carried_first row before over rest each is = record {
  bytes = sym (bytes-ext (length before) _ _ (λ i l. with_none 0 (entry row) (message_bit before) i) ∙ bytes-of-bits before each);
  held = is;
}

below : (n : ℕ) (new old : ℕ → ℕ) (i : ℕ) → i < 8 * n → with_bits 0 (8 * n) new old i ≡ new i
below n new old i l = let e : i ≡ 0 + i = omega arith in ap (with_bits 0 (8 * n) new old) e ∙ with_in 0 (8 * n) new old i l

-- every byte
pub written_all : (n : ℕ) (row before : List ℕ) → length before ≤ n → written_over n row before ≡ bytes_of (length before) (entry row)
unfolding written_over
written_all n row before h = bytes-ext (length before) _ _ (λ i l. below n (entry row) (message_bit before) i (omega arith))

-- the same of a row with the same first bits
pub carried-ext : {row row₂ before out : List ℕ} {at over rest : ℕ} → ((i : ℕ) → i < 8 * at + over → entry row i ≡ entry row₂ i)
    → Carried row before at over rest out → Carried row₂ before at over rest out
unfolding written_over
carried-ext {row} {row₂} {before} {at = at} {over = over} h c = record {
  bytes = c.bytes ∙ bytes-ext (length before) _ _ (λ i l. with-ext 0 (8 * at) (entry row) (entry row₂) (message_bit before) (λ t k. h t (omega arith)) i);
  held = c.held ∙ number-ext over (λ t l. h (8 * at + t) (omega arith));
}

-- ---- more bytes

module _ (row before out : List ℕ) (small : Bits row) (at n v : ℕ) (so : out ≡ written_over at row before)
    (is : (t : ℕ) → t < 8 * n → digit v t ≡ entry row (8 * at + t)) where
  -- the bits that were written
  bit-now : (i : ℕ) → i < 8 * length before → message_bit out i ≡ with_bits 0 (8 * at) (entry row) (message_bit before) i
  unfolding written_over
  bit-now i l =
      ap (λ (x : List ℕ). message_bit x i) so
      ∙ bits_of_bytes (length before) (with_bits 0 (8 * at) (entry row) (message_bit before))
      (λ j h. with-small 0 (8 * at) (entry row) (message_bit before) small (message-small before) j) i l

  bit-then : (i : ℕ) → i < 8 * length before → Dec (i < 8 * at) → Dec (i < 8 * (at + n))
      → with_bits (8 * at) (8 * n) (digit v) (message_bit out) i ≡ with_bits 0 (8 * (at + n)) (entry row) (message_bit before) i
  bit-then i l (yes h) d =
      with-before (8 * at) (8 * n) (digit v) (message_bit out) i h ∙ bit-now i l ∙ below at (entry row) (message_bit before) i h
      ∙ sym (below (at + n) (entry row) (message_bit before) i (omega arith))
  bit-then i l (no h) (yes d) =
      let e : i ≡ 8 * at + (i - 8 * at) = omega arith in
      let inside : i - 8 * at < 8 * n = omega arith in
      ap (with_bits (8 * at) (8 * n) (digit v) (message_bit out)) e ∙ with_in (8 * at) (8 * n) (digit v) (message_bit out) (i - 8 * at) inside
      ∙ is (i - 8 * at) inside ∙ ap (entry row) (sym e) ∙ sym (below (at + n) (entry row) (message_bit before) i d)
  bit-then i l (no h) (no d) =
      with-past (8 * at) (8 * n) (digit v) (message_bit out) i (omega arith) ∙ bit-now i l
      ∙ with-past 0 (8 * at) (entry row) (message_bit before) i (omega arith)
      ∙ sym (with-past 0 (8 * (at + n)) (entry row) (message_bit before) i (omega arith))

  -- n bytes put behind those that are written
  written-more : bytes_of (length out) (with_bits (8 * at) (8 * n) (digit v) (message_bit out)) ≡ written_over (at + n) row before
  unfolding written_over
  written-more =
      ap (λ (m : ℕ). bytes_of m (with_bits (8 * at) (8 * n) (digit v) (message_bit out))) (ap length so ∙ written-length at row before)
      ∙ bytes-ext (length before) _ _ (λ i l. bit-then i l (dec_lt i (8 * at)) (dec_lt i (8 * (at + n))))

-- ---- a further piece, above the bits that are carried

-- two numbers whose bits do not meet, as one
joined : (f : ℕ → ℕ) (over len W rest x : ℕ) → ((t : ℕ) → f t < 2) → rest ≡ number over f → x ≡ number len (λ t. f (over + t)) → over + len ≤ W
    → bit_xor rest (x * 2 ^ over % 2 ^ W) ≡ number (over + len) f
joined f over len W rest x small low up room =
    ap (bit_xor rest) (moved_up x over len W (omega (arith, up, number_lt (λ t. f (over + t)) len (λ t l. small (over + t)))) room ∙ mul_comm (2 ^ over) x)
    ∙ xor_comm rest (x * 2 ^ over)
    ∙ xor_shifted x over rest (omega (arith, low, number_lt f over (λ t l. small t)))
    ∙ ap (λ (y : ℕ). y + rest) (mul_comm x (2 ^ over))
    ∙ ap₂ (λ (y z : ℕ). 2 ^ over * y + z) up low
    ∙ number-join over len f

-- what is above the first n bits
above : (f : ℕ → ℕ) (n m : ℕ) → ((t : ℕ) → f t < 2) → number (n + m) f / 2 ^ n ≡ number m (λ t. f (n + t))
above f n m small =
    ap (λ (x : ℕ). x / 2 ^ n) (sym (number-join n m f) ∙ ap (λ (y : ℕ). y + number n f) (mul_comm (2 ^ n) (number m (λ t. f (n + t)))))
    ∙ high (number m (λ t. f (n + t))) n (number_lt f n (λ t l. small t))

module _ {row before out : List ℕ} {at over rest : ℕ} (c : Carried row before at over rest out) (small : Bits row)
    (len x n over₂ : ℕ) (is : x ≡ number len (λ t. entry row (8 * at + over + t))) (split : over + len ≡ 8 * n + over₂) (room : over + len ≤ 64) where
  abbrev f : ℕ → ℕ
  f t = entry row (8 * at + t)

  abbrev v : ℕ
  v = bit_xor rest (x * 2 ^ over % 2 ^ 64)

  both : v ≡ number (8 * n + over₂) f
  both =
      joined f over len 64 rest x (λ t. small (8 * at + t)) c.held
      (is ∙ number-ext len (λ t l. let e : 8 * at + over + t ≡ 8 * at + (over + t) = omega arith in ap (entry row) e)) room
      ∙ ap (λ (m : ℕ). number m f) split

  -- the whole bytes of both are put, and what is above them is carried on
  pub carried-more : (out₂ : List ℕ) (rest₂ : ℕ) → out₂ ≡ bytes_of (length out) (with_bits (8 * at) (8 * n) (digit v) (message_bit out)) → rest₂ ≡ v / 2 ^ (8 * n)
      → Carried row before (at + n) over₂ rest₂ out₂
  carried-more out₂ rest₂ put left = record {
    bytes = put ∙ written-more row before out small at n v c.bytes
        (λ t l. digit-of {n = 8 * n + over₂} {f = f} both (λ t u. small (8 * at + t)) t (omega arith));
    held = left ∙ ap (λ (y : ℕ). y / 2 ^ (8 * n)) both ∙ above f (8 * n) over₂ (λ t. small (8 * at + t))
        ∙ number-ext over₂ (λ t l. let e : 8 * at + (8 * n + t) ≡ 8 * (at + n) + t = omega arith in ap (entry row) e);
  }

-- ---- the last byte

-- the bits that are carried at the end of a row, as a byte with spare bits 0
pub carried-last : {row before out : List ℕ} {at over rest : ℕ} → Carried row before at over rest out → Bits row → length row ≤ 8 * at + over → over ≤ 8
    → (out₂ : List ℕ) → out₂ ≡ bytes_of (length out) (with_bits (8 * at) 8 (digit rest) (message_bit out)) → out₂ ≡ written_over (at + 1) row before
carried-last {row} {before} {out} {at} {over} {rest} c small ends low out₂ put =
    put ∙ written-more row before out small at 1 rest c.bytes (λ t l. go t (dec_lt t over))
  where
    go : (t : ℕ) → Dec (t < over) → digit rest t ≡ entry row (8 * at + t)
    go t (yes h) = digit-of {n = over} {f = λ t. entry row (8 * at + t)} c.held (λ t u. small (8 * at + t)) t h
    go t (no h) =
        let less : rest < 2 ^ over = omega (arith, c.held, number_lt (λ t. entry row (8 * at + t)) over (λ t u. small (8 * at + t))) in
        digit-past rest over t less (omega arith) ∙ sym (get_or-eq_default row 0 {n = 8 * at + t} (omega arith))
