-- The numbers below 2 ^ message_bits run over the messages of a kind and grade, each once. For any kind and grade. Assumes nothing.
use Prim.Native.Nat.{ℕ, ◌*◌, ◌/◌, ◌%◌, ◌^◌, ◌≤◌, ◌<◌}
use mathlib.Core.Path.{◌≡◌, sym, ap, ◌∙◌}
use mathlib.Core.List.{List}
use native.Mathlib.Nat.{mod-lt, div-eq_of_lt, lt_of_lt_of_le}
use native.Mathlib.Decide.{dec_lt}
use native.Mathlib.Omega.{arith}
use lib.Dec.{lit<}
use lib.Pow.{pow_mono}
use Rattle.bits.specs.Number.{number}
use Rattle.bits.specs.Message.{message_bit, byte_of, bytes_of}
use Rattle.bits.proofs.Message.{number_lt, number_bit, number_of, message-small, length-bytes, byte-lt, bits_of_bytes, bytes-ext, bytes-of-bits, bit_past}
use Rattle.frames.specs.Kind.{message_bits, message_bytes}
use Rattle.frames.specs.Message.{Message}
use Rattle.frames.proofs.One.{table_below}
use Rattle.frames.proofs.Limits.{bytes-hold}
use Rattle.balance.specs.Total.{message_of, messages, EachOnce}

-- the number whose bits are those of the message
abbrev pub index_of : ℕ → ℕ → List ℕ → ℕ
index_of k b bytes = number (message_bits k b) (message_bit bytes)

-- a number has no bits past its width
no-bit : (i w j : ℕ) → i < 2 ^ w → w ≤ j → i / 2 ^ j % 2 ≡ 0
no-bit i w j h l = ap (λ (x : ℕ). x % 2) (div-eq_of_lt (lt_of_lt_of_le h (pow_mono {i = w} {j = j} l)))

module _ (k b : ℕ) where
  abbrev N : ℕ
  N = message_bits k b

  -- bit j of message i
  message-of-bit : (i : ℕ) → i < messages k b → (j : ℕ) → message_bit (message_of k b i) j ≡ i / 2 ^ j % 2
  unfolding message_of
  message-of-bit i h j = go (dec_lt j (8 * message_bytes k b))
    where
      bits : ℕ → ℕ
      bits j = i / 2 ^ j % 2

      go : Dec (j < 8 * message_bytes k b) → message_bit (bytes_of (message_bytes k b) bits) j ≡ bits j
      go (yes l) = bits_of_bytes (message_bytes k b) bits (λ t l. mod-lt _ (lit< tt)) j l
      go (no t) =
          bit_past (bytes_of (message_bytes k b) bits) j (omega (arith, length-bytes (message_bytes k b) bits))
          ∙ sym (no-bit i N j h (omega (arith, bytes-hold k b)))

  -- it is a message
  number-message : (i : ℕ) → i < messages k b → Message k b (message_of k b i)
  unfolding message_of bytes_of
  number-message i h = record {
    long = length-bytes (message_bytes k b) (λ j. i / 2 ^ j % 2);
    each = table_below 256 (byte_of (λ j. i / 2 ^ j % 2)) (message_bytes k b) (lit< tt) (λ j. byte-lt (λ t. i / 2 ^ t % 2) j (λ t l. mod-lt _ (lit< tt)));
    spare = λ j l. message-of-bit i h j ∙ no-bit i N j h l;
  }

  -- it is one of the numbers
  pub index_below : (bytes : List ℕ) → index_of k b bytes < messages k b
  index_below bytes = number_lt (message_bit bytes) N (λ j l. message-small bytes j)

  -- from the number to the message and back
  pub index_back : (i : ℕ) → i < messages k b → index_of k b (message_of k b i) ≡ i
  index_back i h = sym (number_of i N h (λ j l. sym (message-of-bit i h j)))

  pub message-back : (bytes : List ℕ) → Message k b bytes → message_of k b (index_of k b bytes) ≡ bytes
  unfolding message_of
  message-back bytes m =
      bytes-ext (message_bytes k b) (λ j. index_of k b bytes / 2 ^ j % 2) (message_bit bytes) (λ j l. bit j (dec_lt j N))
      ∙ ap (λ (n : ℕ). bytes_of n (message_bit bytes)) (sym m.long) ∙ bytes-of-bits bytes m.each
    where
      bit : (j : ℕ) → Dec (j < N) → index_of k b bytes / 2 ^ j % 2 ≡ message_bit bytes j
      bit j (yes l) = number_bit (message_bit bytes) N (λ t h. message-small bytes t) j l
      bit j (no t) = no-bit (index_of k b bytes) N j (index_below bytes) (omega arith) ∙ sym (m.spare j (omega arith))

  -- EACH MESSAGE has exactly one number, and each number is a message's
  pub each-once : EachOnce k b
  each-once = record {
    message = number-message;
    once = λ bytes m. record {
      i = index_of k b bytes;
      below = index_below bytes;
      is = message-back bytes m;
      only = λ j h e. sym (index_back j h) ∙ ap (index_of k b) e;
    };
  }
