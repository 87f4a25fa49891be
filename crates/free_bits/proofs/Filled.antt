-- Fillings: their bits, that fixed bits stay, and that a message is one with free bits 0 and one filling. For any kind, grade and free count that leave
-- room. Assumes nothing.
use Prim.Native.Nat.{ℕ, ◌+◌, ◌-◌, ◌*◌, ◌/◌, ◌%◌, ◌^◌, ◌≤◌, ◌<◌}
use mathlib.Core.Path.{◌≡◌, refl, sym, ap, ◌∙◌, fun_ext}
use mathlib.Core.Bool.{Bool, true, false, ◌&&◌, cond}
use mathlib.Core.List.{List}
use native.Mathlib.Nat.{mod-lt, mod-eq_of_lt, zero-div}
use native.Mathlib.Decide.{dec_lt}
use native.Mathlib.Omega.{arith}
use lib.Dec.{leb, ltb, lit<}
use lib.ListN.{length}
use Rattle.bits.specs.Number.{number}
use Rattle.bits.specs.Message.{message_bit, byte_of, bytes_of, with_bits}
use Rattle.bits.proofs.Message.{message-small, number_lt, number_bit, number_digits, number-ext, length-bytes, byte-lt, bits_of_bytes, bytes-ext}
use Rattle.bits.proofs.Message.{bytes-of-bits, bit_past, with_in, with-before, with-past, with-small, with_none}
use Rattle.frames.specs.Kind.{message_bits, message_bytes}
use Rattle.frames.specs.Message.{Bytes, Message}
use Rattle.frames.specs.Free.{free_from, filled, filling, FreeMessage}
use Rattle.frames.proofs.Limits.{bytes-hold}
use Rattle.frames.proofs.One.{table_below}

-- bits put over bits that were put at the same place
with-over : (from count : ℕ) (new new' old : ℕ → ℕ) (i : ℕ) → with_bits from count new (with_bits from count new' old) i ≡ with_bits from count new old i
unfolding with_bits
with-over from count new new' old i = go (leb from i && ltb i (from + count))
  where
    go : (t : Bool) → cond t (new (i - from)) (cond t (new' (i - from)) (old i)) ≡ cond t (new (i - from)) (old i)
    go true = refl
    go false = refl

module _ (k b f : ℕ) where
  abbrev from : ℕ
  from = free_from k b f

  abbrev digits : ℕ → ℕ → ℕ
  digits φ t = φ / 2 ^ t % 2

  digits-small : (φ t : ℕ) → digits φ t < 2
  digits-small φ t = mod-lt _ (lit< tt)

  -- ---- bits of a filling, for any bytes

  pub filled-length : (φ : ℕ) (bytes : List ℕ) → length (filled k b f φ bytes) ≡ length bytes
  unfolding filled
  filled-length φ bytes = length-bytes (length bytes) (with_bits from f (digits φ) (message_bit bytes))

  filled-bit : (φ : ℕ) (bytes : List ℕ) (i : ℕ) → i < 8 * length bytes → message_bit (filled k b f φ bytes) i ≡ with_bits from f (digits φ) (message_bit bytes) i
  unfolding filled
  filled-bit φ bytes i h = bits_of_bytes (length bytes) (with_bits from f (digits φ) (message_bit bytes))
      (λ j l. with-small from f (digits φ) (message_bit bytes) (digits-small φ) (message-small bytes) j) i h

  -- its bytes are bytes
  pub filled-each : (φ : ℕ) (bytes : List ℕ) → Bytes (filled k b f φ bytes)
  unfolding filled bytes_of
  filled-each φ bytes = table_below 256 (byte_of new) (length bytes) (lit< tt) (λ j. byte-lt new j (λ i l. small (8 * j + i)))
    where
      new : ℕ → ℕ
      new = with_bits from f (digits φ) (message_bit bytes)

      small : (i : ℕ) → new i < 2
      small = with-small from f (digits φ) (message_bit bytes) (digits-small φ) (message-small bytes)

  -- a fixed bit stays
  pub filled-fixed : (φ : ℕ) (bytes : List ℕ) (i : ℕ) → i < from → message_bit (filled k b f φ bytes) i ≡ message_bit bytes i
  filled-fixed φ bytes i h = go (dec_lt i (8 * length bytes))
    where
      go : Dec (i < 8 * length bytes) → message_bit (filled k b f φ bytes) i ≡ message_bit bytes i
      go (yes l) = filled-bit φ bytes i l ∙ with-before from f (digits φ) (message_bit bytes) i h
      go (no t) = bit_past (filled k b f φ bytes) i (omega (arith, filled-length φ bytes)) ∙ sym (bit_past bytes i (omega arith))

  -- the later filling counts
  pub filled-twice : (φ ψ : ℕ) (bytes : List ℕ) → filled k b f φ (filled k b f ψ bytes) ≡ filled k b f φ bytes
  unfolding filled
  filled-twice φ ψ bytes =
      ap (λ (n : ℕ). bytes_of n (with_bits from f (digits φ) (message_bit (filled k b f ψ bytes)))) (filled-length ψ bytes)
      ∙ bytes-ext (length bytes) (with_bits from f (digits φ) (message_bit (filled k b f ψ bytes))) (with_bits from f (digits φ) (message_bit bytes))
      (λ i l. same i l ∙ with-over from f (digits φ) (digits ψ) (message_bit bytes) i)
    where
      same : (i : ℕ) → i < 8 * length bytes → with_bits from f (digits φ) (message_bit (filled k b f ψ bytes)) i ≡ with_bits from f (digits φ)
          (with_bits from f (digits ψ) (message_bit bytes)) i
      same i l = ap (λ (x : ℕ). cond (leb from i && ltb i (from + f)) (digits φ (i - from)) x) (filled-bit ψ bytes i l)

  -- bytes whose free bits already hold φ
  filled-as : (φ : ℕ) (bytes : List ℕ) → Bytes bytes → ((t : ℕ) → t < f → message_bit bytes (from + t) ≡ digits φ t) → filled k b f φ bytes ≡ bytes
  unfolding filled
  filled-as φ bytes each e =
      bytes-ext (length bytes) (with_bits from f (digits φ) (message_bit bytes)) (message_bit bytes) (λ i l. go i (dec_lt i from) (dec_lt i (from + f)))
      ∙ bytes-of-bits bytes each
    where
      go : (i : ℕ) → Dec (i < from) → Dec (i < from + f) → with_bits from f (digits φ) (message_bit bytes) i ≡ message_bit bytes i
      go i (yes l) t = with-before from f (digits φ) (message_bit bytes) i l
      go i (no s) (no t) = with-past from f (digits φ) (message_bit bytes) i (omega arith)
      go i (no s) (yes l) =
          let z : i ≡ from + (i - from) = omega arith in
          ap (with_bits from f (digits φ) (message_bit bytes)) z ∙ with_in from f (digits φ) (message_bit bytes) (i - from) (omega arith)
          ∙ sym (e (i - from) (omega arith)) ∙ ap (message_bit bytes) (sym z)

  -- ---- the filling of a message

  pub filling-below : (bytes : List ℕ) → filling k b f bytes < 2 ^ f
  unfolding filling
  filling-below bytes = number_lt (λ t. message_bit bytes (from + t)) f (λ t l. message-small bytes (from + t))

  -- a message is its own filling
  pub filled-filling : (bytes : List ℕ) → Bytes bytes → filled k b f (filling k b f bytes) bytes ≡ bytes
  unfolding filling
  filled-filling bytes each = filled-as (filling k b f bytes) bytes each
      (λ t l. sym (number_bit (λ t. message_bit bytes (from + t)) f (λ t l. message-small bytes (from + t)) t l))

  -- a message with free bits 0 is its filling 0
  pub filled-own : (bytes : List ℕ) → FreeMessage k b f bytes → filled k b f 0 bytes ≡ bytes
  filled-own bytes m = filled-as 0 bytes m.message.each (λ t l. m.free t l ∙ sym (ap (λ (x : ℕ). x % 2) (zero-div (2 ^ t))))

  -- filled, a message with free bits 0 gives it back when cleared
  pub filled-clear : (φ : ℕ) (bytes : List ℕ) → FreeMessage k b f bytes → filled k b f 0 (filled k b f φ bytes) ≡ bytes
  filled-clear φ bytes m = filled-twice 0 φ bytes ∙ filled-own bytes m

  module _ (room : f ≤ message_bits k b) where
    ends : from + f ≡ message_bits k b
    unfolding free_from
    ends = omega arith

    -- the free bits of a filling are those of the number
    pub filled-free : (φ : ℕ) (bytes : List ℕ) → length bytes ≡ message_bytes k b → (t : ℕ) → t < f
        → message_bit (filled k b f φ bytes) (from + t) ≡ φ / 2 ^ t % 2
    filled-free φ bytes long t h =
        filled-bit φ bytes (from + t) (omega (arith, ends, bytes-hold k b, long)) ∙ with_in from f (digits φ) (message_bit bytes) t h

    pub filling-filled : (φ : ℕ) (bytes : List ℕ) → length bytes ≡ message_bytes k b → φ < 2 ^ f → filling k b f (filled k b f φ bytes) ≡ φ
    unfolding filling
    filling-filled φ bytes long h = number-ext f (λ t l. filled-free φ bytes long t l) ∙ number_digits φ f ∙ mod-eq_of_lt h

    -- a filling of a message is a message
    pub filled-message : (φ : ℕ) (bytes : List ℕ) → Message k b bytes → Message k b (filled k b f φ bytes)
    filled-message φ bytes m = record {
      long = filled-length φ bytes ∙ m.long;
      each = filled-each φ bytes;
      spare = λ i h. past i h (dec_lt i (8 * length bytes));
    }
      where
        past : (i : ℕ) → message_bits k b ≤ i → Dec (i < 8 * length bytes) → message_bit (filled k b f φ bytes) i ≡ 0
        past i h (yes l) = filled-bit φ bytes i l ∙ with-past from f (digits φ) (message_bit bytes) i (omega (arith, ends)) ∙ m.spare i h
        past i h (no t) = bit_past (filled k b f φ bytes) i (omega (arith, filled-length φ bytes))

    -- and the filling 0 has free bits 0
    pub cleared-message : (bytes : List ℕ) → Message k b bytes → FreeMessage k b f (filled k b f 0 bytes)
    cleared-message bytes m = record {
      message = filled-message 0 bytes m;
      free = λ t l. filled-free 0 bytes m.long t l ∙ ap (λ (x : ℕ). x % 2) (zero-div (2 ^ t));
    }

-- ---- no free bits

pub filled_none : (k b φ : ℕ) (bytes : List ℕ) → Bytes bytes → filled k b 0 φ bytes ≡ bytes
filled_none k b φ bytes each = filled-as k b 0 φ bytes each (λ t l. absurd (omega arith))

-- of any numbers at all, the bits stay
pub same_bits : (k b φ : ℕ) (bytes : List ℕ) → message_bit (filled k b 0 φ bytes) ≡ message_bit bytes
same_bits k b φ bytes = fun_ext (λ i. go i (dec_lt i (8 * length bytes)))
  where
    go : (i : ℕ) → Dec (i < 8 * length bytes) → message_bit (filled k b 0 φ bytes) i ≡ message_bit bytes i
    go i (yes l) = filled-bit k b 0 φ bytes i l ∙ with_none (free_from k b 0) (λ t. φ / 2 ^ t % 2) (message_bit bytes) i
    go i (no t) = bit_past (filled k b 0 φ bytes) i (omega (arith, filled-length k b 0 φ bytes)) ∙ sym (bit_past bytes i (omega arith))
