-- A message whose free bits are written as 0, in its last byte. Assumes nothing.
use Prim.Native.Nat.{ℕ, ◌+◌, ◌-◌, ◌*◌, ◌%◌, ◌^◌, ◌≤◌, ◌<◌}
use mathlib.Core.Path.{◌≡◌, sym, ap, ◌∙◌}
use mathlib.Core.List.{List}
use native.Mathlib.Nat.{mod-eq_of_lt}
use native.Mathlib.Decide.{dec_lt, ℕ_discrete}
use native.Mathlib.Omega.{arith}
use lib.ListN.{length, get_or, set, length-set}
use lib.Seq.{get_or-set_same, get_or-set_other}
use Rattle.bits.specs.Number.{table}
use Rattle.bits.specs.Message.{message_bit, byte_of, bytes_of, with_bits}
use Rattle.bits.proofs.Message.{number_digits, number-ext, number-shorter, bit-of-byte, bytes-are, with_in, with-before, with-past}
use Rattle.bits.proofs.Digits.{digit, digit-none, one_shifted}
use Rattle.frames.specs.Kind.{message_bits}
use Rattle.frames.specs.Message.{Message}
use Rattle.frames.specs.Free.{free_from, filled}

-- the free bits begin at bit `at` of the last byte
module _ (k b f at : ℕ) (bytes : List ℕ) (m : Message k b bytes) (some : 1 ≤ length bytes) (place : 8 * (length bytes - 1) + at ≡ free_from k b f)
    (end : free_from k b f + f ≡ message_bits k b) (low : at < 8) where
  abbrev last : ℕ
  last = length bytes - 1

  abbrev byte : ℕ
  byte = get_or bytes last 0

  abbrev new : ℕ → ℕ
  new = with_bits (free_from k b f) f (digit 0) (message_bit bytes)

  -- no bit of the last byte is set from `at` on
  none : (i : ℕ) → at ≤ i → new (8 * last + i) ≡ 0
  none i h = go (dec_lt (8 * last + i) (free_from k b f + f))
    where
      go : Dec (8 * last + i < free_from k b f + f) → new (8 * last + i) ≡ 0
      go (yes l) =
          let e : 8 * last + i ≡ free_from k b f + (i - at) = omega arith in
          ap new e ∙ with_in (free_from k b f) f (digit 0) (message_bit bytes) (i - at) (omega arith) ∙ digit-none (i - at)
      go (no t) = with-past (free_from k b f) f (digit 0) (message_bit bytes) (8 * last + i) (omega arith) ∙ m.spare (8 * last + i) (omega arith)

  last_byte : byte_of new last ≡ byte % 2 ^ at
  unfolding byte_of
  last_byte =
      number-shorter at 8 (omega arith) none
      ∙ number-ext at (λ i l. with-before (free_from k b f) f (digit 0) (message_bit bytes) (8 * last + i) (omega arith) ∙ bit-of-byte bytes last i (omega arith))
      ∙ number_digits byte at

  other_byte : (j : ℕ) → j < last → byte_of new j ≡ get_or bytes j 0
  unfolding byte_of
  other_byte j h =
      number-ext 8 (λ i l. with-before (free_from k b f) f (digit 0) (message_bit bytes) (8 * j + i) (omega arith) ∙ bit-of-byte bytes j i l)
      ∙ number_digits (get_or bytes j 0) 8 ∙ mod-eq_of_lt (m.each j)

  -- 2^at is 1 moved up by `at` bits, in a byte
  pub cleared : set bytes (length bytes - 1) (get_or bytes (length bytes - 1) 0 % (1 * 2 ^ at % 2 ^ 8)) ≡ filled k b f 0 bytes
  unfolding filled bytes_of
  cleared = rw (one_shifted at 8 low) (sym (ap (λ (n : ℕ). table n (byte_of new)) (sym size) ∙ bytes-are xs (byte_of new) (λ j l. each j (omega (arith, l, size)) (ℕ_discrete j last))))
    where
      xs : List ℕ
      xs = set bytes last (byte % 2 ^ at)

      size : length xs ≡ length bytes
      size = length-set bytes last (byte % 2 ^ at)

      each : (j : ℕ) → j < length bytes → Dec (j ≡ last) → byte_of new j ≡ get_or xs j 0
      each j h (yes e) = ap (byte_of new) e ∙ last_byte ∙ sym (ap (λ (i : ℕ). get_or xs i 0) e ∙ get_or-set_same bytes last (byte % 2 ^ at) 0 (omega arith))
      each j h (no ne) = other_byte j (omega (arith, ne)) ∙ sym (get_or-set_other bytes last j (byte % 2 ^ at) 0 ne)
