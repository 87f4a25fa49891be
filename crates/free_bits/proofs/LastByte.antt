-- The free bits and the spare ones stand in the last byte of a message. For every kind of the table and every grade. Assumes nothing.
use Prim.Native.Nat.{ℕ, ◌+◌, ◌-◌, ◌*◌, ◌/◌, ◌^◌, ◌≤◌, ◌<◌}
use mathlib.Core.Path.{◌≡◌, refl, sym, ap, ◌∙◌, subst}
use mathlib.Core.Bool.{true}
use mathlib.Core.List.{List}
use native.Mathlib.Nat.{mod-eq_of_lt}
use native.Mathlib.Omega.{arith}
use lib.Count.{ones}
use lib.Dec.{leb}
use lib.ListN.{length, get_or}
use lib.Pow.{shr_lt}
use borrow.Author.Tests.{le-leb, leb-true}
use Rattle.bits.specs.Number.{table}
use Rattle.bits.specs.Message.{message_bit}
use Rattle.bits.proofs.Message.{number_digits, number-ext, number-shorter, bit-of-byte}
use Rattle.bits.proofs.Digits.{digit, digit-from}
use Rattle.reed_muller.specs.Level.{dimension, masks, of_weight}
use Rattle.frames.specs.Kind.{kinds, is_kind, is_grade, degrees, level_bits, message_bits, message_bytes}
use Rattle.frames.specs.Message.{Bytes, Message}
use Rattle.frames.specs.Free.{free_from, filling}
use Rattle.frames.proofs.Rows.{each-row-and-grade}
use Rattle.frames.proofs.Limits.{some_bits, few-message-bits}

-- of the last of n bytes at least four bits are message bits
pub record LastByte (k b n : ℕ) : Type 0 where
  pub some : 1 ≤ n
  pub few : n ≤ 46
  pub begin : 8 * (n - 1) + 4 ≤ message_bits k b
  pub end : message_bits k b ≤ 8 * n

four : (k b : ℕ) → is_kind k ≡ true → is_grade b ≡ true → 8 * (message_bytes k b - 1) + 4 ≤ message_bits k b
unfolding message_bytes message_bits level_bits degrees kinds dimension masks of_weight table ones
four k b kind grade = leb-true (8 * (message_bytes k b - 1) + 4) (message_bits k b)
    (each-row-and-grade (λ k b. leb (8 * (message_bytes k b - 1) + 4) (message_bits k b)) refl k b kind grade)

pub last_byte : (k b n : ℕ) → is_kind k ≡ true → 1 ≤ b → b ≤ 4 → n ≡ message_bytes k b → LastByte k b n
unfolding message_bytes is_grade
last_byte k b n kind low high long =
    let grade : is_grade b ≡ true = rw (le-leb 1 b low, le-leb b 4 high) refl in
    record {
      some = omega (arith, long, some_bits k b kind grade);
      few = omega (arith, long, few-message-bits k b kind high);
      begin = omega (arith, long, four k b kind grade);
      end = omega (arith, long);
    }

-- ---- from bit `at` of the last byte on: the free bits and the spare ones

module _ (k b f at : ℕ) (bytes : List ℕ) (each : Bytes bytes) (some : 1 ≤ length bytes) (place : 8 * (length bytes - 1) + at ≡ free_from k b f)
    (less : at < 8) where
  abbrev byte : ℕ
  byte = get_or bytes (length bytes - 1) 0

  -- the byte moved down by `at` has 8 − at bits
  pub last-below : byte / 2 ^ at < 2 ^ (8 - at)
  last-below = let e : 8 ≡ 8 - at + at = omega arith in shr_lt (8 - at) at (subst (λ (w : ℕ). byte < 2 ^ w) e (each (length bytes - 1)))

  -- which are these
  pub last-bits : (i : ℕ) → i < 8 - at → message_bit bytes (free_from k b f + i) ≡ digit (byte / 2 ^ at) i
  last-bits i l =
      let e : free_from k b f + i ≡ 8 * (length bytes - 1) + (at + i) = omega arith in
      ap (message_bit bytes) e ∙ bit-of-byte bytes (length bytes - 1) (at + i) (omega arith) ∙ sym (digit-from byte at i)

  -- and of a message, whose spare bits are 0, it is the filling
  pub last-filling : Message k b bytes → f ≤ 8 - at → free_from k b f + f ≡ message_bits k b → byte / 2 ^ at ≡ filling k b f bytes
  unfolding filling
  last-filling m fits end =
      sym (mod-eq_of_lt last-below) ∙ sym (number_digits (byte / 2 ^ at) (8 - at)) ∙ number-ext (8 - at) (λ i l. sym (last-bits i l))
      ∙ number-shorter f (8 - at) fits (λ i h. m.spare (free_from k b f + i) (omega (arith, end)))
