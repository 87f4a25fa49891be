-- Laws of the tests: whether a free or a spare bit is set. Assumes nothing.
use Prim.Native.Nat.{ℕ, ◌+◌, ◌-◌, ◌*◌, ◌/◌, ◌^◌, ◌≤◌, ◌<◌}
use mathlib.Core.Path.{◌≡◌, refl, sym, ap, ◌∙◌}
use mathlib.Core.Bool.{Bool, true, false, not, true≢false}
use mathlib.Core.List.{List}
use native.Mathlib.Nat.{zero-mul}
use native.Mathlib.Omega.{arith}
use lib.Dec.{eqb}
use lib.ListN.{length, get_or}
use borrow.Author.Tests.{eq-eqb, ne_eqb}
use Rattle.bits.specs.Message.{message_bit}
use Rattle.bits.proofs.Sum.{sum-zero}
use Rattle.bits.proofs.Message.{number_of, message-small}
use Rattle.bits.proofs.Digits.{digit, digit-none}
use Rattle.frames.specs.Kind.{message_bytes}
use Rattle.frames.specs.Sending.{any_set, free_set}
use Rattle.frames.specs.Free.{free_from}
use Rattle.frames.proofs.Accepted.{none-set, set-none}
use Rattle.free_bits.proofs.LastByte.{last-below, last-bits}

-- one of n bits is set where the number y that holds them is not 0
any_held : (bit : ℕ → ℕ) → ((i : ℕ) → bit i < 2) → (from n y : ℕ) → y < 2 ^ n → ((i : ℕ) → i < n → bit (from + i) ≡ digit y i)
    → not (eqb y 0) ≡ any_set bit from n
any_held bit small from n y l h = go (any_set bit from n) refl
  where
    go : (t : Bool) → any_set bit from n ≡ t → not (eqb y 0) ≡ t
    go true e =
        ap not (ne_eqb y 0 (λ z. true≢false (sym e ∙ set-none bit small from n (λ i u. h i u ∙ ap (λ (x : ℕ). digit x i) z ∙ digit-none i))))
    go false e =
        ap not (eq-eqb y 0 (number_of y n l (λ i u. sym (h i u) ∙ none-set bit small from n e i u) ∙ sum-zero n (λ i. 0 * 2 ^ i) (λ i u. zero-mul (2 ^ i))))

-- ---- the free bits and the spare ones, of which the first is bit `at` of the last byte

module _ (k b f at : ℕ) (bytes : List ℕ) (long : length bytes ≡ message_bytes k b) (some : 1 ≤ length bytes)
    (place : 8 * (length bytes - 1) + at ≡ free_from k b f) where
  pub free-none : at ≡ 8 → false ≡ free_set k b f bytes
  unfolding free_set any_set
  free-none e = let z : 8 * message_bytes k b - free_from k b f ≡ 0 = omega arith in rw z refl

  pub free-last : ((j : ℕ) → get_or bytes j 0 < 256) → at < 8 → not (eqb (get_or bytes (length bytes - 1) 0 / 2 ^ at) 0) ≡ free_set k b f bytes
  unfolding free_set
  free-last small less =
      any_held (message_bit bytes) (message-small bytes) (free_from k b f) (8 - at) (get_or bytes (length bytes - 1) 0 / 2 ^ at)
      (last-below k b f at bytes small some place less) (last-bits k b f at bytes small some place less)
      ∙ ap (any_set (message_bit bytes) (free_from k b f)) count
    where
      count : 8 - at ≡ 8 * message_bytes k b - free_from k b f
      count = omega arith
