-- A codeword held in a number, from its message held in a number, for every r ≤ m. Assumes nothing.
use Prim.Native.Nat.{ℕ, ◌%◌, ◌^◌, ◌≤◌, ◌<◌}
use mathlib.Core.Path.{◌≡◌, sym, ap, ◌∙◌}
use native.Mathlib.Decide.{dec_lt, dec_le}
use native.Mathlib.Omega.{arith}
use borrow.Author.Tests.{le-leb, lt-leb}
use Rattle.bits.specs.Number.{number}
use Rattle.bits.proofs.Message.{number-ext, digit-of}
use Rattle.bits.proofs.Digits.{digit, digit-small, digit-past}
use Rattle.reed_muller.specs.Level.{weight, order, place, dimension, codeword, backwards}
use Rattle.reed_muller.proofs.Order.{place-order, order-light}
use Rattle.reed_muller.proofs.Transform.{backwards-cong}
use Rattle.reed_muller.proofs.Codeword.{coefficient, codeword-transform}

module _ (r m : ℕ) (hr : r ≤ m) (bits : ℕ) (few : bits < 2 ^ dimension r m) where
  -- the bit at the place of a mask is its coefficient: the masks of more than r bits stand past the message bits
  held-coefficient : (S : ℕ) → S < 2 ^ m → digit bits (place (order m) S) ≡ coefficient r m (digit bits) S
  held-coefficient S h = go (dec_le (weight S) r) (dec_lt (place (order m) S) (dimension r m))
    where
      go : Dec (weight S ≤ r) → Dec (place (order m) S < dimension r m) → digit bits (place (order m) S) ≡ coefficient r m (digit bits) S
      go (yes w) d = rw (le-leb (weight S) r w)
      go (no n) (yes d) = absurd (omega (arith, n, order-light r m hr (place (order m) S) d, ap weight (place-order m S h).1))
      go (no n) (no d) = rw (lt-leb (weight S) r (omega arith)) (digit-past bits (dimension r m) (place (order m) S) few (omega arith))

  pub held-codeword : (w : ℕ) → w ≡ number (2 ^ m) (λ S. digit bits (place (order m) S))
      → number (2 ^ m) (backwards m (digit w)) ≡ number (2 ^ m) (codeword r m (digit bits))
  held-codeword w e =
      number-ext (2 ^ m) (λ p l.
      backwards-cong m (digit w) (coefficient r m (digit bits))
      (λ S h. ap (λ (x : ℕ). x % 2) (digit-of e (λ S l. digit-small bits (place (order m) S)) S h ∙ held-coefficient S h)) p
      ∙ sym (codeword-transform r m hr (digit bits) p))
