-- Numbers made of their bits from the lowest up, some bits at a time. Assumes nothing.
use Rattle.std.proofs.Common.{◌≡◌, ℕ, ◌+◌, ◌*◌, ◌^◌, ◌%◌, ◌<◌, ◌≤◌, ap, ◌∙◌, arith}
use Rattle.std.proofs.Math.Nat.{mod-eq_of_lt, mul_comm}
use lib.Pow.{pow_mono}
use Rattle.bits.specs.Number.{sum_to, number}
use Rattle.bits.proofs.Message.{number_lt, number-join}

module _ (f : ℕ → ℕ) (small : (i : ℕ) → f i < 2) where
  -- a number of up to 64 bits
  pub number-fits : (n : ℕ) → n ≤ 64 → number n f < 2 ^ 64
  number-fits n h = omega (arith, number_lt f n (λ i l. small i), pow_mono {i = n} {j = 64} h)

  -- w bits more, above the first n
  pub number-more : (w n word more : ℕ) → n + w ≤ 64 → word ≡ number n f → more ≡ number w (λ t. f (n + t))
      → word + more * 2 ^ n % 2 ^ 64 ≡ number (n + w) f
  number-more w n word more h is is-more =
      let join : 2 ^ n * number w (λ t. f (n + t)) + number n f ≡ number (n + w) f = number-join n w f in
      let times : more * 2 ^ n ≡ 2 ^ n * number w (λ t. f (n + t)) = ap (λ (x : ℕ). x * 2 ^ n) is-more ∙ mul_comm _ _ in
      let fits : more * 2 ^ n < 2 ^ 64 = omega (arith, join, times, number-fits (n + w) h) in
      rw (mod-eq_of_lt fits) (omega (arith, join, is, times))

-- one bit alone
pub number-one : (f : ℕ → ℕ) → number 1 f ≡ f 0
unfolding sum_to
number-one f = omega arith
