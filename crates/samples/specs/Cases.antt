-- Samples by their bit patterns as f32, worked by hand, to be met by the definitions: fit ones with their number of 256ths, and others.
-- Assumes nothing.
use Rattle.std.specs.Prelude.{ℕ, ◌≡◌, true, false, List, [], ◌∷◌, map, ℤ, pos, negsuc, Float}
use Rattle.std.specs.Float.{binary32}
use Rattle.std.specs.Float.Ieee.{of_bits}
use Rattle.samples.specs.Sample.{is_fit, sample_in_256ths}

abbrev pub bits_as : ℕ → Float
bits_as bits = of_bits binary32 bits

-- a bit pattern, and how many 256ths it is
pub record Case : Type 0 where
  pub bits : ℕ
  pub count : ℤ

-- 0.0, −0.0, 1/256, −1/256, 1.5, −1.5, 127 + 255/256, 128, −128 (negsuc n is −(n + 1))
abbrev pub fit_ones : List Case
fit_ones =
    record { bits = 0; count = pos 0 }
    ∷ record { bits = 2147483648; count = pos 0 }
    ∷ record { bits = 998244352; count = pos 1 }
    ∷ record { bits = 3145728000; count = negsuc 0 }
    ∷ record { bits = 1069547520; count = pos 384 }
    ∷ record { bits = 3217031168; count = negsuc 383 }
    ∷ record { bits = 1124072960; count = pos 32767 }
    ∷ record { bits = 1124073472; count = pos 32768 }
    ∷ record { bits = 3271557120; count = negsuc 32767 }
    ∷ []

-- no number: a NaN with either sign, both infinities
abbrev pub no_numbers : List ℕ
no_numbers = 2143289344 ∷ 4290772992 ∷ 2139095040 ∷ 4286578688 ∷ []

-- too large: the next f32 above 128, 128 + 1/256, the largest f32; the next below −128, −128 − 1/256
abbrev pub too_large : List ℕ
too_large = 1124073473 ∷ 1124073728 ∷ 2139095039 ∷ 3271557121 ∷ 3271557376 ∷ []

-- no whole number of 256ths: 1/512, −1/512, 3/512, the next f32 above 1/256, the next below 128, and 2^−149, the smallest f32 above 0
abbrev pub not_whole : List ℕ
not_whole = 989855744 ∷ 3137339392 ∷ 1002438656 ∷ 998244353 ∷ 1124073471 ∷ 1 ∷ []

pub record Cases : Type 0 where
  pub fit : map (λ c. is_fit (bits_as c.bits)) fit_ones ≡ map (λ c. true) fit_ones
  pub counted : map (λ c. sample_in_256ths (bits_as c.bits)) fit_ones ≡ map (λ c. c.count) fit_ones
  pub no-numbers : map (λ b. is_fit (bits_as b)) no_numbers ≡ map (λ b. false) no_numbers
  pub too_large_lem : map (λ b. is_fit (bits_as b)) too_large ≡ map (λ b. false) too_large
  pub not-whole : map (λ b. is_fit (bits_as b)) not_whole ≡ map (λ b. false) not_whole
