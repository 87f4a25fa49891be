-- Bit p of a number, by its mask. Assumes nothing.
use Prim.Native.Nat.{ℕ, zero, suc, ◌+◌, ◌-◌, ◌*◌, ◌^◌, ◌<◌}
use mathlib.Core.Path.{◌≡◌, sym, ap, ◌∙◌}
use native.Mathlib.Nat.{one-mul}
use native.Mathlib.Omega.{arith}
use lib.Bits.{bit_and, and_high}
use lib.Pow.{pow_pos, pow-add}
use Rattle.bits.proofs.Digits.{digit, digit-small}

module _ (w p : ℕ) where
  masked : bit_and w (2 ^ p) ≡ digit w p * 2 ^ p
  masked = let e : 2 ^ (1 + p) - 2 ^ p ≡ 2 ^ p = omega (arith, pow-add 2 1 p) in ap (bit_and w) (sym e) ∙ and_high w 1 p

  pub mask-set : bit_and w (2 ^ p) ≡ 2 ^ p → digit w p ≡ 1
  mask-set h = go (digit w p) (digit-small w p) masked
    where
      go : (d : ℕ) → d < 2 → bit_and w (2 ^ p) ≡ d * 2 ^ p → d ≡ 1
      go zero l e = absurd (omega (arith, e, h, pow_pos p))
      go (suc d) l e = omega arith

  pub set-mask : digit w p ≡ 1 → bit_and w (2 ^ p) ≡ 2 ^ p
  set-mask e = masked ∙ ap (λ (d : ℕ). d * 2 ^ p) e ∙ one-mul (2 ^ p)
