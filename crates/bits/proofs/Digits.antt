-- Binary digits of numbers that are added modulo 2, masked, shifted and doubled. Assumes nothing.
use Prim.Native.Nat.{ℕ, zero, suc, ◌+◌, ◌-◌, ◌*◌, ◌/◌, ◌%◌, ◌^◌, ◌≤◌, ◌<◌, min}
use mathlib.Core.Path.{◌≡◌, refl, sym, ap, ◌∙◌}
use native.Mathlib.Nat.{add-zero, min-zero, min-le_left, min-eq_left, div-one, div-eq_of_lt, zero-div, mod-eq_of_lt, pow-suc, mul_comm, mul-le-mul_right}
use native.Mathlib.Omega.{arith}
use lib.Pow.{high, field, split, shl-shr, shr-shr, pow_pos, pow_mono, pow-add, pow-lt}
use lib.Bits.{bit_and, bit_xor, and_step, and_shr, xor_step, xor_shr, differ}
use Rattle.bits.specs.Number.{number}
use Rattle.bits.proofs.Message.{under, number_digits}

abbrev pub digit : ℕ → ℕ → ℕ
digit x p = x / 2 ^ p % 2

pub digit-small : (x p : ℕ) → digit x p < 2
digit-small x p = omega arith

pub digit-none : (p : ℕ) → digit 0 p ≡ 0
digit-none p = ap (λ (x : ℕ). x % 2) (zero-div (2 ^ p))

-- past the last digit every digit is 0
pub digit-past : (x n p : ℕ) → x < 2 ^ n → n ≤ p → digit x p ≡ 0
digit-past x n p h l = ap (λ (y : ℕ). y % 2) (div-eq_of_lt (omega (arith, pow_mono {i = n} {j = p} l)))

-- ---- sums modulo 2 and masks

differ-parity : (x y : ℕ) → x < 2 → y < 2 → differ x y ≡ (x + y) % 2
differ-parity zero y hx hy = omega arith
differ-parity (suc zero) zero hx hy = refl
differ-parity (suc zero) (suc zero) hx hy = refl
differ-parity (suc zero) (suc (suc y)) hx hy = absurd (omega arith)
differ-parity (suc (suc x)) y hx hy = absurd (omega arith)

pub xor-digit : (a b p : ℕ) → digit (bit_xor a b) p ≡ (digit a p + digit b p) % 2
xor-digit a b p =
    ap (λ (x : ℕ). x % 2) (xor_shr a b p)
    ∙ omega (arith, xor_step (a / 2 ^ p) (b / 2 ^ p), differ-parity (digit a p) (digit b p) (omega arith) (omega arith))

module _ (a b p : ℕ) where
  and-min : digit (bit_and a b) p ≡ min (digit a p) (digit b p)
  and-min =
      ap (λ (x : ℕ). x % 2) (and_shr a b p)
      ∙ omega (arith, and_step (a / 2 ^ p) (b / 2 ^ p), min-le_left (digit a p) (digit b p))

  pub and-clear : digit b p ≡ 0 → digit (bit_and a b) p ≡ 0
  and-clear e = and-min ∙ rw e (min-zero (digit a p))

  pub and-keep : digit b p ≡ 1 → digit (bit_and a b) p ≡ digit a p
  and-keep e = and-min ∙ rw e (min-eq_left (omega arith))

-- ---- shifts of numbers of W digits

pub digit-mod : (x W p : ℕ) → p < W → digit (x % 2 ^ W) p ≡ digit x p
digit-mod x W p h = sym (ap (λ (y : ℕ). digit y p) (sym (split x W)) ∙ under (x % 2 ^ W) (x / 2 ^ W) W p h)

pub shift-digit : (x h W p : ℕ) → h ≤ p → p < W → digit (x * 2 ^ h % 2 ^ W) p ≡ digit x (p - h)
shift-digit x h W p l u =
    let e : p ≡ h + (p - h) = omega arith in
    digit-mod (x * 2 ^ h) W p u
    ∙ ap (λ (y : ℕ). y % 2)
    (ap (λ (i : ℕ). x * 2 ^ h / 2 ^ i) e ∙ sym (shr-shr (x * 2 ^ h) h (p - h)) ∙ ap (λ (y : ℕ). y / 2 ^ (p - h)) (shl-shr x h))

pub shift-low : (x h W p : ℕ) → p < h → p < W → digit (x * 2 ^ h % 2 ^ W) p ≡ 0
shift-low x h W p l u =
    digit-mod (x * 2 ^ h) W p u ∙ ap (λ (y : ℕ). digit y p) (sym (add-zero (x * 2 ^ h))) ∙ under 0 x h p l ∙ digit-none p

-- the digit p alone
pub one_shifted : (p W : ℕ) → p < W → 1 * 2 ^ p % 2 ^ W ≡ 2 ^ p
one_shifted p W h = let e : 1 * 2 ^ p ≡ 2 ^ p = omega arith in ap (λ (x : ℕ). x % 2 ^ W) e ∙ mod-eq_of_lt (pow-lt h)

-- a number of n digits moved up by w digits, where W digits have room
pub moved_up : (x w n W : ℕ) → x < 2 ^ n → w + n ≤ W → x * 2 ^ w % 2 ^ W ≡ 2 ^ w * x
moved_up x w n W h room =
    let e : x * 2 ^ w ≡ 2 ^ w * x = mul_comm x (2 ^ w) in
    let l : x + 1 ≤ 2 ^ n = omega arith in
    mod-eq_of_lt (omega (arith, mul-le-mul_right (2 ^ w) l, pow_pos w, pow-add 2 w n, pow_mono {i = w + n} {j = W} room)) ∙ e

-- the low n digits, by a shift up and down again
pub low-shifted : (x n h : ℕ) → x * 2 ^ h % 2 ^ (n + h) / 2 ^ h ≡ number n (digit x)
low-shifted x n h = field (x * 2 ^ h) n h ∙ ap (λ (y : ℕ). y % 2 ^ n) (shl-shr x h) ∙ sym (number_digits x n)

-- the digits from p on
pub digit-from : (x p i : ℕ) → digit (x / 2 ^ p) i ≡ digit x (p + i)
digit-from x p i = ap (λ (y : ℕ). y % 2) (shr-shr x p i)

-- ---- k digits more, at the low end

module _ (k w x : ℕ) where
  pub joined-low : (i : ℕ) → i < k → digit (2 ^ k * w + x) i ≡ digit x i
  joined-low i h = ap (λ (y : ℕ). digit (y + x) i) (mul_comm (2 ^ k) w) ∙ under x w k i h

  pub joined-high : x < 2 ^ k → (i : ℕ) → digit (2 ^ k * w + x) (k + i) ≡ digit w i
  joined-high h i =
      sym (digit-from (2 ^ k * w + x) k i)
      ∙ ap (λ (y : ℕ). digit y i) (ap (λ (y : ℕ). (y + x) / 2 ^ k) (mul_comm (2 ^ k) w) ∙ high w k h)

-- digits from p on, and the one before them
module _ (f : ℕ → ℕ) (n p w : ℕ) (h : 0 < p) (small : f (p - 1) < 2) where
  pub digits_more : ((i : ℕ) → p + i < n → digit w i ≡ f (p + i)) → (i : ℕ) → p - 1 + i < n → digit (2 * w + f (p - 1)) i ≡ f (p - 1 + i)
  digits_more so zero l =
      joined-low 1 w (f (p - 1)) 0 (omega arith) ∙ ap (λ (y : ℕ). y % 2) (div-one (f (p - 1))) ∙ mod-eq_of_lt small ∙ ap f (omega arith)
  digits_more so (suc i) l =
      let e : suc i ≡ 1 + i = omega arith in
      ap (digit (2 * w + f (p - 1))) e ∙ joined-high 1 w (f (p - 1)) small i ∙ so i (omega arith) ∙ ap f (omega arith)

  pub digits-fit : p ≤ n → w < 2 ^ (n - p) → 2 * w + f (p - 1) < 2 ^ (n - (p - 1))
  digits-fit l b = let e : n - (p - 1) ≡ suc (n - p) = omega arith in rw (e, pow-suc) (omega arith)
