-- Numbers that agree in their binary digits from a place on: the first number after all that agree with w from p on, and the place from which on
-- it agrees with w itself. Assumes nothing.
use Prim.Native.Nat.{ℕ, zero, suc, ◌+◌, ◌-◌, ◌*◌, ◌/◌, ◌%◌, ◌^◌, ◌≤◌, ◌<◌}
use mathlib.Core.Path.{◌≡◌, refl, sym, ap, ◌∙◌, subst}
use mathlib.Core.Bool.{cond}
use native.Mathlib.Nat.{div-one, mod-lt, mul-le-mul_right, pow-suc}
use native.Mathlib.Decide.{dec_lt}
use native.Mathlib.Omega.{arith}
use lib.Pow.{split, high, shr_lt, shr-shr, pow_pos, pow_mono, pow-add}
use lib.Bits.{shifted_half, shifted_even}
use lib.Count.{count_trailing_zeros, under}
use borrow.Author.Tests.{ne_eqb}
use Rattle.level_1_search.specs.Changes.{first_place}

-- ---- zeros at the low end

-- digit z is 1, and those below it are 0
abbrev Ends : ℕ → ℕ → Type 0
Ends x z = (x / 2 ^ z % 2 ≡ 1) × (x / 2 ^ z * 2 ^ z ≡ x)

ends : (d x : ℕ) → 0 < x → x < 2 ^ d → Ends x (count_trailing_zeros d x)
unfolding count_trailing_zeros
ends zero x h l = absurd (omega arith)
ends (suc d) x h l = go (x % 2) refl (ends d (x / 2))
  where
    go : (r : ℕ) → x % 2 ≡ r → (0 < x / 2 → x / 2 < 2 ^ d → Ends (x / 2) (count_trailing_zeros d (x / 2))) → Ends x (under r (count_trailing_zeros d (x / 2)))
    go zero e ih =
        let z = count_trailing_zeros d (x / 2) in
        let i = ih (omega arith) (omega (arith, pow-suc 2 d)) in
        let q : x / 2 ^ suc z ≡ x / 2 / 2 ^ z = sym (shr-shr x 1 z ∙ ap (λ (j : ℕ). x / 2 ^ j) (omega arith)) in
        (ap (λ (y : ℕ). y % 2) q ∙ i.0, ap (λ (y : ℕ). y * 2 ^ suc z) q ∙ omega (arith, i.1, ap (λ (y : ℕ). x / 2 / 2 ^ z * y) (pow-suc 2 z)))
    go (suc r) e ih = (omega (arith, div-one x), omega (arith, div-one x))

-- p zeros were put there
shifted-zeros : (d x p : ℕ) → p ≤ d → p ≤ count_trailing_zeros d (x * 2 ^ p)
unfolding count_trailing_zeros
shifted-zeros d x zero h = omega arith
shifted-zeros zero x (suc p) h = absurd (omega arith)
shifted-zeros (suc d) x (suc p) h = rw (shifted_even x p, shifted_half x p) (omega (arith, shifted-zeros d x p (omega arith)))

-- ---- agreement from a place on

-- numbers that agree from p on agree from every later place on
pub agree-later : (u w p q : ℕ) → p ≤ q → u / 2 ^ p ≡ w / 2 ^ p → u / 2 ^ q ≡ w / 2 ^ q
agree-later u w p q h e =
    let s : p + (q - p) ≡ q = omega arith in
    subst (λ (i : ℕ). u / 2 ^ i ≡ w / 2 ^ i) s (sym (shr-shr u p (q - p)) ∙ ap (λ (x : ℕ). x / 2 ^ (q - p)) e ∙ shr-shr w p (q - p))

-- a number between two multiples of 2 ^ p that follow each other
between : (u m p : ℕ) → m * 2 ^ p ≤ u → u < (m + 1) * 2 ^ p → u / 2 ^ p ≡ m
between u m p h l =
    let e : u ≡ m * 2 ^ p + (u - m * 2 ^ p) = omega arith in
    ap (λ (x : ℕ). x / 2 ^ p) e ∙ high m p (omega arith)

-- the first number after all that agree with w from p on
abbrev pub after : ℕ → ℕ → ℕ
after w p = (w / 2 ^ p + 1) * 2 ^ p

module _ (w p : ℕ) where
  pub after_more : w < (w / 2 ^ p + 1) * 2 ^ p
  after_more = omega (arith, split w p, mod-lt w (pow_pos p))

  pub after-agree : (u : ℕ) → w ≤ u → u < after w p → u / 2 ^ p ≡ w / 2 ^ p
  after-agree u h l = between u (w / 2 ^ p) p (omega (arith, split w p)) l

  pub after-fits : (n : ℕ) → w < 2 ^ n → p ≤ n → after w p ≤ 2 ^ n
  after-fits n h l =
      let e : n - p + p ≡ n = omega arith in
      let s : w / 2 ^ p + 1 ≤ 2 ^ (n - p) = omega (arith, shr_lt {n = w} (n - p) p (subst (λ (i : ℕ). w < 2 ^ i) (sym e) h)) in
      omega (arith, mul-le-mul_right (2 ^ p) s, pow-add 2 (n - p) p, ap (λ (i : ℕ). 2 ^ i) e)

-- it agrees with w past its lowest digit that is 1, which is not below p
module _ (w p : ℕ) (small : after w p < 2 ^ 64) (h : p ≤ 64) where
  abbrev x : ℕ
  x = after w p

  abbrev z : ℕ
  z = count_trailing_zeros 64 x

  pub zeros-from : p ≤ count_trailing_zeros 64 (after w p)
  zeros-from = shifted-zeros 64 (w / 2 ^ p + 1) p h

  pub carry-agree : after w p / 2 ^ (count_trailing_zeros 64 (after w p) + 1) ≡ w / 2 ^ (count_trailing_zeros 64 (after w p) + 1)
  carry-agree =
      let e = ends 64 x (omega (arith, after_more w p)) small in
      let o : ℕ = x / 2 ^ z in
      let m : x / 2 ^ (z + 1) ≡ o / 2 = sym (shr-shr x z 1) in
      let d : o ≡ 2 * (o / 2) + 1 = omega (arith, e.0) in
      let t : 2 ^ (z + 1) ≡ 2 ^ z * 2 = pow-add 2 z 1 in
      let v : o * 2 ^ z ≡ (2 * (o / 2) + 1) * 2 ^ z = ap (λ (y : ℕ). y * 2 ^ z) d in
      let g : o / 2 * 2 ^ (z + 1) ≡ o / 2 * (2 ^ z * 2) = ap (λ (y : ℕ). o / 2 * y) t in
      m ∙ sym (between w (o / 2) (z + 1)
      (omega (arith, e.1, v, g, split w p, pow_mono {i = p} {j = z} zeros-from))
      (omega (arith, e.1, v, g, t, after_more w p)))

-- ---- the place from which on a number agrees with the one before it

pub first-of-zero : (n : ℕ) → first_place 0 n ≡ n
unfolding first_place
first-of-zero n = refl

pub first_of : (w n : ℕ) → 0 < w → first_place w n ≡ count_trailing_zeros 64 w + 1
unfolding first_place
first_of w n h = ap (λ b. cond b n (count_trailing_zeros 64 w + 1)) (ne_eqb w 0 (λ e. omega arith))

pub first-within : (w n : ℕ) → w < 2 ^ n → n ≤ 64 → first_place w n ≤ n
first-within zero n h l = omega (arith, first-of-zero n)
first-within (suc w) n h l = go (dec_lt z n)
  where
    z : ℕ
    z = count_trailing_zeros 64 (suc w)

    e : Ends (suc w) z
    e = ends 64 (suc w) (omega arith) (omega (arith, h, pow_mono {i = n} {j = 64} l))

    one : 1 ≤ suc w / 2 ^ z
    one = omega (arith, e.0)

    go : Dec (z < n) → first_place (suc w) n ≤ n
    go (yes k) = omega (arith, first_of (suc w) n (omega arith))
    go (no k) = absurd (omega (arith, h, e.1, mul-le-mul_right (2 ^ z) one, pow_mono {i = n} {j = z} (omega arith)))
