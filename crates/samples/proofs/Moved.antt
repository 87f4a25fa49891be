-- A sample moved up by 49,152, and back: the test of the code, and its count of 256ths. Assumes nothing.
use Prim.Native.Nat.{ℕ, zero, suc, ◌+◌, ◌-◌, ◌*◌, ◌^◌, ◌≤◌}
use mathlib.Core.Path.{◌≡◌, refl, sym, ap, ◌∙◌, subst}
use mathlib.Core.Bool.{Bool, true, false, ◌&&◌, cond, true≢false}
use native.Mathlib.Omega.{arith}
use native.Mathlib.Decide.{dec_le}
use lib.Dec.{T, ltb, le→leb}
use lib.IntN.{pos, negsuc, ◌-ℤ◌}
use lib.Bits.{bit_and}
use lib.Pow.{pow-add, pow_mono}
use lib.Ieee.{Float, nan, inf, fin, binary32, neg, add, sum, sub, mul, le, eq, level, fits, of_int, in_float, in_signed, to_signed}
use lib.Ieee.Exact.{HasValue}
use lib.Ieee.Fits.{add-fits}
use lib.Ieee.Order.{le_of_values}
use lib.Ieee.Positive.{positive, num, den, between, own_value, values_of_le, positive_of_value, mul_at}
use lib.Ieee.Scale.{round_same}
use lib.Ieee.Back.{positive_back}
use mir.Val.{bool_byte}
use borrow.Author.Tests.{eq-eqb, lt-ltb, le-ltb}
use Rattle.integers.proofs.Zed.{#◌, ◌⊖◌, ⊝◌, eq! }
use Rattle.floats.proofs.Compare.{eq-values, equal-sized}
use Rattle.floats.proofs.Exact.{digits, parts, add-values}
use Rattle.samples.specs.Sample.{is_fit, sample_in_256ths, signed}
use Rattle.samples.proofs.Constants.{middle, least, most}
use Rattle.samples.proofs.Whole.{fit-by-value}

-- ± t 256ths, moved up by 49,152: 12,582,912 of them
abbrev above : Bool → ℕ → ℕ
above s t = cond s (12582912 - t) (t + 12582912)

above-range : (s : Bool) (t : ℕ) → t ≤ 32768 → (12550144 ≤ above s t) × (above s t ≤ 12615680)
above-range true t l = (omega arith, omega arith)
above-range false t l = (omega arith, omega arith)

-- ---- up, and back: nothing is rounded

up-value : (x : Float) (s : Bool) (t : ℕ) → t ≤ 32768 → HasValue x s t 256 → HasValue (add binary32 x middle) false (above s t) 256
unfolding sum
up-value x false t l v =
    rw (add-values binary32 x middle false false t 12582912 256 (omega arith) v (refl, refl)) (parts binary32 false (t + 12582912) 8 (omega arith) (omega arith))
up-value x true t l v =
    rw (add-values binary32 x middle true false t 12582912 256 (omega arith) v (refl, refl), lt-ltb t 12582912 (omega arith))
    (parts binary32 false (12582912 - t) 8 (omega arith) (omega arith))

-- -0 comes back as 0
abbrev back-sign : Bool → ℕ → Bool
back-sign s t = s && ltb 0 t

back-value : (y : Float) (s : Bool) (t : ℕ) → t ≤ 32768 → HasValue y false (above s t) 256 → HasValue (sub binary32 y middle) (back-sign s t) t 256
unfolding sub neg sum
back-value y false t l v =
    let d : t + 12582912 - 12582912 ≡ t = omega arith in
    rw (
      add-values binary32 y (fin true 3 (pos 14)) false true (t + 12582912) 12582912 256 (omega arith) v (refl, refl),
      le-ltb (t + 12582912) 12582912 (omega arith),
      d,
    ) (parts binary32 false t 8 (omega arith) (omega arith))
back-value y true zero l v =
    rw (add-values binary32 y (fin true 3 (pos 14)) false true 12582912 12582912 256 (omega arith) v (refl, refl))
    (parts binary32 false 0 8 (omega arith) (omega arith))
back-value y true (suc t) l v =
    let d : 12582912 - (12582912 - suc t) ≡ suc t = omega arith in
    rw (
      add-values binary32 y (fin true 3 (pos 14)) false true (12582912 - suc t) 12582912 256 (omega arith) v (refl, refl),
      lt-ltb (12582912 - suc t) 12582912 (omega arith),
      d,
      lt-ltb 0 (suc t) (omega arith),
    ) (parts binary32 true (suc t) 8 (omega arith) (omega arith))

-- ---- a fit sample passes the three tests of the code

record Tests (x : Float) : Type 0 where
  low : T (le least (add binary32 x middle))
  high : T (le (add binary32 x middle) most)
  same : eq (sub binary32 (add binary32 x middle) middle) x ≡ true

passes : (x : Float) → is_fit x ≡ true → Tests x
passes x f =
    let v = fit-by-value x in
    let s = v.sign f in
    let t = v.size f in
    let y = add binary32 x middle in
    let r = above-range s t (v.small f) in
    let w : HasValue y false (above s t) 256 = up-value x s t (v.small f) (v.value f) in
    record {
      low = le_of_values least y 49024 1 (above s t) 256 (omega arith) (omega arith) (refl, refl) w (omega (arith, r.0));
      high = le_of_values y most (above s t) 256 49280 1 (omega arith) (omega arith) w (refl, refl) (omega (arith, r.1));
      same =
          eq-values (sub binary32 y middle) x (back-sign s t) s t 256 t 256 (omega arith) (omega arith) (back-value y s t (v.small f) w) (v.value f)
          ∙ level-back s t;
    }
  where
    level-back : (s : Bool) (t : ℕ) → level (back-sign s t) (t * 256) s (t * 256) ≡ true
    level-back false t = rw (eq-eqb (t * 256) (t * 256) refl) refl
    level-back true zero = refl
    level-back true (suc t) = rw (lt-ltb 0 (suc t) (omega arith), eq-eqb (suc t * 256) (suc t * 256) refl) refl

-- ---- a sample that passes them is fit

-- an f32 from 49,024 on, which has 24 digits, is a whole number of 256ths
record Whole (y : Float) : Type 0 where
  count : ℕ
  value : HasValue y false count 256

whole : (y : Float) → T (fits binary32 y) → T (positive y) → 49024 * den y ≤ num y * 1 → Whole y
whole nan f p l = absurd p
whole (inf s) f p l = absurd p
whole (fin true m e) f p l = absurd p
whole (fin false m (pos k)) f p l = record { count = 256 * (m * 2 ^ k); value = (refl, omega arith) }
whole (fin false m (negsuc k)) f p l = go (dec_le (suc k) 8)
  where
    go : Dec (suc k ≤ 8) → Whole (fin false m (negsuc k))
    go (yes h) =
        let e : 8 - suc k + suc k ≡ 8 = omega arith in
        let c : 2 ^ (8 - suc k) * 2 ^ suc k ≡ 256 = sym (pow-add 2 (8 - suc k) (suc k)) ∙ ap (λ (n : ℕ). 2 ^ n) e in
        record { count = m * 2 ^ (8 - suc k); value = (refl, omega (arith, ap (λ (n : ℕ). m * n) c)) }
    go (no h) = absurd (omega (arith, l, digits binary32 false m (negsuc k) f, pow_mono {i = 9} {j = suc k} (omega arith)))

-- from 49,024 to 49,280, in 256ths: at most 32,768 from 49,152
record Near-middle (u : ℕ) : Type 0 where
  sign : Bool
  size : ℕ
  small : size ≤ 32768
  is : u ≡ above sign size

near-middle : (u : ℕ) → 12550144 ≤ u → u ≤ 12615680 → Near-middle u
near-middle u l h = go (dec_le 12582912 u)
  where
    go : Dec (12582912 ≤ u) → Near-middle u
    go (yes k) = record { sign = false; size = u - 12582912; small = omega arith; is = omega arith }
    go (no k) = record { sign = true; size = 12582912 - u; small = omega arith; is = omega arith }

fit-of-passes : (x : Float) → Tests x → is_fit x ≡ true
fit-of-passes x t =
    let y = add binary32 x middle in
    let p = between least y most tt tt t.low t.high in
    let w = whole y (add-fits binary32 x middle) p (values_of_le least y 49024 1 (num y) (den y) tt p (refl, refl) (own_value y p) t.low) in
    let l = values_of_le least y 49024 1 w.count 256 tt p (refl, refl) w.value t.low in
    let h = values_of_le y most w.count 256 49280 1 p tt w.value (refl, refl) t.high in
    let n = near-middle w.count (omega (arith, l)) (omega (arith, h)) in
    let v = back-value y n.sign n.size n.small (subst (λ (u : ℕ). HasValue y false u 256) n.is w.value) in
    let b = equal-sized (sub binary32 y middle) x (back-sign n.sign n.size) n.size 256 t.same v in
    (fit-by-value x).fits b.sign n.size n.small b.value

-- THE TEST of the code
pub fit-test : (x : Float)
    → 1 - bit_and (bit_and (bool_byte (le least (add binary32 x middle))) (bool_byte (le (add binary32 x middle) most)))
    (bool_byte (eq (sub binary32 (add binary32 x middle) middle) x)) ≡ cond (is_fit x) 0 1
fit-test x =
    let y = add binary32 x middle in
    go (le least y) (le y most) (eq (sub binary32 y middle) x) (is_fit x)
    (λ l h e. fit-of-passes x (record { low = l; high = h; same = e }))
    (λ f. (passes x f).low) (λ f. (passes x f).high) (λ f. (passes x f).same)
  where
    go : (l h e f : Bool) → (T l → T h → e ≡ true → f ≡ true) → (f ≡ true → T l) → (f ≡ true → T h) → (f ≡ true → e ≡ true)
        → 1 - bit_and (bit_and (bool_byte l) (bool_byte h)) (bool_byte e) ≡ cond f 0 1
    go true true true true a b c d = refl
    go true true true false a b c d = absurd (true≢false (sym (a tt tt refl)))
    go false h e true a b c d = absurd (b refl)
    go true false e true a b c d = absurd (c refl)
    go true true false true a b c d = absurd (true≢false (sym (d refl)))
    go false h e false a b c d = refl
    go true false e false a b c d = refl
    go true true false false a b c d = refl

-- ---- the count of the code

pub moved-count : (x : Float) → is_fit x ≡ true
    → T (in_signed binary32 31 (mul binary32 (add binary32 x middle) (fin false 1 (pos 8))))
    × (to_signed 31 (mul binary32 (add binary32 x middle) (fin false 1 (pos 8))) -ℤ pos 12582912 ≡ sample_in_256ths x)
unfolding of_int in_float
moved-count x f =
    let v = fit-by-value x in
    let s = v.sign f in
    let t = v.size f in
    let u = above s t in
    let y = add binary32 x middle in
    let r = above-range s t (v.small f) in
    let w : HasValue y false u 256 = up-value x s t (v.small f) (v.value f) in
    let b = positive_back binary32 31 u (le→leb u (2 ^ 24) (omega (arith, r.1))) (omega (arith, r.1)) in
    rw (
      mul_at binary32 y (fin false 1 (pos 8)) u 256 256 1 (positive_of_value y u 256 w (omega (arith, r.0))) tt (omega arith) (omega arith) w (refl, refl),
      round_same binary32 false (u * 256) (256 * 1) u 1 (omega arith) (omega arith) (omega arith),
    )
    (b.0, rw (b.1, v.counted f) (down-again s t (v.small f)))
  where
    down-again : (s : Bool) (t : ℕ) → t ≤ 32768 → pos (above s t) -ℤ pos 12582912 ≡ signed s t
    down-again false t l = eq! (# (t + 12582912) ⊖ # 12582912) (# t) (omega arith)
    down-again true t l = eq! (# (12582912 - t) ⊖ # 12582912) (⊝ # t) (omega arith)
