-- Where arithmetic on parts of a power of two rounds nothing, for f32 and f64. Assumes nothing.
use Prim.Native.Nat.{ℕ, zero, suc, ◌+◌, ◌-◌, ◌*◌, ◌%◌, ◌^◌, ◌<◌, ◌≤◌}
use native.Mathlib.Nat.{mul_assoc, mul_comm, mul-sub, mul-pos, le_of_lt, lt_of_lt_of_le}
use native.Mathlib.Omega.{arith}
use mathlib.Core.Path.{◌≡◌, refl, sym, ap, ap₂, ◌∙◌}
use mathlib.Core.Bool.{Bool, true, false, ◌&&◌, cond}
use lib.Dec.{T, eqb, leb, ltb, ltb→lt}
use lib.IntN.{ℤ, pos}
use lib.Pow.{pow-add, pow_pos, pow_mono, shl_lt}
use lib.Ieee.{Float, nan, inf, fin, Format, binary64, prec, emax, low, up, down, round, add, sum, div, fits, of_int}
use lib.Ieee.Exact.{HasValue, round_exact}
use lib.Ieee.Fits.{reach, up_pos, down_pos, and_l, and_r}
use lib.Ieee.Scale.{round_same}
use lib.Ieee.Back.{round_whole}
use borrow.Author.Tests.{ne_eqb}
use Rattle.floats.proofs.Compare.{scaled-ltb}

-- a value of a format has no more digits than the format keeps
pub digits : (f : Format) (s : Bool) (m : ℕ) (e : ℤ) → T (fits f (fin s m e)) → m < 2 ^ prec f
unfolding fits
digits f s zero e t = pow_pos (prec f)
digits f s (suc m) e t =
    let odd? : Bool = eqb (suc m % 2) 1 in
    let few? : Bool = ltb (suc m) (2 ^ prec f) in
    let fine? : Bool = leb (down e) (2 ^ low f) in
    let a = and_l (odd? && few? && fine?) (ltb (suc m * up e) (2 ^ suc (emax f) * down e)) t in
    ltb→lt (suc m) (2 ^ prec f) (and_r odd? few? (and_l (odd? && few?) fine? a))

-- a / 2 ^ i is a value of a format that holds a and 2 ^ -i
pub parts : (f : Format) (s : Bool) (a i : ℕ) → i ≤ low f → a < 2 ^ prec f → HasValue (round f s a (2 ^ i)) s a (2 ^ i)
parts f s a i h l =
    round_exact f s a (2 ^ i) a (low f - i) (pow_pos i) l
    (lt_of_lt_of_le (shl_lt (prec f) (low f - i) l) (pow_mono (room (prec f) (low f) i (suc (emax f)) (reach f))))
    (ap (λ (k : ℕ). a * 2 ^ k) (whole (low f) i h) ∙ ap (λ (k : ℕ). a * k) (pow-add 2 (low f - i) i) ∙ sym (mul_assoc a (2 ^ (low f - i)) (2 ^ i)))
  where
    whole : (l i : ℕ) → i ≤ l → l ≡ l - i + i
    whole l i h = omega arith

    room : (p l i e : ℕ) → p ≤ e → p + (l - i) ≤ l + e
    room p l i e h = omega arith

pub parts-exact : (a i : ℕ) → i ≤ 1074 → a < 2 ^ 53 → HasValue (round binary64 false a (2 ^ i)) false a (2 ^ i)
parts-exact a i h s = parts binary64 false a i h s

-- a quotient of two whole numbers
cross : (u v a b e d : ℕ) → u * 1 ≡ a * e → v * 1 ≡ b * d → u * d * b ≡ a * (v * e)
cross u v a b e d p q = omega (arith, ap (λ (x : ℕ). x * (d * b)) p, ap (λ (x : ℕ). a * e * x) q)

not-zero : (n : ℕ) → eqb (suc n) 0 ≡ false
not-zero n = ne_eqb (suc n) 0 (λ e. omega arith)

pub div-whole : (x y : Float) (a b : ℕ) → 0 < b → HasValue x false a 1 → HasValue y false b 1 → div binary64 x y ≡ round binary64 false a b
unfolding div
div-whole (fin false m e) (fin false zero d) a b h v w = let p = mul-pos h (down_pos d) in absurd (omega (arith, w.1))
div-whole (fin false m e) (fin false (suc n) d) a b h v w =
    ap (λ (t : Bool). cond t (cond (eqb m 0) nan (inf false)) (round binary64 false (m * up e * down d) (suc n * up d * down e)))
    {x = eqb (suc n) 0} {y = false} (not-zero n)
    ∙ round_same binary64 false (m * up e * down d) (suc n * up d * down e) a b
    (mul-pos (mul-pos (omega arith) (up_pos d)) (down_pos e)) h
    (cross (m * up e) (suc n * up d) a b (down e) (down d) v.1 w.1)
div-whole (fin true m e) y a b h v w = let z : ◌≡◌ {A = ℕ} 0 1 = cc in absurd (omega arith)
div-whole (fin false m e) (fin true n d) a b h v w = let z : ◌≡◌ {A = ℕ} 0 1 = cc in absurd (omega arith)
div-whole (fin false m e) nan a b h v w = absurd w
div-whole (fin false m e) (inf s) a b h v w = absurd w
div-whole nan y a b h v w = absurd v
div-whole (inf s) y a b h v w = absurd v

-- ---- sums

-- ± a / c ± b / c is ± a' / c' ± b' / c', where a / c is a' / c' and b / c is b' / c'
sum_same : (f : Format) (s t : Bool) (a b c a' b' c' : ℕ) → 0 < c → 0 < c' → a * c' ≡ a' * c → b * c' ≡ b' * c → sum f s a t b c ≡ sum f s a' t b' c'
unfolding sum
sum_same f s t a b c a' b' c' p q i j =
    rw (
      round_same f s (a + b) c (a' + b') c' p q (omega (arith, i, j)),
      round_same f t (b - a) c (b' - a') c' p q (less b a b' a' j i),
      scaled-ltb a b a' b' c' c q p i j,
      scaled-ltb b a b' a' c' c q p j i,
      round_same f (s && ltb b' a') (a - b) c (a' - b') c' p q (less a b a' b' i j),
    ) refl
  where
    less : (a b a' b' : ℕ) → a * c' ≡ a' * c → b * c' ≡ b' * c → (a - b) * c' ≡ (a' - b') * c
    less a b a' b' i j =
        mul_comm (a - b) c' ∙ mul-sub c' a b
        ∙ ap₂ (λ (m n : ℕ). m - n) (mul_comm c' a ∙ i ∙ mul_comm a' c) (mul_comm c' b ∙ j ∙ mul_comm b' c)
        ∙ sym (mul-sub c a' b') ∙ mul_comm c (a' - b')

-- a sum of two with one denominator
pub add-values : (f : Format) (x y : Float) (s t : Bool) (a b c : ℕ) → 0 < c → HasValue x s a c → HasValue y t b c → add f x y ≡ sum f s a t b c
unfolding add
add-values f nan y s t a b c h v w = absurd v
add-values f (inf i) y s t a b c h v w = absurd v
add-values f (fin i m e) nan s t a b c h v w = absurd w
add-values f (fin i m e) (inf j) s t a b c h v w = absurd w
add-values f (fin i m e) (fin j n d) s t a b c h v w =
    rw (v.0, w.0)
    (sum_same f s t (m * up e * down d) (n * up d * down e) (down e * down d) a b c (mul-pos (down_pos e) (down_pos d)) h
    (left (m * up e) a c (down e) (down d) v.1)
    (right (n * up d) b c (down e) (down d) w.1))
  where
    left : (x a c e d : ℕ) → x * c ≡ a * e → x * d * c ≡ a * (e * d)
    left x a c e d p = omega (arith, ap (λ (z : ℕ). z * d) p)

    right : (y b c e d : ℕ) → y * c ≡ b * d → y * e * c ≡ b * (e * d)
    right y b c e d q = omega (arith, ap (λ (z : ℕ). z * e) q)

pub add_parts : (x y : Float) (a b c : ℕ) → 0 < c → HasValue x false a c → HasValue y false b c → add binary64 x y ≡ round binary64 false (a + b) c
unfolding sum
add_parts x y a b c h v w = add-values binary64 x y false false a b c h v w

-- a fraction in smaller parts
pub smaller-parts : (x : Float) (s : Bool) (a c t : ℕ) → HasValue x s a c → HasValue x s (a * t) (t * c)
smaller-parts nan s a c t v = v
smaller-parts (inf i) s a c t v = v
smaller-parts (fin i m e) s a c t v = (v.0, omega (arith, ap (λ (z : ℕ). z * t) v.1))

-- a whole number below 2 ^ 53 divided by a power of two is the fraction exactly
pub quotient-exact : (a i : ℕ) → a < 2 ^ 53 → i < 53
    → (div binary64 (of_int binary64 (pos a)) (of_int binary64 (pos (2 ^ i))) ≡ round binary64 false a (2 ^ i))
    × HasValue (round binary64 false a (2 ^ i)) false a (2 ^ i)
unfolding of_int
quotient-exact a i s h = (
  div-whole (round binary64 false a 1) (round binary64 false (2 ^ i) 1) a (2 ^ i) (pow_pos i)
      (round_whole binary64 false a (le_of_lt s)) (round_whole binary64 false (2 ^ i) (pow_mono {i = i} {j = 53} (omega arith))),
  parts-exact a i (omega arith) s,
)
