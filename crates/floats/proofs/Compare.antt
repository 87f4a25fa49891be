-- Floats compared, by the fractions that they are. Assumes nothing.
use Prim.Native.Nat.{ℕ, ◌*◌, ◌≤◌, ◌<◌}
use mathlib.Core.Path.{◌≡◌, refl, sym, ap, ap₂, ◌∙◌, subst}
use mathlib.Core.Bool.{Bool, true, false, ◌&&◌, ◌||◌, beq, true≢false}
use native.Mathlib.Nat.{mul-pos, zero-mul, mul-le-mul_right, mul-lt-mul_of_pos_right, le_of_mul-le-mul_right, lt_of_mul-lt-mul_right, eq_of_mul-eq-mul_right}
use native.Mathlib.Omega.{arith}
use native.Mathlib.Decide.{ℕ_discrete, dec_lt}
use lib.Dec.{T, eqb, ltb, eqb→eq}
use lib.Ieee.{Float, nan, inf, fin, up, down, eq, lt, level}
use lib.Ieee.Exact.{HasValue}
use lib.Ieee.Fits.{down_pos, and_l}
use borrow.Author.Tests.{eq-eqb, ne_eqb, lt-ltb, le-ltb}

-- p and q times u are p' and q' times v
scaled-eqb : (p q p' q' u v : ℕ) → 0 < u → 0 < v → p * u ≡ p' * v → q * u ≡ q' * v → eqb p q ≡ eqb p' q'
scaled-eqb p q p' q' u v hu hv e f = go (ℕ_discrete p q)
  where
    go : Dec (p ≡ q) → eqb p q ≡ eqb p' q'
    go (yes h) = eq-eqb p q h ∙ sym (eq-eqb p' q' (eq_of_mul-eq-mul_right v hv p' q' (sym e ∙ ap (λ (n : ℕ). n * u) h ∙ f)))
    go (no h) = ne_eqb p q h ∙ sym (ne_eqb p' q' (λ k. h (eq_of_mul-eq-mul_right u hu p q (e ∙ ap (λ (n : ℕ). n * v) k ∙ sym f))))

pub scaled-ltb : (p q p' q' u v : ℕ) → 0 < u → 0 < v → p * u ≡ p' * v → q * u ≡ q' * v → ltb p q ≡ ltb p' q'
scaled-ltb p q p' q' u v hu hv e f = go (dec_lt p q)
  where
    go : Dec (p < q) → ltb p q ≡ ltb p' q'
    go (yes h) =
        lt-ltb p q h ∙ sym (lt-ltb p' q' (lt_of_mul-lt-mul_right v (omega (arith, e, f, mul-lt-mul_of_pos_right h hu))))
    go (no h) =
        let l : q ≤ p = omega arith in
        le-ltb p q l ∙ sym (le-ltb p' q' (le_of_mul-le-mul_right (omega (arith, e, f, mul-le-mul_right u l)) hv))

-- ± a / c and ± b / d are equal as ± a d and ± b c are
pub eq-values : (x y : Float) (s t : Bool) (a c b d : ℕ) → 0 < c → 0 < d → HasValue x s a c → HasValue y t b d → eq x y ≡ level s (a * d) t (b * c)
unfolding eq
eq-values nan y s t a c b d hc hd v w = absurd v
eq-values (inf s') y s t a c b d hc hd v w = absurd v
eq-values (fin s' m e) nan s t a c b d hc hd v w = absurd w
eq-values (fin s' m e) (inf t') s t a c b d hc hd v w = absurd w
eq-values (fin s' m e) (fin t' n g) s t a c b d hc hd v w =
    ap₂ (λ (i j : Bool). eqb p q && (beq i j || eqb p 0)) v.0 w.0
    ∙ ap₂ (λ (i j : Bool). i && (beq s t || j)) (scaled-eqb p q (a * d) (b * c) (c * d) (down e * down g) above below left right)
    (scaled-eqb p 0 (a * d) 0 (c * d) (down e * down g) above below left (zero-mul (c * d) ∙ sym (zero-mul (down e * down g))))
  where
    p : ℕ
    p = m * up e * down g

    q : ℕ
    q = n * up g * down e

    above : 0 < c * d
    above = mul-pos hc hd

    below : 0 < down e * down g
    below = mul-pos (down_pos e) (down_pos g)

    swap : (x c a z g d : ℕ) → x * c ≡ a * z → x * g * (c * d) ≡ a * d * (z * g)
    swap x c a z g d k = omega (arith, ap (λ (i : ℕ). i * (g * d)) k)

    left : p * (c * d) ≡ a * d * (down e * down g)
    left = swap (m * up e) c a (down e) (down g) d v.1

    right : q * (c * d) ≡ b * c * (down e * down g)
    right = ap (λ (i : ℕ). q * i) {x = c * d} {y = d * c} (omega arith) ∙ swap (n * up g) d b (down g) (down e) c w.1
        ∙ ap (λ (i : ℕ). b * c * i) {x = down g * down e} {y = down e * down g} (omega arith)

-- a / c and b / c are in order as a and b are
pub lt-parts : (x y : Float) (a b c : ℕ) → 0 < c → HasValue x false a c → HasValue y false b c → lt x y ≡ ltb a b
unfolding lt
lt-parts nan y a b c h v w = absurd v
lt-parts (inf s) y a b c h v w = absurd v
lt-parts (fin s m e) nan a b c h v w = absurd w
lt-parts (fin s m e) (inf t) a b c h v w = absurd w
lt-parts (fin s m e) (fin t n g) a b c h v w =
    rw (v.0, w.0)
    (scaled-ltb (m * up e * down g) (n * up g * down e) a b c (down e * down g) h (mul-pos (down_pos e) (down_pos g))
    (left (m * up e) a (down e) (down g) v.1) (right (n * up g) b (down e) (down g) w.1))
  where
    left : (x a e g : ℕ) → x * c ≡ a * e → x * g * c ≡ a * (e * g)
    left x a e g p = omega (arith, ap (λ (z : ℕ). z * g) p)

    right : (y b e g : ℕ) → y * c ≡ b * g → y * e * c ≡ b * (e * g)
    right y b e g q = omega (arith, ap (λ (z : ℕ). z * e) q)

-- what is equal to ± a / c is a / c in size
pub record Sized (y : Float) (a c : ℕ) : Type 0 where
  pub sign : Bool
  pub value : HasValue y sign a c

pub equal-sized : (x y : Float) (s : Bool) (a c : ℕ) → eq x y ≡ true → HasValue x s a c → Sized y a c
unfolding eq
equal-sized nan y s a c h v = absurd v
equal-sized (inf i) y s a c h v = absurd v
equal-sized (fin i m e) nan s a c h v = absurd (true≢false (sym h))
equal-sized (fin i m e) (inf j) s a c h v = absurd (true≢false (sym h))
equal-sized (fin i m e) (fin j n g) s a c h v = record {
  sign = j;
  value = (refl, eq_of_mul-eq-mul_right (down e) (down_pos e) (n * up g * c) (a * down g) (cross (m * up e) (n * up g) a c (down e) (down g) same v.1));
}
  where
    first : (p q : ℕ) (t : Bool) → (eqb p q && t) ≡ true → p ≡ q
    first p q t k = eqb→eq p q (and_l (eqb p q) t (subst T (sym k) tt))

    same : m * up e * down g ≡ n * up g * down e
    same = first (m * up e * down g) (n * up g * down e) (beq i j || eqb (m * up e * down g) 0) h

    cross : (x y a c e g : ℕ) → x * g ≡ y * e → x * c ≡ a * e → y * c * e ≡ a * g * e
    cross x y a c e g p q = omega (arith, ap (λ (z : ℕ). z * c) p, ap (λ (z : ℕ). z * g) q)
