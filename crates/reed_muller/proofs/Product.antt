-- THE PRODUCT LAW: the product of a word of RM(r,m) and one of RM(s,m) belongs to RM(r + s,m), for every r, s, m.
-- By the halves of the words: v = (a | a + b) and w = (c | c + d) give v·w = (a·c | a·c + a·d + b·c + b·d). Assumes nothing.
use Prim.Native.Nat.{ℕ, zero, suc, ◌+◌, ◌*◌, ◌/◌, ◌%◌, ◌^◌, ◌≤◌, ◌<◌}
use mathlib.Core.Path.{◌≡◌, refl, sym, ap, ◌∙◌, subst}
use mathlib.Core.Logic.{⊎_elim}
use mathlib.Core.Bool.{true}
use native.Mathlib.Omega.{arith}
use lib.Count.{ones}
use Rattle.reed_muller.specs.Level.{weight, backwards, belongs}
use Rattle.reed_muller.proofs.Lies.{weight-high}
use Rattle.reed_muller.proofs.Transform.{double, upper, half_of, both, back_low, back-high, backwards-cong, backwards-add, backwards-twice}
use Rattle.reed_muller.proofs.Belongs.{belongs-of, belongs-above}

-- v has degree below d: its bit is 0 at every mask of d bits or more
record Under (d m : ℕ) (v : ℕ → ℕ) : Type 0 where
  clear : (S : ℕ) → S < 2 ^ m → d ≤ weight S → backwards m v S ≡ 0

under-cong : (d m : ℕ) (v w : ℕ → ℕ) → ((p : ℕ) → p < 2 ^ m → v p % 2 ≡ w p % 2) → Under d m v → Under d m w
under-cong d m v w e u = record { clear = λ S l h. sym (backwards-cong m v w e S) ∙ u.clear S l h }

under-add : (d m : ℕ) (v w : ℕ → ℕ) → Under d m v → Under d m w → Under d m (λ p. v p + w p)
under-add d m v w a b = record { clear = λ S l h. omega (arith, backwards-add m v w S, a.clear S l h, b.clear S l h) }

under_more : (d e m : ℕ) (v : ℕ → ℕ) → d ≤ e → Under d m v → Under e m v
under_more d e m v h u = record { clear = λ S l k. u.clear S l (omega arith) }

-- below degree 0 there is the word 0 alone
under_none : (m : ℕ) (v : ℕ → ℕ) → Under 0 m v → (p : ℕ) → p < 2 ^ m → v p % 2 ≡ 0
under_none m v u p h =
    sym (backwards-twice m v p h)
    ∙ backwards-cong m (backwards m v) (λ q. 0) (λ S l. ap (λ (x : ℕ). x % 2) (u.clear S l (omega arith))) p
    ∙ omega (arith, backwards-add m (λ q. 0) (λ q. 0) p)

under-zero : (d m : ℕ) (v : ℕ → ℕ) → ((p : ℕ) → p < 2 ^ m → v p % 2 ≡ 0) → Under d m v
under-zero d m v z = record { clear = λ S l h. backwards-cong m v (λ q. 0) z S ∙ omega (arith, backwards-add m (λ q. 0) (λ q. 0) S) }

-- ---- the halves

module _ (d m : ℕ) (v : ℕ → ℕ) where
  under_low : Under d (suc m) v → Under d m v
  under_low u = record { clear = λ S l h. sym (back_low m v S l) ∙ u.clear S (omega (arith, double m)) h }

  under-high : Under (suc d) (suc m) v → Under d m (both m v)
  under-high u = record { clear = λ S l h. sym (back-high m v S l) ∙ u.clear (2 ^ m + S) (omega (arith, double m)) (omega (arith, weight-high m S l)) }

  under-join : Under (suc d) m v → Under d m (both m v) → Under (suc d) (suc m) v
  under-join a b = record {
    clear = λ S l h. ⊎_elim
        (λ k. back_low m v S k ∙ a.clear S k h)
        (λ q. ap (backwards (suc m) v) q.1 ∙ back-high m v q.0 q.2
        ∙ b.clear q.0 q.2 (omega (arith, weight-high m q.0 q.2, ap weight q.1)))
        (half_of m S l);
  }

-- ---- the product

times-even : (x y : ℕ) → y % 2 ≡ 0 → (x * y) % 2 ≡ 0
times-even x y e = let h : y ≡ 2 * (y / 2) = omega arith in omega (arith, ap (λ (z : ℕ). x * z) h)

-- the sum of both halves of a product, from the halves' own
cross : (a a' c c' : ℕ) → (a * (c + c') + c * (a + a') + (a + a') * (c + c')) % 2 ≡ (a * c + a' * c') % 2
cross a a' c c' = omega arith

-- what is shown for m: the degree of a product is the sum of the degrees, also where one factor is the word 0
abbrev Products : ℕ → Type 0
Products m = (r s : ℕ) (v w : ℕ → ℕ) → Under (suc r) m v → Under s m w → Under (r + s) m (λ p. v p * w p)

module _ (m : ℕ) (ih : Products m) (r s : ℕ) (v w : ℕ → ℕ) (a : Under (suc r) (suc m) v) (c : Under (suc s) (suc m) w) where
  low : Under (r + suc s) m (λ p. v p * w p)
  low = ih r (suc s) v w (under_low (suc r) m v a) (under_low (suc s) m w c)

  high : Under (r + s) m (both m (λ p. v p * w p))
  high =
      let b : Under r m (both m v) = under-high r m v a in
      let d : Under s m (both m w) = under-high s m w c in
      let cb : Under (r + s) m (λ p. w p * both m v p) = under_more (s + r) (r + s) m _ (omega arith) (ih s r w (both m v) (under_low (suc s) m w c) b) in
      under-cong (r + s) m (λ p. v p * both m w p + w p * both m v p + both m v p * both m w p) (both m (λ p. v p * w p))
      (λ p h. cross (v p) (upper m v p) (w p) (upper m w p))
      (under-add (r + s) m (λ p. v p * both m w p + w p * both m v p) (λ p. both m v p * both m w p)
      (under-add (r + s) m (λ p. v p * both m w p) (λ p. w p * both m v p) (ih r s v (both m w) (under_low (suc r) m v a) d) cb)
      (ih r s (both m v) (both m w) (under_more r (suc r) m (both m v) (omega arith) b) d))

  step : Under (r + suc s) (suc m) (λ p. v p * w p)
  step = let e : suc (r + s) ≡ r + suc s = omega arith in
      subst (λ (d : ℕ). Under d (suc m) (λ p. v p * w p)) e
      (under-join (r + s) m (λ p. v p * w p) (subst (λ (d : ℕ). Under d m (λ p. v p * w p)) (sym e) low) high)

weight-none : weight 0 ≡ 0
unfolding ones
weight-none = refl

-- one factor is the word 0
with_none : (m r : ℕ) (v w : ℕ → ℕ) → Under 0 m w → Under (r + 0) m (λ p. v p * w p)
with_none m r v w c = under-zero (r + 0) m (λ p. v p * w p) (λ p h. times-even (v p) (w p) (under_none m w c p h))

first : Products 0
first r zero v w a c = with_none 0 r v w c
first r (suc s) v w a c = record { clear = λ S l h. absurd (omega (arith, ap weight (single S l), weight-none)) }
  where
    single : (S : ℕ) → S < 1 → S ≡ 0
    single S l = omega arith

next : (m : ℕ) → Products m → Products (suc m)
next m ih r zero v w a c = with_none (suc m) r v w c
next m ih r (suc s) v w a c = step m ih r s v w a c

product : (m : ℕ) → Products m
product zero = first
product (suc m) = next m (product m)

-- ---- as the code says it

module _ (r m : ℕ) (v : ℕ → ℕ) where
  to-under : belongs r m v ≡ true → Under (suc r) m v
  to-under t = record { clear = λ S l h. belongs-above r m v t S l h }

  of-under : Under (suc r) m v → belongs r m v ≡ true
  of-under u = belongs-of r m v (λ S l h. u.clear S l h)

-- a code lies in those of higher degree
pub belongs-more : (r s m : ℕ) (v : ℕ → ℕ) → r ≤ s → belongs r m v ≡ true → belongs s m v ≡ true
belongs-more r s m v h t = of-under s m v (under_more (suc r) (suc s) m v (omega arith) (to-under r m v t))

-- the word 0 belongs to every code
pub belongs-none : (r m : ℕ) → belongs r m (λ p. 0) ≡ true
belongs-none r m = of-under r m (λ p. 0) (under-zero (suc r) m (λ p. 0) (λ p h. refl))

-- THE PRODUCT of words
pub belongs-product : (r s m : ℕ) (v w : ℕ → ℕ) → belongs r m v ≡ true → belongs s m w ≡ true → belongs (r + s) m (λ p. v p * w p) ≡ true
belongs-product r s m v w tv tw =
    let e : r + suc s ≡ suc (r + s) = omega arith in
    of-under (r + s) m (λ p. v p * w p)
    (subst (λ (d : ℕ). Under d m (λ p. v p * w p)) e (product m r (suc s) v w (to-under r m v tv) (to-under s m w tw)))
