-- The order by energy, then reading order. It is total, so a class has one least member; `better` takes the first of two
use mathlib.Core.Path.{◌≡◌, refl, sym, ◌∙◌, subst}
use mathlib.Core.Logic.{◌⊎◌, inl, inr}
use mathlib.Core.Bool.{Bool, true, false, not, cond}
use mathlib.Core.List.{List, [], ◌∷◌, ◌++◌}
use Prim.Native.Nat.{ℕ, ◌+◌, ◌<◌, ◌≤◌}
use native.Mathlib.Nat.{eq-or-lt_of_le}
use native.Mathlib.Decide.{dec_le}
use native.Mathlib.Omega.{arith}
use lib.Arith.{lt_of_le-ne}
use lib.Dec.{T, leb, ltb, ltb→lt, nltb→le}
use borrow.Author.Tests.{leb-true, leb-false, ltb-true, ltb-false}
use lib.ListN.{length}
use lib.IntN.{ℤ}
use lib.Signed.{◌<ℤ◌, lt_z, lt_z_yes, lt_z_no}
use Rattle.integers.proofs.Zed.{up, down, ud-eq, eq-ud, le-ud, ud-lt, lt-ud}
use Rattle.e8.specs.Energy.{energy}
use Rattle.e8.specs.Order.{Reads, before}
use Rattle.e8.specs.Least.{better}

infix 4 ◌≼◌
-- a has less energy than b, or as much and stands before it or is it
abbrev pub ◌≼◌ : List ℤ → List ℤ → Type 0
a ≼ b = (energy a < energy b) ⊎ ((energy a ≡ energy b) × Reads a b)

nat-cases : (m n : ℕ) → (m < n) ⊎ ((m ≡ n) ⊎ (n < m))
nat-cases m n = go (dec_le m n)
  where
    go : Dec (m ≤ n) → (m < n) ⊎ ((m ≡ n) ⊎ (n < m))
    go (yes h) = elim (eq-or-lt_of_le h) [ inl e ↦ inr (inl e) | inr l ↦ inl l ]
    go (no h) = inr (inr (omega arith))

pub int-cases : (a b : ℤ) → (a <ℤ b) ⊎ ((a ≡ b) ⊎ (b <ℤ a))
int-cases a b = go (nat-cases (up a + down b) (up b + down a))
  where
    go : (up a + down b < up b + down a) ⊎ ((up a + down b ≡ up b + down a) ⊎ (up b + down a < up a + down b)) → (a <ℤ b) ⊎ ((a ≡ b) ⊎ (b <ℤ a))
    go (inl h) = inl (ud-lt a b h)
    go (inr (inl e)) = inr (inl (ud-eq a b e))
    go (inr (inr h)) = inr (inr (ud-lt b a h))

-- ---- an order

reads-refl : (a : List ℤ) → Reads a a
reads-refl [] = tt
reads-refl (a ∷ av) = inr (refl, reads-refl av)

pub itself : (a : List ℤ) → a ≼ a
itself a = inr (refl, reads-refl a)

reads-trans : (a b c : List ℤ) → Reads a b → Reads b c → Reads a c
reads-trans [] b c h k = tt
reads-trans (a ∷ av) [] c h k = absurd h
reads-trans (a ∷ av) (b ∷ bv) [] h k = k
reads-trans (a ∷ av) (b ∷ bv) (c ∷ cv) (inl h) (inl k) = inl (ud-lt a c (omega (arith, lt-ud h, lt-ud k)))
reads-trans (a ∷ av) (b ∷ bv) (c ∷ cv) (inl h) (inr k) = inl (ud-lt a c (omega (arith, lt-ud h, eq-ud k.0)))
reads-trans (a ∷ av) (b ∷ bv) (c ∷ cv) (inr h) (inl k) = inl (ud-lt a c (omega (arith, eq-ud h.0, lt-ud k)))
reads-trans (a ∷ av) (b ∷ bv) (c ∷ cv) (inr h) (inr k) = inr (h.0 ∙ k.0, reads-trans av bv cv h.1 k.1)

pub trans : (a b c : List ℤ) → a ≼ b → b ≼ c → a ≼ c
trans a b c (inl h) (inl k) = inl (omega arith)
trans a b c (inl h) (inr k) = inl (omega arith)
trans a b c (inr h) (inl k) = inl (omega arith)
trans a b c (inr h) (inr k) = inr (omega arith, reads-trans a b c h.1 k.1)

pub reads-antisym : (a b : List ℤ) → Reads a b → Reads b a → a ≡ b
reads-antisym [] [] h k = refl
reads-antisym [] (b ∷ bv) h k = absurd k
reads-antisym (a ∷ av) [] h k = absurd h
reads-antisym (a ∷ av) (b ∷ bv) (inl h) (inl k) = absurd (omega (arith, lt-ud h, lt-ud k))
reads-antisym (a ∷ av) (b ∷ bv) (inl h) (inr k) = absurd (omega (arith, lt-ud h, eq-ud k.0))
reads-antisym (a ∷ av) (b ∷ bv) (inr h) (inl k) = absurd (omega (arith, eq-ud h.0, lt-ud k))
reads-antisym (a ∷ av) (b ∷ bv) (inr h) (inr k) = cc (h.0, reads-antisym av bv h.1 k.1)

pub antisym : (a b : List ℤ) → a ≼ b → b ≼ a → a ≡ b
antisym a b (inl h) (inl k) = absurd (omega arith)
antisym a b (inl h) (inr k) = absurd (omega arith)
antisym a b (inr h) (inl k) = absurd (omega arith)
antisym a b (inr h) (inr k) = reads-antisym a b h.1 k.1

-- ---- the test of reading order

not-less : (a b : ℤ) → lt_z a b ≡ false → up b + down a ≤ up a + down b
not-less a b e = le-ud (lt_z_no {a = a} {b = b} (subst (λ s. T (not s)) (sym e) tt))

neither-less : (a b : ℤ) → lt_z a b ≡ false → lt_z b a ≡ false → a ≡ b
neither-less a b e f = ud-eq a b (omega (arith, not-less a b e, not-less b a f))

before-yes : (a b : List ℤ) → T (before a b) → Reads a b
unfolding before
before-yes [] b h = tt
before-yes (a ∷ av) [] h = absurd h
before-yes (a ∷ av) (b ∷ bv) h = go (lt_z a b) (lt_z b a) refl refl (before-yes av bv) h
  where
    go : (p q : Bool) → lt_z a b ≡ p → lt_z b a ≡ q → (T (before av bv) → Reads av bv) → T (cond p true (cond q false (before av bv))) → Reads (a ∷ av) (b ∷ bv)
    go true q hp hq f t = inl (lt_z_yes (subst T (sym hp) tt))
    go false true hp hq f t = absurd t
    go false false hp hq f t = inr (neither-less a b hp hq, f t)

before-no : (a b : List ℤ) → T (not (before a b)) → Reads b a
unfolding before
before-no [] b h = absurd h
before-no (a ∷ av) [] h = tt
before-no (a ∷ av) (b ∷ bv) h = go (lt_z a b) (lt_z b a) refl refl (before-no av bv) h
  where
    go : (p q : Bool) → lt_z a b ≡ p → lt_z b a ≡ q → (T (not (before av bv)) → Reads bv av) → T (not (cond p true (cond q false (before av bv))))
        → Reads (b ∷ bv) (a ∷ av)
    go true q hp hq f t = absurd t
    go false true hp hq f t = inl (lt_z_yes (subst T (sym hq) tt))
    go false false hp hq f t = inr (neither-less b a hq hp, f t)

-- ---- the better of two

better-cases : (a b : List ℤ) → ((better a b ≡ a) × (a ≼ b)) ⊎ ((better a b ≡ b) × (b ≼ a))
unfolding better
better-cases a b = go (ltb (energy a) (energy b)) (ltb (energy b) (energy a)) (before a b) refl refl refl
  where
    go : (p q r : Bool) → ltb (energy a) (energy b) ≡ p → ltb (energy b) (energy a) ≡ q → before a b ≡ r
        → ((cond p a (cond q b (cond r a b)) ≡ a) × (a ≼ b)) ⊎ ((cond p a (cond q b (cond r a b)) ≡ b) × (b ≼ a))
    go true q r hp hq hr = inl (refl, inl (ltb→lt (energy a) (energy b) (subst T (sym hp) tt)))
    go false true r hp hq hr = inr (refl, inl (ltb→lt (energy b) (energy a) (subst T (sym hq) tt)))
    go false false r hp hq hr = last r hr
        (omega (arith, nltb→le (energy a) (energy b) (subst (λ s. T (not s)) (sym hp) tt), nltb→le (energy b) (energy a) (subst (λ s. T (not s)) (sym hq) tt)))
      where
        last : (r : Bool) → before a b ≡ r → energy a ≡ energy b → ((cond r a b ≡ a) × (a ≼ b)) ⊎ ((cond r a b ≡ b) × (b ≼ a))
        last true hr e = inl (refl, inr (e, before-yes a b (subst T (sym hr) tt)))
        last false hr e = inr (refl, inr (sym e, before-no a b (subst (λ s. T (not s)) (sym hr) tt)))

pub better-is : (Q : List ℤ → Type 0) (a b : List ℤ) → Q a → Q b → Q (better a b)
better-is Q a b qa qb = elim (better-cases a b) [ inl h ↦ subst Q (sym h.0) qa | inr h ↦ subst Q (sym h.0) qb ]

pub better-left : (a b : List ℤ) → better a b ≼ a
better-left a b = elim (better-cases a b) [ inl h ↦ subst (λ l. l ≼ a) (sym h.0) (itself a) | inr h ↦ subst (λ l. l ≼ a) (sym h.0) h.1 ]

pub better-right : (a b : List ℤ) → better a b ≼ b
better-right a b = elim (better-cases a b) [ inl h ↦ subst (λ l. l ≼ b) (sym h.0) h.1 | inr h ↦ subst (λ l. l ≼ b) (sym h.0) (itself b) ]

-- what one knows of the order decides it
pub better-first : (a b : List ℤ) → a ≼ b → better a b ≡ a
better-first a b h = antisym (better a b) a (better-left a b) (better-is (λ l. a ≼ l) a b (itself a) h)

pub better-second : (a b : List ℤ) → b ≼ a → better a b ≡ b
better-second a b h = antisym (better a b) b (better-right a b) (better-is (λ l. b ≼ l) a b h (itself b))

-- where the first coordinates differ, they and the energies decide
pub better-heads : (c d : ℤ) (av bv : List ℤ) (e f : ℕ) → (c ≡ d → ⊥) → e ≡ energy (c ∷ av) → f ≡ energy (d ∷ bv)
    → better (c ∷ av) (d ∷ bv) ≡ cond (cond (lt_z c d) (leb e f) (ltb e f)) (c ∷ av) (d ∷ bv)
better-heads c d av bv e f ne he hf = go (lt_z c d) (cond (lt_z c d) (leb e f) (ltb e f)) refl refl
  where
    equal-or : {e f : ℕ} {R : Type 0} → e ≤ f → R → (e < f) ⊎ ((e ≡ f) × R)
    equal-or h r = elim (eq-or-lt_of_le h) [ inl q ↦ inr (q, r) | inr l ↦ inl l ]

    go : (p q : Bool) → lt_z c d ≡ p → cond p (leb e f) (ltb e f) ≡ q → better (c ∷ av) (d ∷ bv) ≡ cond q (c ∷ av) (d ∷ bv)
    go true true hp hq = better-first (c ∷ av) (d ∷ bv) (equal-or (omega (arith, he, hf, leb-true e f hq)) (inl (lt_z_yes (subst T (sym hp) tt))))
    go true false hp hq = better-second (c ∷ av) (d ∷ bv) (inl (omega (arith, he, hf, leb-false e f hq)))
    go false true hp hq = better-first (c ∷ av) (d ∷ bv) (inl (omega (arith, he, hf, ltb-true e f hq)))
    go false false hp hq = better-second (c ∷ av) (d ∷ bv) (equal-or (omega (arith, he, hf, ltb-false e f hq))
        (inl (ud-lt d c (lt_of_le-ne (not-less c d hp) (λ q. ne (sym (ud-eq d c q)))))))

-- ---- one list after another

pub energy-append : (a b : List ℤ) → energy (a ++ b) ≡ energy a + energy b
unfolding energy
energy-append [] b = omega arith
energy-append (z ∷ a) b = omega (arith, energy-append a b)

reads-append : (a c b d : List ℤ) → length a ≡ length c → Reads a c → Reads b d → Reads (a ++ b) (c ++ d)
reads-append [] [] b d l h k = k
reads-append [] (z ∷ c) b d l h k = absurd (omega arith)
reads-append (y ∷ a) [] b d l h k = absurd h
reads-append (y ∷ a) (z ∷ c) b d l (inl h) k = inl h
reads-append (y ∷ a) (z ∷ c) b d l (inr h) k = inr (h.0, reads-append a c b d (omega arith) h.1 k)

pub append-mono : (a c b d : List ℤ) → length a ≡ length c → a ≼ c → b ≼ d → (a ++ b) ≼ (c ++ d)
append-mono a c b d l (inl h) (inl k) = inl (omega (arith, energy-append a b, energy-append c d))
append-mono a c b d l (inl h) (inr k) = inl (omega (arith, energy-append a b, energy-append c d))
append-mono a c b d l (inr h) (inl k) = inl (omega (arith, energy-append a b, energy-append c d))
append-mono a c b d l (inr h) (inr k) = inr (omega (arith, energy-append a b, energy-append c d), reads-append a c b d l h.1 k.1)
