-- What a tally says of the judgements that were counted in it. Assumes nothing.
use Prim.Native.Nat.{ℕ, ◌+◌, ◌≤◌, ◌<◌}
use mathlib.Core.Path.{◌≡◌, refl, sym, ap, ◌∙◌}
use mathlib.Core.Logic.{◌⊎◌, inl, inr}
use mathlib.Core.Bool.{Bool, true, false, ◌&&◌, cond}
use mathlib.Core.List.{List, [], ◌∷◌, ◌++◌}
use native.Mathlib.Omega.{arith}
use lib.Dec.{ltb}
use lib.ListN.{length, get_or, set, length-set}
use lib.Seq.{get_or-set_same, get_or-set_other, set-get_or}
use borrow.Author.Tests.{lt-ltb, le-ltb, ltb-true}
use Rattle.test_tally.specs.Tally.{raised, place_of, judged, Judgement, judged_all, all_passed, GrownBy}

-- ---- one judgement

pub judged-length : (k : ℕ) (b : Bool) (t : List ℕ) → length (judged k b t) ≡ length t
unfolding judged
judged-length k b t = length-set t (place_of k b) (raised (get_or t (place_of k b) 0))

-- a figure that is below its end is raised, and one at it stays
raised_below : (n : ℕ) → n < 1000000 → raised n ≡ n + 1
raised_below n h = rw (lt-ltb n 1000000 h) refl

raised-full : (n : ℕ) → 1000000 ≤ n → raised n ≡ n
raised-full n h = rw (le-ltb n 1000000 h) refl

-- the place p raised, where it is the judgement's, and left where its figure is full
pub place-raised : (k : ℕ) (b : Bool) (t : List ℕ) (p : ℕ) → p ≡ place_of k b → get_or t p 0 < 1000000 → set t p (get_or t p 0 + 1) ≡ judged k b t
unfolding judged
place-raised k b t p e h =
    ap (set t p) (sym (raised_below (get_or t p 0) h)) ∙ ap (λ (q : ℕ). set t q (raised (get_or t q 0))) e

pub place-full : (k : ℕ) (b : Bool) (t : List ℕ) (p : ℕ) → p ≡ place_of k b → 1000000 ≤ get_or t p 0 → t ≡ judged k b t
unfolding judged
place-full k b t p e h =
    sym (set-get_or t p 0) ∙ ap (set t p) (sym (raised-full (get_or t p 0) h)) ∙ ap (λ (q : ℕ). set t q (raised (get_or t q 0))) e

rises : (n : ℕ) → n ≤ raised n
rises n = go (ltb n 1000000)
  where
    go : (b : Bool) → n ≤ cond b (n + 1) n
    go true = omega arith
    go false = omega arith

-- no figure of the differences falls
judged-rises : (k : ℕ) (b : Bool) (t : List ℕ) → length t ≡ 16 → get_or t 15 0 ≤ get_or (judged k b t) 15 0
unfolding judged
judged-rises k b t l = go (place_of k b) (within k b)
  where
    within : (k : ℕ) (b : Bool) → (place_of k b ≡ 15) ⊎ (place_of k b < 15)
    within k false = inl refl
    within k true = inner (ltb k 15) refl
      where
        inner : (c : Bool) → ltb k 15 ≡ c → (cond c k 15 ≡ 15) ⊎ (cond c k 15 < 15)
        inner true e = inr (ltb-true k 15 e)
        inner false e = inl refl

    go : (p : ℕ) → (p ≡ 15) ⊎ (p < 15) → get_or t 15 0 ≤ get_or (set t p (raised (get_or t p 0))) 15 0
    go p (inl e) = rw (e, get_or-set_same t 15 (raised (get_or t 15 0)) 0 (omega arith)) (rises (get_or t 15 0))
    go p (inr h) = rw (get_or-set_other t p 15 (raised (get_or t p 0)) 0 (λ e. omega arith)) (omega arith)

-- a judgement that did not pass raises them
failed-rises : (k : ℕ) (t : List ℕ) → length t ≡ 16 → get_or t 15 0 < 1000000 → get_or (judged k false t) 15 0 ≡ get_or t 15 0 + 1
unfolding judged
failed-rises k t l h = get_or-set_same t 15 (raised (get_or t 15 0)) 0 (omega arith) ∙ raised_below (get_or t 15 0) h

-- ---- all of them

all-rises : (js : List Judgement) (t : List ℕ) → length t ≡ 16 → get_or t 15 0 ≤ get_or (judged_all js t) 15 0
unfolding judged_all
all-rises [] t l = omega arith
all-rises (j ∷ js) t l =
    omega (arith, judged-rises j.check j.passed t l, all-rises js (judged j.check j.passed t) (judged-length j.check j.passed t ∙ l))

-- NO DIFFERENCE: where the last figure is as it was, every judgement passed
pub none-different : (js : List Judgement) (t : List ℕ) → length t ≡ 16 → get_or t 15 0 < 1000000 → get_or (judged_all js t) 15 0 ≡ get_or t 15 0
    → all_passed js ≡ true
unfolding judged_all all_passed
none-different [] t l h e = refl
none-different (j ∷ js) t l h e = go j.passed refl (λ b s. none-different js (judged j.check j.passed t) (judged-length j.check j.passed t ∙ l) b s)
  where
    t' : List ℕ
    t' = judged j.check j.passed t

    l' : length t' ≡ 16
    l' = judged-length j.check j.passed t ∙ l

    first : get_or t 15 0 ≤ get_or t' 15 0
    first = judged-rises j.check j.passed t l

    rest : get_or t' 15 0 ≤ get_or (judged_all js t') 15 0
    rest = all-rises js t' l'

    go : (b : Bool) → j.passed ≡ b → (get_or t' 15 0 < 1000000 → get_or (judged_all js t') 15 0 ≡ get_or t' 15 0 → all_passed js ≡ true)
        → (j.passed && all_passed js) ≡ true
    go true p hypothesis = rw p (hypothesis (omega (arith, first, rest, e)) (omega (arith, first, rest, e)))
    go false p hypothesis =
        let f : get_or t' 15 0 ≡ get_or t 15 0 + 1 = ap (λ (b : Bool). get_or (judged j.check b t) 15 0) p ∙ failed-rises j.check t l h in
        absurd (omega (arith, f, rest, e))

-- judgements after judgements
pub then-judged : (js ks : List Judgement) (t : List ℕ) → judged_all ks (judged_all js t) ≡ judged_all (js ++ ks) t
unfolding judged_all
then-judged [] ks t = refl
then-judged (j ∷ js) ks t = then-judged js ks (judged j.check j.passed t)

-- ---- tallies that grew

pub as_it_was : (t : List ℕ) → GrownBy t t
unfolding judged_all
as_it_was t = record { judgements = []; counted = refl }

pub grown-more : {t u v : List ℕ} → GrownBy t u → GrownBy u v → GrownBy t v
grown-more {t} a b = record {
  judgements = a.judgements ++ b.judgements;
  counted = b.counted ∙ ap (judged_all b.judgements) a.counted ∙ then-judged a.judgements b.judgements t;
}

pub by_one : {t u : List ℕ} (k : ℕ) (b : Bool) → u ≡ judged k b t → GrownBy t u
unfolding judged_all
by_one k b e = record { judgements = record { check = k; passed = b } ∷ []; counted = e }
