-- The tests of sending and of a reading, one by one: what it is to pass each, and what it is not to. Assumes nothing.
use Prim.Native.Nat.{ℕ, zero, suc, ◌+◌, ◌^◌, ◌≤◌, ◌<◌}
use mathlib.Core.Path.{◌≡◌, refl, sym, ap, ap₂, ◌∙◌}
use mathlib.Core.Logic.{◌⊎◌, inl, inr}
use mathlib.Core.Bool.{Bool, true, false, true≢false}
use mathlib.Core.List.{List, [], ◌∷◌}
use native.Mathlib.Nat.{zero-add}
use native.Mathlib.Decide.{ℕ_discrete}
use native.Mathlib.Omega.{arith}
use lib.Dec.{eqb}
use lib.ListN.{length, get_or}
use lib.IntN.{ℤ, pos, negsuc}
use borrow.Author.Tests.{eqb-true, eq-eqb, lt-leb}
use Rattle.reed_muller.specs.Level.{belongs}
use Rattle.e8.specs.Energy.{Within}
use Rattle.e8.proofs.Within.{test-within, within-test}
use Rattle.e8.proofs.Within.{and_both}
use Rattle.frames.specs.Kind.{broken_number, is_kind, is_grade, degrees, levels, message_bytes}
use Rattle.frames.specs.Frame.{level_word, InCodingSet}
use Rattle.frames.specs.Free.{is_free_count}
use Rattle.frames.specs.Sending.{unless}
use Rattle.frames.specs.Reading.{same_number, same_frame, largest_read, in_range, broken, open_refusal}
use Rattle.frames.specs.Demands.{FirstBroken}
use Rattle.frames.proofs.Limits.{few-levels, levels-numbered, number-refuses}

-- ---- one test after the other

-- where the answer is 0, the test was passed and the rest answers 0
pub passed : (t : Bool) (n next : ℕ) → unless t (suc n) next ≡ 0 → (t ≡ true) × (next ≡ 0)
passed true n next e = (refl, e)
passed false n next e = absurd (omega arith)

-- a test whose number is not the answer was passed, and the rest answers
pub past : (t : Bool) (number next : ℕ) → (unless t number next ≡ number → ⊥) → (t ≡ true) × (unless t number next ≡ next)
past true number next h = (refl, refl)
past false number next h = absurd (h refl)

-- the tests of kind and grade: both passed, or one of them answers, whatever the rest would
pub good-row : (k b : ℕ) → unless (is_kind k) 1 (unless (is_grade b) 2 0) ≡ 0 → (is_kind k ≡ true) × (is_grade b ≡ true)
good-row k b e = let t = passed (is_kind k) 0 _ e in (t.0, (passed (is_grade b) 1 0 t.1).0)

pub wrong_row : (k b next r : ℕ) → r ≡ unless (is_kind k) 1 (unless (is_grade b) 2 0) → (r ≡ 0 → ⊥) → r ≡ unless (is_kind k) 1 (unless (is_grade b) 2 next)
wrong_row k b next r e n = e ∙ go (is_kind k) (is_grade b) (λ z. n (e ∙ z))
  where
    go : (s t : Bool) → (unless s 1 (unless t 2 0) ≡ 0 → ⊥) → unless s 1 (unless t 2 0) ≡ unless s 1 (unless t 2 next)
    go false t n = refl
    go true false n = refl
    go true true n = absurd (n refl)

-- ---- frames compared

same_number_lem : (x y : ℤ) → same_number x y ≡ true → x ≡ y
same_number_lem (pos a) (pos b) e = ap pos (eqb-true a b e)
same_number_lem (pos a) (negsuc b) e = absurd (true≢false (sym e))
same_number_lem (negsuc a) (pos b) e = absurd (true≢false (sym e))
same_number_lem (negsuc a) (negsuc b) e = ap negsuc (eqb-true a b e)

pub number_same : (x : ℤ) → same_number x x ≡ true
number_same (pos a) = eq-eqb a a refl
number_same (negsuc a) = eq-eqb a a refl

pub same-frame : (f g : List ℤ) → same_frame f g ≡ true → f ≡ g
unfolding same_frame
same-frame [] [] e = refl
same-frame [] (y ∷ g) e = absurd (true≢false (sym e))
same-frame (x ∷ f) [] e = absurd (true≢false (sym e))
same-frame (x ∷ f) (y ∷ g) e = let t = and_both (same_number x y) (same_frame f g) e in ap₂ ◌∷◌ (same_number_lem x y t.0) (same-frame f g t.1)

pub frame_same : (f : List ℤ) → same_frame f f ≡ true
unfolding same_frame
frame_same [] = refl
frame_same (x ∷ f) = rw (number_same x) (frame_same f)

-- ---- the range

pub range-within : (f : List ℤ) → in_range f ≡ true → Within largest_read f
unfolding in_range
range-within f e = test-within largest_read f e

pub within-range : (f : List ℤ) → Within largest_read f → in_range f ≡ true
unfolding in_range
within-range f h = within-test largest_read f h

-- ---- the levels

-- level j of those from i on, of the degrees rs, is a codeword, by its test
abbrev is_word : ℕ → ℕ → List ℕ → List ℤ → ℕ → Bool
is_word m i rs f j = belongs (get_or rs j 0) m (level_word (i + j) f)

-- the levels from i on are codewords
abbrev Words : ℕ → ℕ → List ℕ → List ℤ → Type 0
Words m i rs f = (j : ℕ) → j < length rs → is_word m i rs f j ≡ true

-- the first that is none, and its number
record Broken (m i : ℕ) (rs : List ℕ) (f : List ℤ) : Type 0 where
  level : ℕ
  inside : level < length rs
  earlier : (j : ℕ) → j < level → is_word m i rs f j ≡ true
  none : is_word m i rs f level ≡ false
  given : broken m i rs f ≡ broken_number (i + level)

-- the first of the levels, and the others
module _ (m i r : ℕ) (rs : List ℕ) (f : List ℤ) where
  here : belongs r m (level_word i f) ≡ is_word m i (r ∷ rs) f 0
  here = let e : i ≡ i + 0 = omega arith in ap (λ (n : ℕ). belongs r m (level_word n f)) e

  later : (j : ℕ) → is_word m (suc i) rs f j ≡ is_word m i (r ∷ rs) f (suc j)
  later j = let e : suc i + j ≡ i + suc j = omega arith in ap (λ (n : ℕ). belongs (get_or rs j 0) m (level_word n f)) e

-- codewords at every level are refused by no number
words-pass : (m i : ℕ) (rs : List ℕ) (f : List ℤ) → Words m i rs f → broken m i rs f ≡ 0
unfolding broken
words-pass m i [] f h = refl
words-pass m i (r ∷ rs) f h = rw (here m i r rs f ∙ h 0 (omega arith)) (words-pass m (suc i) rs f (λ j l. later m i r rs f j ∙ h (suc j) (omega arith)))

-- what levels can answer: 0 where every one is a codeword, else the number of the first that is none
answers : (m i : ℕ) (rs : List ℕ) (f : List ℤ) → Words m i rs f ⊎ Broken m i rs f
unfolding broken
answers m i [] f = inl (λ j l. absurd (omega arith))
answers m i (r ∷ rs) f = go (belongs r m (level_word i f)) refl (answers m (suc i) rs f)
  where
    go : (t : Bool) → belongs r m (level_word i f) ≡ t → Words m (suc i) rs f ⊎ Broken m (suc i) rs f → Words m i (r ∷ rs) f ⊎ Broken m i (r ∷ rs) f
    go true e (inl words) = inl all
      where
        all : Words m i (r ∷ rs) f
        all zero l = sym (here m i r rs f) ∙ e
        all (suc j) l = sym (later m i r rs f j) ∙ words j (omega arith)
    go true e (inr b) = inr (record {
      level = suc b.level;
      inside = omega (arith, b.inside);
      earlier = before;
      none = sym (later m i r rs f b.level) ∙ b.none;
      given = let q : suc i + b.level ≡ i + suc b.level = omega arith in rw e (b.given ∙ ap broken_number q);
    })
      where
        before : (j : ℕ) → j < suc b.level → is_word m i (r ∷ rs) f j ≡ true
        before zero l = sym (here m i r rs f) ∙ e
        before (suc j) l = sym (later m i r rs f j) ∙ b.earlier j (omega arith)
    go false e more = inr (record {
      level = 0;
      inside = omega arith;
      earlier = λ j l. absurd (omega arith);
      none = sym (here m i r rs f) ∙ e;
      given = let q : i ≡ i + 0 = omega arith in rw e (ap broken_number q);
    })

-- the levels of a frame of the right length: all codewords, so that it is in the coding set, or a first one that is none
pub levels-answer : (k : ℕ) (f : List ℤ) → length f ≡ 2 ^ k → InCodingSet k f ⊎ FirstBroken k f (broken k 0 (degrees k) f)
unfolding levels
levels-answer k f l = go (answers k 0 (degrees k) f)
  where
    from : (i : ℕ) → belongs (get_or (degrees k) i 0) k (level_word i f) ≡ is_word k 0 (degrees k) f i
    from i = ap (λ (j : ℕ). belongs (get_or (degrees k) i 0) k (level_word j f)) (sym (zero-add i))

    go : Words k 0 (degrees k) f ⊎ Broken k 0 (degrees k) f → InCodingSet k f ⊎ FirstBroken k f (broken k 0 (degrees k) f)
    go (inl words) = inl (record { long = l; codewords = λ i h. from i ∙ words i h })
    go (inr b) = inr (record {
      level = b.level;
      inside = b.inside;
      earlier = λ i h. from i ∙ b.earlier i h;
      broken = from b.level ∙ b.none;
      given = b.given ∙ ap broken_number (zero-add b.level);
    })

pub set-passes : (k : ℕ) (f : List ℤ) → InCodingSet k f → broken k 0 (degrees k) f ≡ 0
unfolding levels
set-passes k f set =
    words-pass k 0 (degrees k) f (λ i h. ap (λ (j : ℕ). belongs (get_or (degrees k) i 0) k (level_word j f)) (zero-add i) ∙ set.codewords i h)

-- a broken level is refused: its number is not 0, and it is 7, 8 or 13
pub broken-refuses : (k : ℕ) (f : List ℤ) (n : ℕ) → is_kind k ≡ true → FirstBroken k f n → 1 ≤ n
broken-refuses k f n kind b = rw b.given (number-refuses b.level (omega (arith, b.inside, levels-numbered k kind)))

pub seven-eight-thirteen : (k : ℕ) (f : List ℤ) (n : ℕ) → is_kind k ≡ true → FirstBroken k f n → (n ≡ 7) ⊎ ((n ≡ 8) ⊎ (n ≡ 13))
seven-eight-thirteen k f n kind b = go b.level b.given (omega (arith, b.inside, few-levels k kind)) (ℕ_discrete n 7) (ℕ_discrete n 8)
  where
    go : (i : ℕ) → n ≡ broken_number i → i < 3 → Dec (n ≡ 7) → Dec (n ≡ 8) → (n ≡ 7) ⊎ ((n ≡ 8) ⊎ (n ≡ 13))
    go i e h (yes seven) d = inl seven
    go i e h (no other) (yes eight) = inr (inl eight)
    go zero e h (no other) (no another) = inr (inr (omega arith))
    go (suc zero) e h (no other) (no another) = inr (inr (omega arith))
    go (suc (suc zero)) e h (no other) (no another) = inr (inr (omega arith))
    go (suc (suc (suc i))) e h (no other) (no another) = absurd (omega arith)

-- ---- the open reading's tests

-- every test was passed
pub record Accepted (k b c : ℕ) (f : List ℤ) (n : ℕ) : Type 0 where
  pub kind : is_kind k ≡ true
  pub grade : is_grade b ≡ true
  pub few : is_free_count c ≡ true
  pub coordinates : length f ≡ 2 ^ k
  pub bytes : n ≡ message_bytes k b
  pub range : in_range f ≡ true
  pub words : broken k 0 (degrees k) f ≡ 0

pub accepted : (k b c : ℕ) (f : List ℤ) (n : ℕ) → open_refusal k b c f n ≡ 0 → Accepted k b c f n
unfolding open_refusal
accepted k b c f n e =
    let t₁ = passed (is_kind k) 0 _ e in
    let t₂ = passed (is_grade b) 1 _ t₁.1 in
    let t₃ = passed (is_free_count c) 16 _ t₂.1 in
    let t₄ = passed (eqb (length f) (2 ^ k)) 3 _ t₃.1 in
    let t₅ = passed (eqb n (message_bytes k b)) 2 _ t₄.1 in
    let t₆ = passed (in_range f) 5 _ t₅.1 in
    record {
      kind = t₁.0;
      grade = t₂.0;
      few = t₃.0;
      coordinates = eqb-true (length f) (2 ^ k) t₄.0;
      bytes = eqb-true n (message_bytes k b) t₅.0;
      range = t₆.0;
      words = t₆.1;
    }

-- past the tests 1, 2, 17, 4, 3 and 6 the levels answer
pub levels-decide : (k b c : ℕ) (f : List ℤ) (n : ℕ) → is_kind k ≡ true → is_grade b ≡ true → is_free_count c ≡ true → length f ≡ 2 ^ k → n ≡ message_bytes k b
    → in_range f ≡ true → open_refusal k b c f n ≡ broken k 0 (degrees k) f
unfolding open_refusal
levels-decide k b c f n kind grade few l h range = rw (kind, grade, few, eq-eqb (length f) (2 ^ k) l, eq-eqb n (message_bytes k b) h, range)

-- "17: free count, f above 4, tested after 2"
pub many-open : (k b c : ℕ) (f : List ℤ) (n : ℕ) → is_kind k ≡ true → is_grade b ≡ true → 4 < c → open_refusal k b c f n ≡ 17
unfolding open_refusal is_free_count
many-open k b c f n kind grade h = rw (kind, grade, lt-leb c 4 h)
