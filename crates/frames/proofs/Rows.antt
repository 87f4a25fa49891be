-- The table of kinds, row by row: a test that every row passes, every kind passes, and so at every grade. A further kind is one row in Kind. Assumes nothing.
use Prim.Native.Nat.{ℕ, zero, suc, ◌≤◌}
use mathlib.Core.Path.{◌≡◌, refl, sym, ap, ◌∙◌}
use mathlib.Core.Bool.{Bool, true, false, ◌&&◌, ◌||◌, true≢false}
use mathlib.Core.List.{List, [], ◌∷◌}
use native.Mathlib.Omega.{arith}
use lib.Dec.{eqb, leb}
use borrow.Author.Tests.{eqb-true, leb-true}
use Rattle.e8.proofs.Within.{and_both}
use Rattle.frames.specs.Kind.{Row, kinds, is_kind, listed, is_grade}

-- ---- the rows

-- the kind of each row passes the test
abbrev pub of_rows : (ℕ → Bool) → List Row → Bool
of_rows t [] = true
of_rows t (row ∷ rows) = t row.kind && of_rows t rows

each-listed : (t : ℕ → Bool) (rows : List Row) → of_rows t rows ≡ true → (k : ℕ) → listed k rows ≡ true → t k ≡ true
each-listed t [] h k e = absurd (true≢false (sym e))
each-listed t (row ∷ rows) h k e = go (eqb k row.kind) refl (each-listed t rows both.1 k) e
  where
    both : (t row.kind ≡ true) × (of_rows t rows ≡ true)
    both = and_both (t row.kind) (of_rows t rows) h

    go : (s : Bool) → eqb k row.kind ≡ s → (listed k rows ≡ true → t k ≡ true) → (s || listed k rows) ≡ true → t k ≡ true
    go true same later e = ap t (eqb-true k row.kind same) ∙ both.0
    go false same later e = later e

-- EACH ROW: a test that every row of the table passes, every kind passes
pub each_row : (t : ℕ → Bool) → of_rows t kinds ≡ true → (k : ℕ) → is_kind k ≡ true → t k ≡ true
unfolding is_kind
each_row t h k e = each-listed t kinds h k e

-- ---- the grades

pub grade-low : (b : ℕ) → is_grade b ≡ true → 1 ≤ b
unfolding is_grade
grade-low b e = leb-true 1 b (and_both (leb 1 b) (leb b 4) e).0

pub grade-high : (b : ℕ) → is_grade b ≡ true → b ≤ 4
unfolding is_grade
grade-high b e = leb-true b 4 (and_both (leb 1 b) (leb b 4) e).1

-- each grade passes the test
abbrev pub of_grades : (ℕ → Bool) → Bool
of_grades t = t 1 && (t 2 && (t 3 && t 4))

pub each-grade : (t : ℕ → Bool) → of_grades t ≡ true → (b : ℕ) → is_grade b ≡ true → t b ≡ true
each-grade t h b e = go b (grade-low b e) (grade-high b e)
  where
    p₁ : (t 1 ≡ true) × ((t 2 && (t 3 && t 4)) ≡ true)
    p₁ = and_both (t 1) (t 2 && (t 3 && t 4)) h

    p₂ : (t 2 ≡ true) × ((t 3 && t 4) ≡ true)
    p₂ = and_both (t 2) (t 3 && t 4) p₁.1

    p₃ : (t 3 ≡ true) × (t 4 ≡ true)
    p₃ = and_both (t 3) (t 4) p₂.1

    go : (b : ℕ) → 1 ≤ b → b ≤ 4 → t b ≡ true
    go zero l h = absurd (omega arith)
    go (suc zero) l h = p₁.0
    go (suc (suc zero)) l h = p₂.0
    go (suc (suc (suc zero))) l h = p₃.0
    go (suc (suc (suc (suc zero)))) l h = p₃.1
    go (suc (suc (suc (suc (suc b))))) l h = absurd (omega arith)

-- a test that every row passes at every grade
pub each-row-and-grade : (t : ℕ → ℕ → Bool) → of_rows (λ k. of_grades (t k)) kinds ≡ true → (k b : ℕ) → is_kind k ≡ true → is_grade b ≡ true → t k b ≡ true
each-row-and-grade t h k b kind grade = each-grade (t k) (each_row (λ k. of_grades (t k)) h k kind) b grade

-- ---- the same for numbers

pub row-le : (f g : ℕ → ℕ) → of_rows (λ k. leb (f k) (g k)) kinds ≡ true → (k : ℕ) → is_kind k ≡ true → f k ≤ g k
row-le f g h k kind = leb-true (f k) (g k) (each_row (λ k. leb (f k) (g k)) h k kind)

pub row-eq : (f g : ℕ → ℕ) → of_rows (λ k. eqb (f k) (g k)) kinds ≡ true → (k : ℕ) → is_kind k ≡ true → f k ≡ g k
row-eq f g h k kind = eqb-true (f k) (g k) (each_row (λ k. eqb (f k) (g k)) h k kind)
