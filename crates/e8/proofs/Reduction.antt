-- The reduction that is computed is the reduction by the rows of matrix (39), as they stand and in their order
use mathlib.Core.Path.{◌≡◌, refl, sym, ◌∙◌, ap}
use mathlib.Core.List.{List, [], ◌∷◌}
use Prim.Native.Nat.{ℕ, suc, ◌*◌, ◌<◌}
use native.Mathlib.Omega.{arith}
use lib.ListN.{length, drop, get_or}
use lib.IntN.{ℤ, pos, ◌+ℤ◌, ◌-ℤ◌, ◌*ℤ◌, nat_abs}
use lib.Signed.{shr_z}
use Rattle.integers.specs.Integer.{mod_z}
use Rattle.integers.proofs.Zed.{`◌, #◌, ◌⊕◌, ◌⊖◌, ◌⊗◌, eq!, eq?}
use Rattle.integers.proofs.Floor.{div-mod}
use Rattle.e8.specs.Least.{lowered}
use Rattle.e8.specs.Rows.{ints, taken_off, rows, reduced_by, later_numbers, reduced}

-- ---- blocks of eight

-- what is so of every eight numbers is so of a block
pub of-eight : (P : List ℤ → Type 0) → ((x₁ x₂ x₃ x₄ x₅ x₆ x₇ x₈ : ℤ) → P (x₁ ∷ x₂ ∷ x₃ ∷ x₄ ∷ x₅ ∷ x₆ ∷ x₇ ∷ x₈ ∷ [])) → (x : List ℤ) → length x ≡ 8 → P x
of-eight P f [] l = absurd (omega arith)
of-eight P f (a ∷ []) l = absurd (omega arith)
of-eight P f (a ∷ b ∷ []) l = absurd (omega arith)
of-eight P f (a ∷ b ∷ c ∷ []) l = absurd (omega arith)
of-eight P f (a ∷ b ∷ c ∷ d ∷ []) l = absurd (omega arith)
of-eight P f (a ∷ b ∷ c ∷ d ∷ e ∷ []) l = absurd (omega arith)
of-eight P f (a ∷ b ∷ c ∷ d ∷ e ∷ g ∷ []) l = absurd (omega arith)
of-eight P f (a ∷ b ∷ c ∷ d ∷ e ∷ g ∷ h ∷ []) l = absurd (omega arith)
of-eight P f (a ∷ b ∷ c ∷ d ∷ e ∷ g ∷ h ∷ k ∷ []) l = f a b c d e g h k
of-eight P f (a ∷ b ∷ c ∷ d ∷ e ∷ g ∷ h ∷ k ∷ m ∷ x) l = absurd (omega arith)

-- two blocks are equal place by place
eight : {a₁ a₂ a₃ a₄ a₅ a₆ a₇ a₈ b₁ b₂ b₃ b₄ b₅ b₆ b₇ b₈ : ℤ} → a₁ ≡ b₁ → a₂ ≡ b₂ → a₃ ≡ b₃ → a₄ ≡ b₄ → a₅ ≡ b₅ → a₆ ≡ b₆ → a₇ ≡ b₇ → a₈ ≡ b₈
    → a₁ ∷ a₂ ∷ a₃ ∷ a₄ ∷ a₅ ∷ a₆ ∷ a₇ ∷ a₈ ∷ [] ≡ b₁ ∷ b₂ ∷ b₃ ∷ b₄ ∷ b₅ ∷ b₆ ∷ b₇ ∷ b₈ ∷ []
eight e₁ e₂ e₃ e₄ e₅ e₆ e₇ e₈ = cc

-- ---- row by row

module _ (h : ℕ) (p : 0 < h) where
  -- where a row has 0 nothing changes
  none : (a q : ℤ) → a -ℤ q *ℤ (pos h *ℤ pos 0) ≡ a
  none a q = eq! (` a ⊖ ` q ⊗ (# h ⊗ # 0)) (` a) (omega arith)

  -- where it has d, d·h·q comes off
  some : (a q : ℤ) (d : ℕ) → a -ℤ q *ℤ (pos h *ℤ pos d) ≡ a -ℤ pos (d * h) *ℤ q
  some a q d = eq! (` a ⊖ ` q ⊗ (# h ⊗ # d)) (` a ⊖ # (d * h) ⊗ ` q) (omega arith)

  -- at its own place, where it has d, the remainder modulo d·h is left
  own : (a : ℤ) (d : ℕ) → 0 < d * h → a -ℤ shr_z a (h * d) *ℤ (pos h *ℤ pos d) ≡ pos (mod_z a (d * h))
  own a d l =
      let e : h * d ≡ d * h = omega arith in
      let q : ℤ = shr_z a (d * h) in
      ap (λ (n : ℕ). a -ℤ shr_z a n *ℤ (pos h *ℤ pos d)) e
      ∙ eq! (` a ⊖ ` q ⊗ (# h ⊗ # d)) (# (mod_z a (d * h))) (omega (arith, eq? (` a) (# (d * h) ⊗ ` q ⊕ # (mod_z a (d * h))) (div-mod a (d * h) l)))

  -- the row that stands at i, taken off
  step : (i : ℕ) (r xs ys : List ℤ) → drop i (rows h) ≡ r ∷ drop (suc i) (rows h) → taken_off (shr_z (get_or xs i (pos 0)) (nat_abs (get_or r i (pos 0)))) r xs ≡ ys
      → reduced_by i (drop i (rows h)) xs ≡ reduced_by (suc i) (drop (suc i) (rows h)) ys
  unfolding reduced_by
  step i r xs ys e f = ap (λ rs. reduced_by i rs xs) e ∙ ap (reduced_by (suc i) (drop (suc i) (rows h))) f

  -- row i as it stands in the matrix
  abbrev row : ℕ → List ℤ
  row i = get_or (rows h) i []

  -- the first row: 1 in every place
  module _ (x₁ x₂ x₃ x₄ x₅ x₆ x₇ x₈ : ℤ) where
    abbrev d : ℤ
    d = pos h *ℤ shr_z x₁ h

    first-row : reduced_by 0 (rows h) (x₁ ∷ x₂ ∷ x₃ ∷ x₄ ∷ x₅ ∷ x₆ ∷ x₇ ∷ x₈ ∷ [])
        ≡ reduced_by 1 (drop 1 (rows h)) (pos (mod_z x₁ h) ∷ lowered d (x₂ ∷ x₃ ∷ x₄ ∷ x₅ ∷ x₆ ∷ x₇ ∷ x₈ ∷ []))
    first-row = step 0 (row 0) (x₁ ∷ x₂ ∷ x₃ ∷ x₄ ∷ x₅ ∷ x₆ ∷ x₇ ∷ x₈ ∷ []) (pos (mod_z x₁ h) ∷ lowered d (x₂ ∷ x₃ ∷ x₄ ∷ x₅ ∷ x₆ ∷ x₇ ∷ x₈ ∷ [])) refl
        (eight (own x₁ 1 (omega arith) ∙ ap (λ (n : ℕ). pos (mod_z x₁ n)) one) (off x₂) (off x₃) (off x₄) (off x₅) (off x₆) (off x₇) (off x₈))
      where
        one : 1 * h ≡ h
        one = omega arith

        off : (x : ℤ) → x -ℤ shr_z x₁ (h * 1) *ℤ (pos h *ℤ pos 1) ≡ x -ℤ d
        off x = let e : h * 1 ≡ h = omega arith in some x (shr_z x₁ (h * 1)) 1 ∙ (λ j. x -ℤ pos (one j) *ℤ shr_z x₁ (e j))

  -- the others: 2 in their own place and in the last, and 4 in the last
  module _ (s y₂ y₃ y₄ y₅ y₆ y₇ y₈ : ℤ) where
    abbrev q : ℤ → ℤ
    q y = shr_z y (2 * h)

    abbrev m : ℤ → ℤ
    m y = pos (mod_z y (2 * h))

    -- the last place after each row
    abbrev z₂ : ℤ
    z₂ = y₈ -ℤ pos (2 * h) *ℤ q y₂

    abbrev z₃ : ℤ
    z₃ = z₂ -ℤ pos (2 * h) *ℤ q y₃

    abbrev z₄ : ℤ
    z₄ = z₃ -ℤ pos (2 * h) *ℤ q y₄

    abbrev z₅ : ℤ
    z₅ = z₄ -ℤ pos (2 * h) *ℤ q y₅

    abbrev z₆ : ℤ
    z₆ = z₅ -ℤ pos (2 * h) *ℤ q y₆

    abbrev z₇ : ℤ
    z₇ = z₆ -ℤ pos (2 * h) *ℤ q y₇

    -- what a row of quotient q y leaves of the last place, and of the others
    last : (z y : ℤ) → z -ℤ shr_z y (h * 2) *ℤ (pos h *ℤ pos 2) ≡ z -ℤ pos (2 * h) *ℤ q y
    last z y = let e : h * 2 ≡ 2 * h = omega arith in some z (shr_z y (h * 2)) 2 ∙ ap (λ (n : ℕ). z -ℤ pos (2 * h) *ℤ shr_z y n) e

    same : (y a : ℤ) → a -ℤ shr_z y (h * 2) *ℤ (pos h *ℤ pos 0) ≡ a
    same y a = none a (shr_z y (h * 2))

    mine : (y : ℤ) → y -ℤ shr_z y (h * 2) *ℤ (pos h *ℤ pos 2) ≡ m y
    mine y = own y 2 (omega arith)

    later_rows : reduced_by 1 (drop 1 (rows h)) (s ∷ y₂ ∷ y₃ ∷ y₄ ∷ y₅ ∷ y₆ ∷ y₇ ∷ y₈ ∷ [])
        ≡ s ∷ ints (later_numbers h (pos 0) (y₂ ∷ y₃ ∷ y₄ ∷ y₅ ∷ y₆ ∷ y₇ ∷ y₈ ∷ []))
    unfolding reduced_by
    later_rows =
        let r : ℤ = shr_z z₇ (h * 4) in
        let Q : ℤ = pos 0 +ℤ q y₂ +ℤ q y₃ +ℤ q y₄ +ℤ q y₅ +ℤ q y₆ +ℤ q y₇ in
        let c : ℕ = 2 * h in
        let e : z₇ ≡ y₈ -ℤ pos (2 * h) *ℤ Q =
        eq! (` y₈ ⊖ # c ⊗ ` (q y₂) ⊖ # c ⊗ ` (q y₃) ⊖ # c ⊗ ` (q y₄) ⊖ # c ⊗ ` (q y₅) ⊖ # c ⊗ ` (q y₆) ⊖ # c ⊗ ` (q y₇))
        (` y₈ ⊖ # c ⊗ (# 0 ⊕ ` (q y₂) ⊕ ` (q y₃) ⊕ ` (q y₄) ⊕ ` (q y₅) ⊕ ` (q y₆) ⊕ ` (q y₇))) (omega arith) in
        step 1 (row 1) (s ∷ y₂ ∷ y₃ ∷ y₄ ∷ y₅ ∷ y₆ ∷ y₇ ∷ y₈ ∷ []) (s ∷ m y₂ ∷ y₃ ∷ y₄ ∷ y₅ ∷ y₆ ∷ y₇ ∷ z₂ ∷ []) refl
        (eight (same y₂ s) (mine y₂) (same y₂ y₃) (same y₂ y₄) (same y₂ y₅) (same y₂ y₆) (same y₂ y₇) (last y₈ y₂))
        ∙ step 2 (row 2) (s ∷ m y₂ ∷ y₃ ∷ y₄ ∷ y₅ ∷ y₆ ∷ y₇ ∷ z₂ ∷ []) (s ∷ m y₂ ∷ m y₃ ∷ y₄ ∷ y₅ ∷ y₆ ∷ y₇ ∷ z₃ ∷ []) refl
        (eight (same y₃ s) (same y₃ (m y₂)) (mine y₃) (same y₃ y₄) (same y₃ y₅) (same y₃ y₆) (same y₃ y₇) (last z₂ y₃))
        ∙ step 3 (row 3) (s ∷ m y₂ ∷ m y₃ ∷ y₄ ∷ y₅ ∷ y₆ ∷ y₇ ∷ z₃ ∷ []) (s ∷ m y₂ ∷ m y₃ ∷ m y₄ ∷ y₅ ∷ y₆ ∷ y₇ ∷ z₄ ∷ []) refl
        (eight (same y₄ s) (same y₄ (m y₂)) (same y₄ (m y₃)) (mine y₄) (same y₄ y₅) (same y₄ y₆) (same y₄ y₇) (last z₃ y₄))
        ∙ step 4 (row 4) (s ∷ m y₂ ∷ m y₃ ∷ m y₄ ∷ y₅ ∷ y₆ ∷ y₇ ∷ z₄ ∷ []) (s ∷ m y₂ ∷ m y₃ ∷ m y₄ ∷ m y₅ ∷ y₆ ∷ y₇ ∷ z₅ ∷ []) refl
        (eight (same y₅ s) (same y₅ (m y₂)) (same y₅ (m y₃)) (same y₅ (m y₄)) (mine y₅) (same y₅ y₆) (same y₅ y₇) (last z₄ y₅))
        ∙ step 5 (row 5) (s ∷ m y₂ ∷ m y₃ ∷ m y₄ ∷ m y₅ ∷ y₆ ∷ y₇ ∷ z₅ ∷ []) (s ∷ m y₂ ∷ m y₃ ∷ m y₄ ∷ m y₅ ∷ m y₆ ∷ y₇ ∷ z₆ ∷ []) refl
        (eight (same y₆ s) (same y₆ (m y₂)) (same y₆ (m y₃)) (same y₆ (m y₄)) (same y₆ (m y₅)) (mine y₆) (same y₆ y₇) (last z₅ y₆))
        ∙ step 6 (row 6) (s ∷ m y₂ ∷ m y₃ ∷ m y₄ ∷ m y₅ ∷ m y₆ ∷ y₇ ∷ z₆ ∷ []) (s ∷ m y₂ ∷ m y₃ ∷ m y₄ ∷ m y₅ ∷ m y₆ ∷ m y₇ ∷ z₇ ∷ []) refl
        (eight (same y₇ s) (same y₇ (m y₂)) (same y₇ (m y₃)) (same y₇ (m y₄)) (same y₇ (m y₅)) (same y₇ (m y₆)) (mine y₇) (last z₆ y₇))
        ∙ step 7 (row 7) (s ∷ m y₂ ∷ m y₃ ∷ m y₄ ∷ m y₅ ∷ m y₆ ∷ m y₇ ∷ z₇ ∷ []) (s ∷ m y₂ ∷ m y₃ ∷ m y₄ ∷ m y₅ ∷ m y₆ ∷ m y₇ ∷ pos (mod_z z₇ (4 * h)) ∷ []) refl
        (eight (none s r) (none (m y₂) r) (none (m y₃) r) (none (m y₄) r) (none (m y₅) r) (none (m y₆) r) (none (m y₇) r) (own z₇ 4 (omega arith)))
        ∙ ap (λ (z : ℤ). s ∷ m y₂ ∷ m y₃ ∷ m y₄ ∷ m y₅ ∷ m y₆ ∷ m y₇ ∷ pos (mod_z z (4 * h)) ∷ []) e

  -- THE LAW: what is computed is what the rows make of a block
  pub reduced-rows : (x : List ℤ) → length x ≡ 8 → ints (reduced h x) ≡ reduced_by 0 (rows h) x
  unfolding reduced
  reduced-rows = of-eight (λ x. ints (reduced h x) ≡ reduced_by 0 (rows h) x) (λ a b c d e f g k. sym (first-row a b c d e f g k ∙ later_rows _ _ _ _ _ _ _ _))
