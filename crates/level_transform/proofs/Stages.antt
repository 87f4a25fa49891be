-- The transform by stages: stage j adds to each value with digit j set the one without it; m stages are `backwards`. For every m.
-- Assumes nothing.
use Prim.Native.Nat.{ℕ, zero, suc, ◌+◌, ◌-◌, ◌*◌, ◌/◌, ◌%◌, ◌^◌, ◌≤◌, ◌<◌}
use mathlib.Core.Path.{◌≡◌, refl, sym, ap, ap₂, ◌∙◌, subst, fun_ext}
use mathlib.Core.Bool.{cond}
use mathlib.Core.List.{List, [], ◌∷◌}
use mathlib.Core.Logic.{⊎_elim}
use native.Mathlib.Nat.{zero-mul, zero-add, one-mul, add-mul, mul_assoc, mul_comm, pow-suc, div-eq_of_lt}
use native.Mathlib.Decide.{dec_lt, ℕ_discrete, le_ind}
use native.Mathlib.Omega.{arith}
use lib.Dec.{eqb}
use lib.Pow.{high, pow_mono}
use lib.ListN.{get_or}
use lib.Bits.{bit_and, bit_xor}
use borrow.Author.Tests.{eq-eqb, ne_eqb}
use Rattle.bits.specs.Number.{sum_to, table, number}
use Rattle.reed_muller.specs.Level.{backwards}
use Rattle.bits.proofs.Table.{table_at}
use Rattle.bits.proofs.Message.{number-ext, digit-of}
use Rattle.reed_muller.proofs.Transform.{raw, raw-low, raw-high, half_of}
use Rattle.bits.proofs.Digits.{digit, digit-small, xor-digit, and-clear, and-keep, shift-digit}

-- one stage: where p has the digit of h, the value at p − h is added
abbrev pub stage_at : ℕ → (ℕ → ℕ) → ℕ → ℕ
stage_at h v p = cond (eqb (p / h % 2) 1) ((v p + v (p - h)) % 2) (v p % 2)

-- the first j stages
unfoldable pub stages : ℕ → (ℕ → ℕ) → ℕ → ℕ
stages zero f p = f p
stages (suc j) f p = stage_at (2 ^ j) (stages j f) p

module _ (j : ℕ) (f : ℕ → ℕ) (ih : (c q : ℕ) → q < 2 ^ j → stages j f (c * 2 ^ j + q) % 2 ≡ backwards j (λ x. f (c * 2 ^ j + x)) q) (c : ℕ) where
  -- where the block begins
  base : ℕ
  base = c * 2 * 2 ^ j

  begins : c * 2 ^ suc j ≡ base
  unfolding base
  begins = ap (λ (x : ℕ). c * x) (pow-suc 2 j ∙ mul_comm (2 ^ j) 2) ∙ sym (mul_assoc c 2 (2 ^ j))

  later : (c * 2 + 1) * 2 ^ j ≡ base + 2 ^ j
  unfolding base
  later = add-mul (c * 2) 1 (2 ^ j) ∙ ap (λ (x : ℕ). c * 2 * 2 ^ j + x) (one-mul (2 ^ j))

  module _ (q : ℕ) (h : q < 2 ^ j) where
    first : stages j f (base + q) % 2 ≡ raw j (λ x. f (base + x)) q % 2
    unfolding base backwards
    first = ih (c * 2) q h

    second : stages j f (base + (2 ^ j + q)) % 2 ≡ raw j (λ x. f (base + (2 ^ j + x))) q % 2
    unfolding backwards
    second =
        ap (λ (x : ℕ). stages j f x % 2) (shift q) ∙ ih (c * 2 + 1) q h
        ∙ ap (λ (g : ℕ → ℕ). raw j g q % 2) (fun_ext (λ x. ap f (sym (shift x))))
      where
        shift : (x : ℕ) → base + (2 ^ j + x) ≡ (c * 2 + 1) * 2 ^ j + x
        shift x = omega (arith, later)

    low_digit : (base + q) / 2 ^ j % 2 ≡ 0
    unfolding base
    low_digit = ap (λ (x : ℕ). x % 2) (high (c * 2) j h) ∙ omega arith

    high_digit : (base + (2 ^ j + q)) / 2 ^ j % 2 ≡ 1
    high_digit =
        let e : base + (2 ^ j + q) ≡ (c * 2 + 1) * 2 ^ j + q = omega (arith, later) in
        ap (λ (x : ℕ). x / 2 ^ j % 2) e ∙ ap (λ (x : ℕ). x % 2) (high (c * 2 + 1) j h) ∙ omega arith

    block-low : stage_at (2 ^ j) (stages j f) (base + q) % 2 ≡ raw (suc j) (λ x. f (base + x)) q % 2
    block-low =
        rw (ne_eqb ((base + q) / 2 ^ j % 2) 1 (λ e. omega (arith, low_digit, e)))
        (omega (arith, first, raw-low j (λ x. f (base + x)) q h))

    block-high : stage_at (2 ^ j) (stages j f) (base + (2 ^ j + q)) % 2 ≡ raw (suc j) (λ x. f (base + x)) (2 ^ j + q) % 2
    block-high =
        let e : base + (2 ^ j + q) - 2 ^ j ≡ base + q = omega arith in
        rw (eq-eqb ((base + (2 ^ j + q)) / 2 ^ j % 2) 1 high_digit, e)
        (omega (arith, first, second, raw-high j (λ x. f (base + x)) q h))

  block : (q : ℕ) → q < 2 ^ suc j → stage_at (2 ^ j) (stages j f) (base + q) % 2 ≡ raw (suc j) (λ x. f (base + x)) q % 2
  block q h =
      ⊎_elim (λ l. block-low q l)
      (λ w. subst (λ (x : ℕ). stage_at (2 ^ j) (stages j f) (base + x) % 2 ≡ raw (suc j) (λ x. f (base + x)) x % 2) (sym w.1) (block-high w.0 w.2))
      (half_of j q h)

-- after j stages: within each block of 2 ^ j positions, the transform of the block
stages-block : (j : ℕ) (f : ℕ → ℕ) (c q : ℕ) → q < 2 ^ j → stages j f (c * 2 ^ j + q) % 2 ≡ backwards j (λ x. f (c * 2 ^ j + x)) q
unfolding stages backwards sum_to
stages-block zero f c zero h = omega arith
stages-block zero f c (suc q) h = absurd (omega arith)
stages-block (suc j) f c q h = rw (begins j f (stages-block j f) c) (block j f (stages-block j f) c q h)

-- m stages are the transform
pub stages-transform : (m : ℕ) (f : ℕ → ℕ) (S : ℕ) → S < 2 ^ m → stages m f S % 2 ≡ backwards m f S
unfolding backwards
stages-transform m f S h = simp (zero-mul, zero-add) at (stages-block m f 0 S h)

-- the transform of a longer word is the same at the masks of a shorter one
pub backwards-longer : (m n : ℕ) → m ≤ n → (f : ℕ → ℕ) (S : ℕ) → S < 2 ^ m → backwards n f S ≡ backwards m f S
unfolding backwards
backwards-longer m n h f S l =
    le_ind (λ (i : ℕ). raw i f S % 2 ≡ raw m f S % 2) refl
    (λ i (hi : m ≤ i) e. omega (arith, raw-low i f S (omega (arith, pow_mono hi)), e))
    n h

-- ---- a stage of a word held in a number of W digits

behind : (p h : ℕ) → p / h % 2 ≡ 1 → h ≤ p
behind p h e = go (dec_lt p h)
  where
    go : Dec (p < h) → h ≤ p
    go (yes l) = absurd (omega (arith, e, ap (λ (x : ℕ). x % 2) (div-eq_of_lt l)))
    go (no k) = omega arith

stage-ext : (h : ℕ) (u v : ℕ → ℕ) (p : ℕ) → u p ≡ v p → u (p - h) ≡ v (p - h) → stage_at h u p ≡ stage_at h v p
stage-ext h u v p a b = ap₂ (λ (x y : ℕ). cond (eqb (p / h % 2) 1) ((x + y) % 2) (x % 2)) a b

module _ (W j mask t : ℕ) (right : mask ≡ number W (λ p. digit p j)) where
  -- as the code computes it
  abbrev staged : ℕ
  staged = bit_xor t (bit_and (t * 2 ^ (2 ^ j) % 2 ^ W) mask)

  masked : (p : ℕ) → p < W → digit mask p ≡ digit p j
  masked = digit-of right (λ p l. digit-small p j)

  stage-digit : (p : ℕ) → p < W → digit staged p ≡ stage_at (2 ^ j) (digit t) p
  stage-digit p h = xor-digit t (bit_and (t * 2 ^ (2 ^ j) % 2 ^ W) mask) p ∙ go (ℕ_discrete (digit p j) 1)
    where
      go : Dec (digit p j ≡ 1) → (digit t p + digit (bit_and (t * 2 ^ (2 ^ j) % 2 ^ W) mask) p) % 2 ≡ stage_at (2 ^ j) (digit t) p
      go (yes e) =
          rw (eq-eqb (digit p j) 1 e)
          (omega (arith, and-keep (t * 2 ^ (2 ^ j) % 2 ^ W) mask p (masked p h ∙ e), shift-digit t (2 ^ j) W p (behind p (2 ^ j) e) h))
      go (no n) =
          rw (ne_eqb (digit p j) 1 n)
          (omega (arith, and-clear (t * 2 ^ (2 ^ j) % 2 ^ W) mask p (omega (arith, masked p h, n))))

  pub stage-more : (f : ℕ → ℕ) → ((p : ℕ) → p < W → digit t p ≡ stages j f p) → (p : ℕ) → p < W → digit staged p ≡ stages (suc j) f p
  unfolding stages
  stage-more f so p h = stage-digit p h ∙ stage-ext (2 ^ j) (digit t) (stages j f) p (so p h) (so (p - 2 ^ j) (omega arith))

-- the words of the digits of 64 positions
abbrev pub digit-words : List ℕ
digit-words = 12297829382473034410 ∷ 14757395258967641292 ∷ 17361641481138401520 ∷ 18374966859414961920 ∷ 18446462603027742720 ∷ 18446744069414584320 ∷ []

digit-words-right : digit-words ≡ table 6 (λ j. number 64 (λ p. digit p j))
unfolding table sum_to
digit-words-right = refl

pub digit-word : (j : ℕ) → j < 6 → get_or digit-words j 0 ≡ number 64 (λ p. digit p j)
digit-word j hj = ap (λ (xs : List ℕ). get_or xs j 0) digit-words-right ∙ table_at (λ j. number 64 (λ p. digit p j)) 6 j hj

-- six stages, read at the masks of a word of at most 64 positions
pub all-stages : (t : ℕ) (f : ℕ → ℕ) → ((p : ℕ) → p < 64 → digit t p ≡ stages 6 f p) → (m : ℕ) → m ≤ 6
    → number (2 ^ m) (digit t) ≡ number (2 ^ m) (backwards m f)
all-stages t f so m h =
    number-ext (2 ^ m) (λ S l.
    let u : S < 64 = omega (arith, pow_mono h) in
    omega (arith, so S u, stages-transform 6 f S u, backwards-longer m 6 h f S l))
