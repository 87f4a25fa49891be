-- The constant tables of masks, places and dimensions, one record of computed tests for each length. Assumes nothing.
use Prim.Native.Nat.{ℕ, zero, suc, ◌+◌, ◌/◌, ◌^◌, ◌≤◌, ◌<◌}
use mathlib.Core.Path.{◌≡◌, refl, sym, ap, ◌∙◌}
use mathlib.Core.List.{List, [], ◌∷◌}
use native.Mathlib.Omega.{arith}
use lib.Count.{ones}
use lib.ListN.{length, get_or}
use lib.Pow.{pow_mono}
use Rattle.bits.specs.Number.{table}
use Rattle.bits.proofs.Table.{table_at}
use Rattle.reed_muller.specs.Level.{of_weight, masks, order, place, dimension, Tabled}
use Rattle.level_tables.specs.Entries.{Below64}

-- the tables of length 2 ^ m: the masks in order, their places, the dimensions for r = 0, .., m
pub record Right (m : ℕ) (os ps ds : List ℕ) : Type 0 where
  pub tabled : Tabled m
  pub orders : os ≡ order m
  pub places : ps ≡ table (2 ^ m) (place (order m))
  pub dimensions : ds ≡ table (suc m) (λ r. dimension r m)

pub right-8 :
    Right
    3
    (0 ∷ 1 ∷ 2 ∷ 4 ∷ 3 ∷ 5 ∷ 6 ∷ 7 ∷ [])
    (0 ∷ 1 ∷ 2 ∷ 4 ∷ 3 ∷ 5 ∷ 6 ∷ 7 ∷ [])
    (1 ∷ 4 ∷ 7 ∷ 8 ∷ [])
unfolding order masks of_weight ones place table dimension
right-8 = record { tabled = (omega arith, omega arith); orders = refl; places = refl; dimensions = refl }

pub right-16 :
    Right
    4
    (0 ∷ 1 ∷ 2 ∷ 4 ∷ 8 ∷ 3 ∷ 5 ∷ 6 ∷ 9 ∷ 10 ∷ 12 ∷ 7 ∷ 11 ∷ 13 ∷ 14 ∷ 15 ∷ [])
    (0 ∷ 1 ∷ 2 ∷ 5 ∷ 3 ∷ 6 ∷ 7 ∷ 11 ∷ 4 ∷ 8 ∷ 9 ∷ 12 ∷ 10 ∷ 13 ∷ 14 ∷ 15 ∷ [])
    (1 ∷ 5 ∷ 11 ∷ 15 ∷ 16 ∷ [])
unfolding order masks of_weight ones place table dimension
right-16 = record { tabled = (omega arith, omega arith); orders = refl; places = refl; dimensions = refl }

pub right-32 :
    Right
    5
    (0 ∷ 1 ∷ 2 ∷ 4 ∷ 8 ∷ 16 ∷ 3 ∷ 5 ∷ 6 ∷ 9 ∷ 10 ∷ 12 ∷ 17 ∷ 18 ∷ 20 ∷ 24 ∷ 7 ∷ 11 ∷ 13 ∷ 14 ∷ 19 ∷ 21 ∷ 22 ∷ 25 ∷ 26 ∷ 28 ∷ 15 ∷ 23 ∷ 27 ∷ 29 ∷ 30 ∷ 31 ∷ [])
    (0 ∷ 1 ∷ 2 ∷ 6 ∷ 3 ∷ 7 ∷ 8 ∷ 16 ∷ 4 ∷ 9 ∷ 10 ∷ 17 ∷ 11 ∷ 18 ∷ 19 ∷ 26 ∷ 5 ∷ 12 ∷ 13 ∷ 20 ∷ 14 ∷ 21 ∷ 22 ∷ 27 ∷ 15 ∷ 23 ∷ 24 ∷ 28 ∷ 25 ∷ 29 ∷ 30 ∷ 31 ∷ [])
    (1 ∷ 6 ∷ 16 ∷ 26 ∷ 31 ∷ 32 ∷ [])
unfolding order masks of_weight ones place table dimension
right-32 = record { tabled = (omega arith, omega arith); orders = refl; places = refl; dimensions = refl }

pub right-64 :
    Right
    6
    (0 ∷ 1 ∷ 2 ∷ 4 ∷ 8 ∷ 16 ∷ 32 ∷ 3 ∷ 5 ∷ 6 ∷ 9 ∷ 10 ∷ 12 ∷ 17 ∷ 18 ∷ 20 ∷ 24 ∷ 33 ∷ 34 ∷ 36 ∷ 40 ∷ 48 ∷ 7 ∷ 11 ∷ 13 ∷ 14 ∷ 19 ∷ 21 ∷ 22 ∷ 25 ∷ 26 ∷ 28 ∷ 35 ∷ 37 ∷ 38 ∷ 41 ∷ 42 ∷ 44 ∷ 49 ∷ 50 ∷ 52 ∷ 56 ∷ 15 ∷ 23 ∷ 27 ∷ 29 ∷ 30 ∷ 39 ∷ 43 ∷ 45 ∷ 46 ∷ 51 ∷ 53 ∷ 54 ∷ 57 ∷ 58 ∷ 60 ∷ 31 ∷ 47 ∷ 55 ∷ 59 ∷ 61 ∷ 62 ∷ 63 ∷ [])
    (0 ∷ 1 ∷ 2 ∷ 7 ∷ 3 ∷ 8 ∷ 9 ∷ 22 ∷ 4 ∷ 10 ∷ 11 ∷ 23 ∷ 12 ∷ 24 ∷ 25 ∷ 42 ∷ 5 ∷ 13 ∷ 14 ∷ 26 ∷ 15 ∷ 27 ∷ 28 ∷ 43 ∷ 16 ∷ 29 ∷ 30 ∷ 44 ∷ 31 ∷ 45 ∷ 46 ∷ 57 ∷ 6 ∷ 17 ∷ 18 ∷ 32 ∷ 19 ∷ 33 ∷ 34 ∷ 47 ∷ 20 ∷ 35 ∷ 36 ∷ 48 ∷ 37 ∷ 49 ∷ 50 ∷ 58 ∷ 21 ∷ 38 ∷ 39 ∷ 51 ∷ 40 ∷ 52 ∷ 53 ∷ 59 ∷ 41 ∷ 54 ∷ 55 ∷ 60 ∷ 56 ∷ 61 ∷ 62 ∷ 63 ∷ [])
    (1 ∷ 7 ∷ 22 ∷ 42 ∷ 57 ∷ 63 ∷ 64 ∷ [])
unfolding order masks of_weight ones place table dimension
right-64 = record { tabled = (omega arith, omega arith); orders = refl; places = refl; dimensions = refl }

-- the masks of a table by name
module _ {m : ℕ} {os ps ds : List ℕ} (t : Right m os ps ds) where
  abbrev pub masks_of : List ℕ
  masks_of = os

-- ---- the lengths in use

-- the words are short
pub short : {m : ℕ} → Tabled m → 2 ^ m ≤ 64
short h = pow_mono {j = 6} (omega arith)

-- how far the entries go past the digits of 64, to be computed: 0 where each is below 64
abbrev past : List ℕ → ℕ
past [] = 0
past (x ∷ xs) = x / 64 + past xs

none-past : (xs : List ℕ) → past xs ≡ 0 → (i : ℕ) → i < length xs → get_or xs i 0 < 64
none-past [] e i h = absurd (omega arith)
none-past (x ∷ xs) e zero h = omega arith
none-past (x ∷ xs) e (suc i) h = none-past xs (omega arith) i (omega arith)

pub below_64 : {xs : List ℕ} → past xs ≡ 0 → Below64 xs
below_64 {xs} e = record { below = none-past xs e }

-- ---- the tables of length 2 ^ n, read where m is n

module _ {m n : ℕ} (e : m ≡ n) {os ps ds : List ℕ} (t : Right n os ps ds) where
  pub mask-entry : (k : ℕ) → get_or os k 0 ≡ get_or (order m) k 0
  mask-entry k = ap (λ (xs : List ℕ). get_or xs k 0) (t.orders ∙ ap order (sym e))

  pub place-entry : (S : ℕ) → S < 2 ^ n → get_or ps S 0 ≡ place (order m) S
  place-entry S h =
      ap (λ (xs : List ℕ). get_or xs S 0) t.places ∙ table_at (place (order n)) (2 ^ n) S h ∙ ap (λ (x : ℕ). place (order x) S) (sym e)

  pub dimension-entry : (r : ℕ) → r < suc n → get_or ds r 0 ≡ dimension r m
  dimension-entry r h =
      ap (λ (xs : List ℕ). get_or xs r 0) t.dimensions ∙ table_at (λ r. dimension r n) (suc n) r h ∙ ap (dimension r) (sym e)
