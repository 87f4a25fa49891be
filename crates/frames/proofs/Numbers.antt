-- Numbers in a row of bits: the bits determine the numbers and the numbers the bits, for any widths. Assumes nothing.
use Prim.Native.Nat.{ℕ, zero, suc, ◌+◌, ◌-◌, ◌*◌, ◌%◌, ◌/◌, ◌^◌, ◌≤◌, ◌<◌}
use mathlib.Core.Path.{◌≡◌, refl, sym, ap, ap₂, ◌∙◌, subst}
use mathlib.Core.List.{List, [], ◌∷◌, ◌++◌}
use native.Mathlib.Nat.{mod-eq_of_lt, pow-succ'}
use native.Mathlib.Decide.{dec_lt}
use native.Mathlib.Omega.{arith}
use lib.ListN.{length, get_or, length-append, get_or-append}
use lib.Seq.{get_or-append-add}
use Rattle.bits.specs.Number.{number}
use Rattle.bits.proofs.Sum.{sum-ext}
use Rattle.bits.proofs.Table.{length-table, table_at}
use Rattle.bits.proofs.Message.{number_lt, number_bit, number_digits}
use Rattle.e8.specs.Rows.{Below, Ranged}
use Rattle.frames.specs.Message.{numbers, widths}
use Rattle.frames.specs.Reading.{digits, all_digits}

-- the bits that numbers of the given widths take
abbrev pub total : List ℕ → ℕ
total [] = 0
total (w ∷ ws) = w + total ws

-- as many numbers as widths, each of its width at most
abbrev pub Fits : List ℕ → List ℕ → Type 0
Fits [] [] = Unit {0}
Fits [] (s ∷ ss) = ⊥
Fits (w ∷ ws) [] = ⊥
Fits (w ∷ ws) (s ∷ ss) = (s < 2 ^ w) × Fits ws ss

module _ (bit : ℕ → ℕ) (small : (i : ℕ) → bit i < 2) where
  number-below : (from w : ℕ) → number w (λ i. bit (from + i)) < 2 ^ w
  number-below from w = number_lt (λ i. bit (from + i)) w (λ i l. small (from + i))

  number-digit : (from w t : ℕ) → t < w → number w (λ i. bit (from + i)) / 2 ^ t % 2 ≡ bit (from + t)
  number-digit from w t h = number_bit (λ i. bit (from + i)) w (λ i l. small (from + i)) t h

  pub numbers_fit : (from : ℕ) (ws : List ℕ) → Fits ws (numbers bit from ws)
  unfolding numbers
  numbers_fit from [] = tt
  numbers_fit from (w ∷ ws) = (number-below from w, numbers_fit (from + w) ws)

pub fits-length : (ws ss : List ℕ) → Fits ws ss → length ss ≡ length ws
fits-length [] [] h = refl
fits-length [] (s ∷ ss) h = absurd h
fits-length (w ∷ ws) [] h = absurd h
fits-length (w ∷ ws) (s ∷ ss) h = ap suc (fits-length ws ss h.1)

-- ---- the numbers determine the bits

pub numbers-agree : (bit bit' : ℕ → ℕ) → ((i : ℕ) → bit i < 2) → ((i : ℕ) → bit' i < 2) → (ws : List ℕ) (from from' : ℕ)
    → numbers bit from ws ≡ numbers bit' from' ws → (o : ℕ) → o < total ws → bit (from + o) ≡ bit' (from' + o)
unfolding numbers
numbers-agree bit bit' small small' [] from from' e o h = absurd (omega arith)
numbers-agree bit bit' small small' (w ∷ ws) from from' e o h = go (numbers-agree bit bit' small small' ws (from + w) (from' + w) (cc) (o - w)) (dec_lt o w)
  where
    first : number w (λ i. bit (from + i)) ≡ number w (λ i. bit' (from' + i))
    first = cc

    go : (o - w < total ws → bit (from + w + (o - w)) ≡ bit' (from' + w + (o - w))) → Dec (o < w) → bit (from + o) ≡ bit' (from' + o)
    go more (yes l) = sym (number-digit bit small from w o l) ∙ ap (λ (n : ℕ). n / 2 ^ o % 2) first ∙ number-digit bit' small' from' w o l
    go more (no k) =
        let a : from + o ≡ from + w + (o - w) = omega arith in
        let a' : from' + w + (o - w) ≡ from' + o = omega arith in
        ap bit a ∙ more (omega arith) ∙ ap bit' a'

-- ---- the bits determine the numbers

pub digits-length : (w s : ℕ) → length (digits w s) ≡ w
unfolding digits
digits-length w s = length-table (λ t. s / 2 ^ t % 2) w

digits-at : (w s t : ℕ) → t < w → get_or (digits w s) t 0 ≡ s / 2 ^ t % 2
unfolding digits
digits-at w s t h = table_at (λ t. s / 2 ^ t % 2) w t h

pub all-length : (ws ss : List ℕ) → length ws ≤ length ss → length (all_digits ws ss) ≡ total ws
unfolding all_digits
all-length [] ss h = refl
all-length (w ∷ ws) [] h = absurd (omega arith)
all-length (w ∷ ws) (s ∷ ss) h = length-append (digits w s) (all_digits ws ss) ∙ ap₂ ◌+◌ (digits-length w s) (all-length ws ss (omega arith))

pub numbers-read : (bit : ℕ → ℕ) (ws ss : List ℕ) (from : ℕ) → Fits ws ss
    → ((o : ℕ) → o < total ws → bit (from + o) ≡ get_or (all_digits ws ss) o 0) → numbers bit from ws ≡ ss
unfolding numbers all_digits
numbers-read bit [] [] from h e = refl
numbers-read bit [] (s ∷ ss) from h e = absurd h
numbers-read bit (w ∷ ws) [] from h e = absurd h
numbers-read bit (w ∷ ws) (s ∷ ss) from h e = ap₂ ◌∷◌ first (numbers-read bit ws ss (from + w) h.1 later)
  where
    A : List ℕ
    A = digits w s

    B : List ℕ
    B = all_digits ws ss

    first : number w (λ i. bit (from + i)) ≡ s
    first =
        sum-ext w (λ t l. ap (λ (n : ℕ). n * 2 ^ t) (e t (omega arith) ∙ get_or-append A B 0 t (omega (arith, digits-length w s)) ∙ digits-at w s t l))
        ∙ number_digits s w ∙ mod-eq_of_lt h.0

    later : (o : ℕ) → o < total ws → bit (from + w + o) ≡ get_or B o 0
    later o l =
        let a : from + w + o ≡ from + (w + o) = omega arith in
        ap bit a ∙ e (w + o) (omega arith) ∙ ap (λ (n : ℕ). get_or (A ++ B) (n + o) 0) (sym (digits-length w s)) ∙ get_or-append-add A B o 0

-- ---- the widths of a block

pub total-widths : (b : ℕ) → 1 ≤ b → total (widths b) ≡ 8 * b
total-widths b h = omega arith

-- grade b is c + 1 here, so that h = 2^c: the widths b − 1, b and b + 1 hold the numbers below h, 2h and 4h
module _ (c : ℕ) where
  first_range : 2 ^ (suc c - 1) ≡ 2 ^ c
  first_range = let e : suc c - 1 ≡ c = omega arith in ap (λ (n : ℕ). 2 ^ n) e

  last-range : 2 ^ (suc c + 1) ≡ 4 * 2 ^ c
  last-range = let e : suc c + 1 ≡ suc (suc c) = omega arith in ap (λ (n : ℕ). 2 ^ n) e ∙ omega (arith, pow-succ' 2 (suc c), pow-succ' 2 c)

  -- the widths of the last n + 1 numbers: s8 and the n before it
  abbrev last_widths : ℕ → List ℕ
  last_widths zero = (suc c + 1) ∷ []
  last_widths (suc n) = suc c ∷ last_widths n

  last-length : (n : ℕ) → length (last_widths n) ≡ suc n
  last-length zero = refl
  last-length (suc n) = ap suc (last-length n)

  fits_below : (n : ℕ) (ss : List ℕ) → Fits (last_widths n) ss → Below (2 ^ c) ss
  fits_below n [] f = absurd (omega (arith, fits-length (last_widths n) [] f, last-length n))
  fits_below zero (s ∷ []) f = subst (λ (m : ℕ). s < m) last-range f.0
  fits_below (suc n) (s ∷ []) f = absurd (omega (arith, fits-length (last_widths (suc n)) (s ∷ []) f, last-length (suc n)))
  fits_below zero (s ∷ t ∷ ts) f = absurd f.1
  fits_below (suc n) (s ∷ t ∷ ts) f = (subst (λ (m : ℕ). s < m) (pow-succ' 2 c) f.0, fits_below n (t ∷ ts) f.1)

  pub fits-ranged : (ss : List ℕ) → Fits (widths (suc c)) ss → Ranged (2 ^ c) ss
  fits-ranged [] f = elim f [ ]
  fits-ranged (s ∷ ss) f = (subst (λ (m : ℕ). s < m) first_range f.0, fits_below 6 ss f.1)

  below-fits : (n : ℕ) (ss : List ℕ) → length ss ≡ suc n → Below (2 ^ c) ss → Fits (last_widths n) ss
  below-fits n [] l r = absurd r
  below-fits zero (s ∷ []) l r = (subst (λ (m : ℕ). s < m) (sym last-range) r, tt)
  below-fits (suc n) (s ∷ []) l r = absurd (omega arith)
  below-fits zero (s ∷ t ∷ ts) l r = absurd (omega arith)
  below-fits (suc n) (s ∷ t ∷ ts) l r = (subst (λ (m : ℕ). s < m) (sym (pow-succ' 2 c)) r.0, below-fits n (t ∷ ts) (omega arith) r.1)

  pub ranged-fits : (ss : List ℕ) → length ss ≡ 8 → Ranged (2 ^ c) ss → Fits (widths (suc c)) ss
  ranged-fits [] l r = elim r [ ]
  ranged-fits (s ∷ ss) l r = (subst (λ (m : ℕ). s < m) (sym first_range) r.0, below-fits 6 ss (omega arith) r.1)
