-- A block's numbers packed into one number. Assumes nothing.
use Prim.Native.Nat.{ℕ, zero, suc, ◌+◌, ◌*◌, ◌%◌, ◌^◌, ◌≤◌, ◌<◌}
use mathlib.Core.Path.{◌≡◌, refl, sym, ap, ap₂, ◌∙◌}
use mathlib.Core.List.{List, [], ◌∷◌, ◌++◌, map}
use native.Mathlib.Omega.{arith}
use lib.ListN.{length, get_or, drop, get_or-append}
use lib.IntN.{ℤ, pos, nat_abs}
use lib.Seq.{get_or-append-add}
use Rattle.bits.specs.Number.{number}
use Rattle.bits.proofs.Table.{table_at}
use Rattle.bits.proofs.Message.{number-ext, number-join, number_digits}
use Rattle.bits.proofs.Digits.{digit}
use Rattle.e8.specs.Rows.{ints}
use Rattle.frames.specs.Message.{widths}
use Rattle.frames.specs.Reading.{digits, all_digits}
use Rattle.frames.proofs.Numbers.{total, digits-length}

-- one number more, below those of a row
pub pack-more : (w n s : ℕ) (row : List ℕ) → 2 ^ w * number n (λ t. get_or row t 0) + s % 2 ^ w ≡ number (w + n) (λ t. get_or (digits w s ++ row) t 0)
unfolding digits
pack-more w n s row =
    ap₂ (λ (x y : ℕ). 2 ^ w * x + y)
    (number-ext n (λ t l. sym (ap (λ (i : ℕ). get_or (digits w s ++ row) (i + t) 0) (sym (digits-length w s)) ∙ get_or-append-add (digits w s) row t 0)))
    (sym (number_digits s w)
    ∙ number-ext w (λ t l. sym (get_or-append (digits w s) row 0 t (omega (arith, digits-length w s)) ∙ table_at (digit s) w t l)))
    ∙ number-join w n (λ t. get_or (digits w s ++ row) t 0)

-- the rows of the numbers from i on
pub all_from : (ws ss : List ℕ) (i : ℕ) → i < length ws → i < length ss
    → all_digits (drop i ws) (drop i ss) ≡ digits (get_or ws i 0) (get_or ss i 0) ++ all_digits (drop (suc i) ws) (drop (suc i) ss)
unfolding all_digits
all_from [] ss i h l = absurd (omega arith)
all_from (w ∷ ws) [] i h l = absurd (omega arith)
all_from (w ∷ ws) (s ∷ ss) zero h l = refl
all_from (w ∷ ws) (s ∷ ss) (suc i) h l = all_from ws ss i (omega arith) (omega arith)

pub total-from : (ws : List ℕ) (i : ℕ) → i < length ws → total (drop i ws) ≡ get_or ws i 0 + total (drop (suc i) ws)
total-from [] i h = absurd (omega arith)
total-from (w ∷ ws) zero h = refl
total-from (w ∷ ws) (suc i) h = total-from ws i (omega arith)

pub total-drop : (ws : List ℕ) (i : ℕ) → total (drop i ws) ≤ total ws
total-drop ws zero = omega arith
total-drop [] (suc i) = omega arith
total-drop (w ∷ ws) (suc i) = omega (arith, total-drop ws i)

-- ---- the sizes of a block's numbers

pub sizes-at : (s : List ℤ) (i : ℕ) → nat_abs (get_or s i (pos 0)) ≡ get_or (map nat_abs s) i 0
sizes-at [] i = refl
sizes-at (z ∷ s) zero = refl
sizes-at (z ∷ s) (suc i) = sizes-at s i

pub sizes-length : (s : List ℤ) → length (map nat_abs s) ≡ length s
sizes-length [] = refl
sizes-length (z ∷ s) = ap suc (sizes-length s)

pub sizes-ints : (ss : List ℕ) → map nat_abs (ints ss) ≡ ss
sizes-ints [] = refl
sizes-ints (s ∷ ss) = ap (λ (l : List ℕ). s ∷ l) (sizes-ints ss)

-- ---- the numbers of a block of grade b from i on

-- their bits, and these bits as a number
abbrev pub row_from : ℕ → List ℤ → ℕ → List ℕ
row_from b s i = all_digits (drop i (widths b)) (drop i (map nat_abs s))

abbrev pub packed_from : ℕ → List ℤ → ℕ → ℕ
packed_from b s i = number (total (drop i (widths b))) (λ t. get_or (row_from b s i) t 0)
