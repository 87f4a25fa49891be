-- Rows of bits: every entry is 0 or 1. Assumes nothing.
use Prim.Native.Nat.{ℕ, zero, suc, ◌<◌}
use mathlib.Core.List.{List, [], ◌∷◌, ◌++◌}
use native.Mathlib.Decide.{dec_lt}
use native.Mathlib.Omega.{arith}
use lib.ListN.{get_or, get_or-eq_default}
use Rattle.bits.specs.Number.{table}
use Rattle.bits.proofs.Table.{length-table, table_at}
use Rattle.bits.proofs.Digits.{digit-small}
use Rattle.frames.specs.Reading.{digits, all_digits}

-- a row of bits: every entry is 0 or 1
abbrev pub Bits : List ℕ → Type 0
Bits row = (t : ℕ) → get_or row t 0 < 2

pub bits-append : (xs ys : List ℕ) → Bits xs → Bits ys → Bits (xs ++ ys)
bits-append [] ys a b t = b t
bits-append (x ∷ xs) ys a b zero = a 0
bits-append (x ∷ xs) ys a b (suc t) = bits-append xs ys (λ t. a (suc t)) b t

pub bits-table : (n : ℕ) (f : ℕ → ℕ) → ((t : ℕ) → f t < 2) → Bits (table n f)
bits-table n f h t = go (dec_lt t n)
  where
    go : Dec (t < n) → get_or (table n f) t 0 < 2
    go (yes l) = omega (arith, table_at f n t l, h t)
    go (no l) = omega (arith, get_or-eq_default (table n f) 0 {n = t} (omega (arith, length-table f n)))

pub all-bits : (ws ss : List ℕ) → Bits (all_digits ws ss)
unfolding all_digits digits
all-bits [] ss = λ t. omega arith
all-bits (w ∷ ws) [] = λ t. omega arith
all-bits (w ∷ ws) (s ∷ ss) = bits-append (digits w s) (all_digits ws ss) (bits-table w _ (digit-small s)) (all-bits ws ss)
