-- The ranks of a block's coordinates, and the highest and the lowest of them, as the code finds them: the largest and the smallest by a fold. Assumes nothing.
use mathlib.Core.Path.{◌≡◌, refl, ◌∙◌, ap}
use mathlib.Core.Bool.{Bool, true, false, cond}
use mathlib.Core.List.{List, [], ◌∷◌}
use Prim.Native.Nat.{ℕ, zero, suc, ◌+◌, ◌*◌, ◌-◌, ◌^◌, ◌<◌, ◌≤◌}
use native.Mathlib.Omega.{arith}
use lib.Dec.{ltb}
use lib.ListN.{length, get_or}
use lib.IntN.{ℤ, pos, nat_abs}
use lib.Signed.{lt_z}
use Rattle.std.proofs.Common.{max, min}
use Rattle.std.specs.Int.{int_max, int_min}
use Rattle.std.specs.List.{fold}
use Rattle.std.proofs.lemmas.Bool.Decides.{nat_tests}
use Rattle.e8.specs.Energy.{Within}
use Rattle.mending.specs.Rounded.{rank_of, ranks_of, highest, lowest}

-- ---- the ranks

pub rank-low : (c : ℤ) (i : ℕ) → nat_abs c ≤ 2 ^ 7 → i < 8 → rank_of c i ≤ 2 ^ 12
rank-low c i h k = go (lt_z c (pos 0))
  where
    go : (t : Bool) → 16 * nat_abs c + cond t i (15 - i) ≤ 2 ^ 12
    go true = omega arith
    go false = omega arith

pub ranks-length : (cs : List ℤ) (i : ℕ) → length (ranks_of cs i) ≡ length cs
ranks-length [] i = refl
ranks-length (c ∷ cs) i = ap suc (ranks-length cs (suc i))

pub ranks-at : (cs : List ℤ) (i j : ℕ) → j < length cs → get_or (ranks_of cs i) j (pos 0) ≡ pos (rank_of (get_or cs j (pos 0)) (j + i))
ranks-at [] i j h = absurd (omega arith)
ranks-at (c ∷ cs) i zero h = ap (λ (n : ℕ). pos (rank_of c n)) {x = i} {y = 0 + i} (omega arith)
ranks-at (c ∷ cs) i (suc j) h =
    ranks-at cs (suc i) j (omega arith) ∙ ap (λ (n : ℕ). pos (rank_of (get_or cs j (pos 0)) n)) {x = j + suc i} {y = suc j + i} (omega arith)

larger-is : (a b : ℕ) → int_max (pos a) (pos b) ≡ pos (max a b)
larger-is a b = grind (arith, nat_tests)

smaller-is : (a b : ℕ) → int_min (pos a) (pos b) ≡ pos (min a b)
smaller-is a b = grind (arith, nat_tests)

top-from : (cs : List ℤ) (i a : ℕ) → fold int_max (pos a) (ranks_of cs i) ≡ pos (max a (highest cs i))
top-from [] i a = ap pos (omega arith)
top-from (c ∷ cs) i a =
    ap (λ z. fold int_max z (ranks_of cs (suc i))) (larger-is a (rank_of c i)) ∙ top-from cs (suc i) (max a (rank_of c i))
    ∙ ap pos (more a (rank_of c i) (highest cs (suc i)))
  where
    more : (a r h : ℕ) → max (max a r) h ≡ max a (cond (ltb h r) r h)
    more a r h = grind (arith, nat_tests)

pub top-is : (cs : List ℤ) (i : ℕ) → fold int_max (pos 0) (ranks_of cs i) ≡ pos (highest cs i)
top-is cs i = top-from cs i 0 ∙ ap pos (omega arith)

low-from : (cs : List ℤ) (i a : ℕ) → 0 < length cs → fold int_min (pos a) (ranks_of cs i) ≡ pos (min a (lowest cs i))
low-from [] i a h = absurd (omega arith)
low-from (c ∷ []) i a h = smaller-is a (rank_of c i)
low-from (c ∷ d ∷ cs) i a h =
    ap (λ z. fold int_min z (ranks_of (d ∷ cs) (suc i))) (smaller-is a (rank_of c i)) ∙ low-from (d ∷ cs) (suc i) (min a (rank_of c i)) (omega arith)
    ∙ ap pos (more a (rank_of c i) (lowest (d ∷ cs) (suc i)))
  where
    more : (a r l : ℕ) → min (min a r) l ≡ min a (cond (ltb l r) l r)
    more a r l = grind (arith, nat_tests)

lowest-first : (c : ℤ) (cs : List ℤ) (i : ℕ) → lowest (c ∷ cs) i ≤ rank_of c i
lowest-first c [] i = omega arith
lowest-first c (d ∷ cs) i = least (rank_of c i) (lowest (d ∷ cs) (suc i))
  where
    least : (r l : ℕ) → cond (ltb l r) l r ≤ r
    least r l = grind (arith, nat_tests)

pub low-is : (cs : List ℤ) (i : ℕ) → Within (2 ^ 7) cs → i < 8 → 0 < length cs → fold int_min (pos 32767) (ranks_of cs i) ≡ pos (lowest cs i)
low-is [] i w k h = absurd (omega arith)
low-is (c ∷ cs) i w k h =
    let low : lowest (c ∷ cs) i ≤ 2 ^ 12 = omega (arith, lowest-first c cs i, rank-low c i w.0 k) in
    low-from (c ∷ cs) i 32767 h ∙ ap pos (omega arith)
