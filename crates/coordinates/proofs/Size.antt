-- Coordinates of bounded size: what fits an i32, and sums of squares
use mathlib.Core.Path.{◌≡◌, refl, sym, ◌∙◌, subst}
use mathlib.Core.Bool.{Bool, true, false, cond}
use mathlib.Core.List.{List, [], ◌∷◌}
use Prim.Native.Nat.{ℕ, zero, suc, ◌+◌, ◌*◌, ◌^◌, ◌<◌, ◌≤◌}
use native.Mathlib.Nat.{le_trans, div-le_self, mul-le-mul}
use native.Mathlib.Numerals.{add-one}
use native.Mathlib.Omega.{arith}
use Rattle.std.specs.List.{sum_by}
use Rattle.std.proofs.lemmas.List.Recursion.{is_sum_by}
use lib.ListN.{length, drop, get_or}
use lib.Seq.{drop-cons}
use lib.IntN.{ℤ, pos, negsuc, ◌+ℤ◌, ◌-ℤ◌, ◌*ℤ◌, nat_abs}
use lib.Signed.{shr_z}
use mir.Syntax.{w32}
use mir.Val.{SFits}
use Rattle.integers.proofs.Zed.{E, `◌, #◌, ◌⊕◌, ◌⊖◌, ◌⊗◌, P, N, ⟦◌⟧, eq?, up, down, sfits!, abs-ud, abs-le}
use Rattle.e8.specs.Energy.{sq, energy, Within}
use Rattle.e8.specs.Least.{lowered}
use Rattle.e8.proofs.Within.{within-at}
use Rattle.std.proofs.lemmas.List.{get_or_default}

pub fits : (z : ℤ) → nat_abs z ≤ 2 ^ 30 → SFits w32 z
fits z h = sfits! w32 (` z) (omega (arith, abs-ud z)) (omega (arith, abs-ud z))

-- the size of an expression
pub abs! : (e : E) (B : ℕ) → P e ≤ N e + B → N e ≤ P e + B → nat_abs ⟦ e ⟧ ≤ B
abs! e B a b = abs-le ⟦ e ⟧ B (omega (arith, eq? (` ⟦ e ⟧) e refl)) (omega (arith, eq? (` ⟦ e ⟧) e refl))

pub product-sq : (z : ℤ) → z *ℤ z ≡ pos (sq z)
unfolding sq
product-sq (pos n) = refl
product-sq (negsuc n) = refl

pub sq-le : (m B : ℕ) → m ≤ B → m * m ≤ B * B
sq-le m B h = mul-le-mul h h

pub energy-drop : (xs : List ℤ) (i : ℕ) → i < length xs → energy (drop i xs) ≡ sq (get_or xs i (pos 0)) + energy (drop (i + 1) xs)
unfolding energy
energy-drop xs i h = rw (drop-cons xs i (pos 0) h, add-one)

-- the energy as a sum
pub energy-sum : (xs : List ℤ) → energy xs ≡ sum_by sq xs
unfolding energy
energy-sum = is_sum_by energy sq refl (λ _ _. refl)

-- an item of a list, at its place
pub within-item : (B : ℕ) (xs : List ℤ) (k : ℕ) (z : ℤ) → Within B xs → k < length xs → z ≡ get_or xs k z → nat_abs z ≤ B
within-item B xs k z w h e = subst (λ y. nat_abs y ≤ B) (sym (e ∙ get_or_default xs k z (pos 0) h)) (within-at B xs k w)

-- ---- a block with one number off each coordinate

pub lowered-at : (h : ℤ) (xs : List ℤ) (i : ℕ) → i < length xs → get_or (lowered h xs) i (pos 0) ≡ get_or xs i (pos 0) -ℤ h
lowered-at h [] i k = absurd (omega arith)
lowered-at h (x ∷ xs) zero k = refl
lowered-at h (x ∷ xs) (suc i) k = lowered-at h xs i (omega arith)

pub less-abs : (x h : ℤ) (B C : ℕ) → nat_abs x ≤ B → nat_abs h ≤ C → nat_abs (x -ℤ h) ≤ B + C
less-abs x h B C a b = abs! (` x ⊖ ` h) (B + C) (omega (arith, abs-ud x, abs-ud h)) (omega (arith, abs-ud x, abs-ud h))

pub lowered-within : (h : ℤ) (xs : List ℤ) (B C : ℕ) → nat_abs h ≤ C → Within B xs → Within (B + C) (lowered h xs)
lowered-within h [] B C a b = tt
lowered-within h (x ∷ xs) B C a b = (less-abs x h B C b.0 a, lowered-within h xs B C a b.1)

-- ---- the size of what the code computes

pub sum-abs : (x y : ℤ) (A B : ℕ) → nat_abs x ≤ A → nat_abs y ≤ B → nat_abs (x +ℤ y) ≤ A + B
sum-abs x y A B a b = abs! (` x ⊕ ` y) (A + B) (omega (arith, abs-ud x, abs-ud y)) (omega (arith, abs-ud x, abs-ud y))

pub double-abs : (x : ℤ) (B : ℕ) → nat_abs x ≤ B → nat_abs (pos 2 *ℤ x) ≤ B + B
double-abs x B b = abs! (# 2 ⊗ ` x) (B + B) (omega (arith, abs-ud x)) (omega (arith, abs-ud x))

pub times-abs : (x y : ℤ) (A B : ℕ) → nat_abs x ≤ A → nat_abs y ≤ B → nat_abs (x *ℤ y) ≤ A * B
times-abs x y A B a b =
    let m : up x + down x ≤ A = omega (arith, a, abs-ud x) in
    let n : up y + down y ≤ B = omega (arith, b, abs-ud y) in
    let h : (up x + down x) * (up y + down y) ≤ A * B = mul-le-mul m n in
    abs! (` x ⊗ ` y) (A * B) (omega (arith, h)) (omega (arith, h))

pub shr-abs : (z : ℤ) (m B : ℕ) → nat_abs z ≤ B → nat_abs (shr_z z m) ≤ B
shr-abs (pos n) m B b = le_trans (div-le_self n m) b
shr-abs (negsuc n) m B b = omega (arith, div-le_self n m)

pub where-abs : (t : Bool) (x : ℤ) (B : ℕ) → nat_abs x ≤ B → nat_abs (cond t x (pos 0)) ≤ B
where-abs true x B b = b
where-abs false x B b = omega arith
