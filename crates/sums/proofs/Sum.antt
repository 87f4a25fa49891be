-- Sums of frames: their length, their coordinates, their size, and their levels as far as the degrees double. Assumes nothing.
use Prim.Native.Nat.{ℕ, zero, suc, ◌+◌, ◌*◌, ◌^◌, ◌≤◌}
use mathlib.Core.Path.{◌≡◌, refl, sym, ap, ap₂, ◌∙◌, subst, fun_ext}
use mathlib.Core.Bool.{true}
use mathlib.Core.List.{List, [], ◌∷◌}
use native.Mathlib.Omega.{arith}
use lib.ListN.{length, take, replicate, length-replicate}
use lib.IntN.{ℤ, pos, ◌+ℤ◌, ◌*ℤ◌, nat_abs}
use lib.Signed.{shr_z}
use Rattle.integers.proofs.Zed.{`◌, #◌, ◌⊕◌, ◌⊗◌, ⊝◌, eq!, eq?, abs-ud, abs-le}
use Rattle.e8.specs.Energy.{Within}
use Rattle.e8.specs.Ties.{negated}
use Rattle.e8.proofs.Negation.{negated-at}
use Rattle.frames.specs.Kind.{kinds, is_kind, degrees, levels}
use Rattle.frames.proofs.Closure.{growing, codes-less, codes-none, set-negated}
use Rattle.frames.specs.Frame.{InCodingSet}
use Rattle.frames.proofs.Levels.{Codes}
use Rattle.frames.proofs.Frame.{at, codes-of}
use Rattle.frames.proofs.Rows.{each_row}
use Rattle.sums.specs.Sum.{added, sum_of, Each}

-- ---- lists

added-length : (f g : List ℤ) → length f ≡ length g → length (added f g) ≡ length f
added-length [] g e = refl
added-length (x ∷ f) [] e = absurd (omega arith)
added-length (x ∷ f) (y ∷ g) e = ap suc (added-length f g (omega arith))

added-at : (f g : List ℤ) → length f ≡ length g → (p : ℕ) → at (added f g) p ≡ at f p +ℤ at g p
added-at [] [] e zero = refl
added-at [] [] e (suc p) = refl
added-at [] (y ∷ g) e p = absurd (omega arith)
added-at (x ∷ f) [] e p = absurd (omega arith)
added-at (x ∷ f) (y ∷ g) e zero = refl
added-at (x ∷ f) (y ∷ g) e (suc p) = added-at f g (omega arith) p

zeros-at : (n p : ℕ) → at (replicate n (pos 0)) p ≡ pos 0
zeros-at zero zero = refl
zeros-at zero (suc p) = refl
zeros-at (suc n) zero = refl
zeros-at (suc n) (suc p) = zeros-at n p

-- zeros added change nothing
pub added-zeros : (f : List ℤ) → added f (replicate (length f) (pos 0)) ≡ f
added-zeros [] = refl
added-zeros (x ∷ f) = ap₂ ◌∷◌ (eq! (` x ⊕ # 0) (` x) (omega arith)) (added-zeros f)

-- of other frames, where these are such
pub each_to : {Such Other : List ℤ → Type 0} → ((f : List ℤ) → Such f → Other f) → (fs : List (List ℤ)) → Each Such fs → Each Other fs
each_to to [] h = tt
each_to to (f ∷ fs) h = (to f h.0, each_to to fs h.1)

-- ---- the size

abs-added : (x y : ℤ) (A B : ℕ) → nat_abs x ≤ A → nat_abs y ≤ B → nat_abs (x +ℤ y) ≤ A + B
abs-added x y A B hx hy =
    let e = eq? (` (x +ℤ y)) (` x ⊕ ` y) refl in
    abs-le (x +ℤ y) (A + B) (omega (arith, e, abs-ud x, abs-ud y)) (omega (arith, e, abs-ud x, abs-ud y))

added-within : (A B : ℕ) (f g : List ℤ) → Within A f → Within B g → Within (A + B) (added f g)
added-within A B [] g hf hg = tt
added-within A B (x ∷ f) [] hf hg = tt
added-within A B (x ∷ f) (y ∷ g) hf hg = (abs-added x y A B hf.0 hg.0, added-within A B f g hf.1 hg.1)

zeros_within : (B n : ℕ) → Within B (replicate n (pos 0))
zeros_within B zero = tt
zeros_within B (suc n) = (omega arith, zeros_within B n)

-- the sum is within as many times B
pub sum-within : (B k : ℕ) (fs : List (List ℤ)) → Each (Within B) fs → Within (length fs * B) (sum_of k fs)
unfolding sum_of
sum-within B k [] h = zeros_within (0 * B) (2 ^ k)
sum-within B k (f ∷ fs) h = let e : B + length fs * B ≡ suc (length fs) * B = omega arith in
    subst (λ (A : ℕ). Within A (added f (sum_of k fs))) e (added-within B (length fs * B) f (sum_of k fs) h.0 (sum-within B k fs h.1))

-- ---- the length, the coordinates

pub sum-length : (k : ℕ) (fs : List (List ℤ)) → Each (InCodingSet k) fs → length (sum_of k fs) ≡ 2 ^ k
unfolding sum_of
sum-length k [] h = length-replicate (2 ^ k) (pos 0)
sum-length k (f ∷ fs) h = added-length f (sum_of k fs) (h.0.long ∙ sym (sum-length k fs h.1)) ∙ h.0.long

-- coordinate p of the sum
sum-at : (k : ℕ) (f : List ℤ) (fs : List (List ℤ)) → Each (InCodingSet k) (f ∷ fs) → (p : ℕ) → at (sum_of k (f ∷ fs)) p ≡ at f p +ℤ at (sum_of k fs) p
unfolding sum_of
sum-at k f fs h = added-at f (sum_of k fs) (h.0.long ∙ sym (sum-length k fs h.1))

-- of one frame, m times
pub copies_at : (k m : ℕ) (f : List ℤ) → Each (InCodingSet k) (replicate m f) → (p : ℕ) → at (sum_of k (replicate m f)) p ≡ pos m *ℤ at f p
unfolding sum_of
copies_at k zero f h p = zeros-at (2 ^ k) p ∙ eq! (# 0) (# 0 ⊗ ` (at f p)) (omega arith)
copies_at k (suc m) f h p =
    sum-at k f (replicate m f) h p
    ∙ eq! (` (at f p) ⊕ ` (at (sum_of k (replicate m f)) p)) (# (suc m) ⊗ ` (at f p))
    (omega (arith, eq? (` (at (sum_of k (replicate m f)) p)) (# m ⊗ ` (at f p)) (copies_at k m f h.1 p)))

-- ---- the levels

-- the first n of them alone
codes-take : (n m : ℕ) (rs : List ℕ) (x : ℕ → ℤ) → Codes m rs x → Codes m (take n rs) x
codes-take zero m rs x c = tt
codes-take (suc n) m [] x c = tt
codes-take (suc n) m (r ∷ rs) x c = (c.0, codes-take n m rs (λ p. shr_z (x p) 2) c.1)

-- the first n levels of a sum are codewords, where their degrees double: f + s is s less the negated f
sum_codes : (k n : ℕ) → is_kind k ≡ true → growing 0 (take n (degrees k)) (take n (degrees k)) ≡ true → (fs : List (List ℤ)) → Each (InCodingSet k) fs
    → Codes k (take n (degrees k)) (at (sum_of k fs))
unfolding sum_of levels
sum_codes k n kind g [] h = subst (Codes k (take n (degrees k))) (sym (fun_ext (zeros-at (2 ^ k)))) (codes-none k (take n (degrees k)))
sum_codes k n kind g (f ∷ fs) h =
    codes-less k (take n (degrees k)) (take n (degrees k)) g (at (sum_of k fs)) (at (negated f)) (at (sum_of k (f ∷ fs)))
    (λ p. eq! (` (at (sum_of k (f ∷ fs)) p) ⊕ ` (at (negated f) p)) (` (at (sum_of k fs) p)) (omega (
      arith,
      eq? (` (at (sum_of k (f ∷ fs)) p)) (` (at f p) ⊕ ` (at (sum_of k fs) p)) (sum-at k f fs h p),
      eq? (` (at (negated f) p)) (⊝ ` (at f p)) (negated-at f p),
    )))
    (sum_codes k n kind g fs h.1)
    (codes-take n k (degrees k) (at (negated f)) (codes-of k (degrees k) (negated f) (set-negated k kind f h.0).codewords))

-- THE FIRST TWO LEVELS of a sum: the second degree of a kind is at least twice the first. (The third of kind 6 is 5, and twice 3 is 6)
pub two-codes : (k : ℕ) → is_kind k ≡ true → (fs : List (List ℤ)) → Each (InCodingSet k) fs → Codes k (take 2 (degrees k)) (at (sum_of k fs))
unfolding degrees kinds
two-codes k kind = sum_codes k 2 kind (each_row (λ k. growing 0 (take 2 (degrees k)) (take 2 (degrees k))) refl k kind)
