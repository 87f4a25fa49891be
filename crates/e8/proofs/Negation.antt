-- The negated frame: its energy, its class, its place in reading order, its coordinates. Clients cite all of it. Assumes nothing.
use mathlib.Core.Path.{◌≡◌, refl, sym, ap, ap₂, ◌∙◌, subst₂}
use mathlib.Core.Logic.{inl, inr}
use mathlib.Core.List.{List, [], ◌∷◌, ◌++◌}
use Prim.Native.Nat.{ℕ, zero, suc, ◌+◌, ◌*◌}
use native.Mathlib.Omega.{arith}
use lib.ListN.{length, get_or, take, drop}
use lib.IntN.{ℤ, pos, negsuc, neg_ℤ, nat_abs, neg_ℤ-neg_ℤ}
use Rattle.integers.proofs.Zed.{`◌, #◌, ◌⊖◌, ◌⊗◌, ⊝◌, eq!, lt!, lt-ud}
use Rattle.e8.specs.Energy.{sq, energy, Within}
use Rattle.e8.specs.Order.{Reads}
use Rattle.e8.specs.Lattice.{moved, InBlock, part, Differ}
use Rattle.e8.specs.Rows.{times}
use Rattle.e8.proofs.Points.{times-length, times-point}
use Rattle.e8.specs.Ties.{negated}

-- negated twice, a frame is itself again
pub negated-twice : (xs : List ℤ) → negated (negated xs) ≡ xs
negated-twice [] = refl
negated-twice (x ∷ xs) = ap₂ ◌∷◌ (neg_ℤ-neg_ℤ x) (negated-twice xs)

-- the length stays
pub negated-length : (xs : List ℤ) → length (negated xs) ≡ length xs
negated-length [] = refl
negated-length (x ∷ xs) = ap suc (negated-length xs)

-- coordinate by coordinate
pub negated-at : (xs : List ℤ) (p : ℕ) → get_or (negated xs) p (pos 0) ≡ neg_ℤ (get_or xs p (pos 0))
negated-at [] zero = refl
negated-at [] (suc p) = refl
negated-at (x ∷ xs) zero = refl
negated-at (x ∷ xs) (suc p) = negated-at xs p

-- one list after another
pub negated-append : (xs ys : List ℤ) → negated (xs ++ ys) ≡ negated xs ++ negated ys
negated-append [] ys = refl
negated-append (x ∷ xs) ys = ap (λ l. neg_ℤ x ∷ l) (negated-append xs ys)

-- ---- size, energy and reading order

-- the size of a number and of its negative
pub abs_neg : (z : ℤ) → nat_abs (neg_ℤ z) ≡ nat_abs z
abs_neg (pos zero) = refl
abs_neg (pos (suc n)) = refl
abs_neg (negsuc n) = refl

-- the sizes stay within their bound
pub negated-within : (B : ℕ) (xs : List ℤ) → Within B xs → Within B (negated xs)
negated-within B [] h = tt
negated-within B (x ∷ xs) h = (omega (arith, abs_neg x, h.0), negated-within B xs h.1)

-- the energy stays
pub negated-energy : (xs : List ℤ) → energy (negated xs) ≡ energy xs
unfolding energy sq
negated-energy [] = refl
negated-energy (x ∷ xs) = ap₂ (λ (a e : ℕ). a * a + e) (abs_neg x) (negated-energy xs)

-- reading order turns round
pub negated-reads : (a b : List ℤ) → length a ≡ length b → Reads a b → Reads (negated b) (negated a)
negated-reads [] [] l h = tt
negated-reads [] (b ∷ bv) l h = absurd (omega arith)
negated-reads (a ∷ av) [] l h = absurd h
negated-reads (a ∷ av) (b ∷ bv) l (inl h) = inl (lt! (⊝ ` b) (⊝ ` a) (omega (arith, lt-ud h)))
negated-reads (a ∷ av) (b ∷ bv) l (inr h) = inr (ap neg_ℤ (sym h.0), negated-reads av bv (omega arith) h.1)

-- ---- classes

-- less a point, negated: less the negated point
negated-moved : (H : ℕ) (xs ws : List ℤ) → negated (moved H xs ws) ≡ moved H (negated xs) (times (negsuc 0) ws)
negated-moved H [] ws = refl
negated-moved H (x ∷ xs) [] = refl
negated-moved H (x ∷ xs) (w ∷ ws) = ap₂ ◌∷◌ (eq! (⊝ (` x ⊖ # H ⊗ ` w)) (⊝ ` x ⊖ # H ⊗ (⊝ # 1 ⊗ ` w)) (omega arith)) (negated-moved H xs ws)

-- the negated blocks of a class are of one class
block-negated : (H : ℕ) (xs zs : List ℤ) → InBlock H xs zs → InBlock H (negated xs) (negated zs)
block-negated H xs zs i = record {
  ws = times (negsuc 0) i.ws;
  long = times-length (negsuc 0) i.ws ∙ i.long ∙ sym (negated-length xs);
  is = ap negated i.is ∙ negated-moved H xs i.ws;
  point = times-point (negsuc 0) i.ws i.point;
}

negated-take : (n : ℕ) (xs : List ℤ) → negated (take n xs) ≡ take n (negated xs)
negated-take zero xs = refl
negated-take (suc n) [] = refl
negated-take (suc n) (x ∷ xs) = ap (λ l. neg_ℤ x ∷ l) (negated-take n xs)

negated-drop : (n : ℕ) (xs : List ℤ) → negated (drop n xs) ≡ drop n (negated xs)
negated-drop zero xs = refl
negated-drop (suc n) [] = refl
negated-drop (suc n) (x ∷ xs) = negated-drop n xs

-- block by block
pub negated-part : (i : ℕ) (xs : List ℤ) → negated (part i xs) ≡ part i (negated xs)
negated-part i xs = negated-take 8 (drop (8 * i) xs) ∙ ap (take 8) (negated-drop (8 * i) xs)

-- and so the negated frames
pub differ-negated : (H n : ℕ) (xs zs : List ℤ) → Differ H n xs zs → Differ H n (negated xs) (negated zs)
differ-negated H n xs zs d = record {
  whole = negated-length xs ∙ d.whole;
  long = negated-length zs ∙ d.long ∙ sym (negated-length xs);
  blocks = λ i h. subst₂ (InBlock H) (negated-part i xs) (negated-part i zs) (block-negated H (part i xs) (part i zs) (d.blocks i h));
}
