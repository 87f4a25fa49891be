-- The loop over the rows after the first: the places written, the multiple taken off the last place, and what is left to do
use mathlib.Core.Path.{◌≡◌, refl, sym, ◌∙◌, ap, ap₂, subst}
use mathlib.Core.List.{List, [], ◌∷◌}
use Prim.Native.Nat.{ℕ, suc, ◌+◌, ◌*◌, ◌^◌, ◌<◌, ◌≤◌}
use native.Mathlib.Numerals.{add-one}
use native.Mathlib.Omega.{arith}
use lib.ListN.{length, drop, get_or, set, length-drop, drop_of_length-le}
use lib.Seq.{drop-cons}
use lib.IntN.{ℤ, pos, ◌+ℤ◌, ◌-ℤ◌, ◌*ℤ◌, nat_abs}
use lib.Signed.{shr_z}
use Rattle.integers.specs.Integer.{mod_z}
use Rattle.integers.proofs.Zed.{`◌, #◌, ◌⊕◌, ◌⊖◌, ◌⊗◌, eq!, eq?, abs-ud}
use Rattle.integers.proofs.Floor.{mod_z-lt, div-mod}
use Rattle.e8.specs.Least.{lowered}
use Rattle.e8.specs.Rows.{ints, later_numbers, reduced}
use Rattle.e8.proofs.Rows.{ints-length, later-length}
use Rattle.coordinates.proofs.Size.{abs! }
use Rattle.coordinates.proofs.Rest.{Scale}
use Rattle.coordinates.proofs.Filled.{Filled, filled_next, filled-all}

drop-last : (xs : List ℤ) (i : ℕ) → length xs ≡ suc i → drop i xs ≡ get_or xs i (pos 0) ∷ []
drop-last xs i h = drop-cons xs i (pos 0) (omega arith) ∙ ap (λ l. get_or xs i (pos 0) ∷ l) (drop_of_length-le xs {i = suc i} (omega arith))

-- what is written in the end
abbrev pub result : ℕ → List ℤ → List ℤ
result h y = get_or y 0 (pos 0) ∷ ints (later_numbers h (pos 0) (drop 1 y))

-- after the places before i: q is 2h·Q, and the places from i on are to be reduced with Q
pub record Rows (h : ℕ) (y r : List ℤ) (q : ℤ) (i : ℕ) : Type 0 where
  pub Q : ℤ
  pub off : q ≡ pos (2 * h) *ℤ Q
  pub size : nat_abs q ≤ i * 2 ^ 27
  pub left : drop i (result h y) ≡ ints (later_numbers h Q (drop i y))
  pub filled : Filled (result h y) r i

pub result-length : (h : ℕ) (y : List ℤ) → length y ≡ 8 → length (result h y) ≡ 8
result-length h y l = ap suc (ints-length (later_numbers h (pos 0) (drop 1 y)) ∙ later-length h (pos 0) (drop 1 y) ∙ simp length-drop (omega arith))

pub rows_none : (h : ℕ) (y : List ℤ) → length y ≡ 8 → Rows h y y (pos 0) 1
rows_none h [] l = absurd (omega arith)
rows_none h (z ∷ y) l = record {
  Q = pos 0;
  off = eq! (# 0) (# (2 * h) ⊗ # 0) (omega arith);
  size = omega arith;
  left = refl;
  filled = record { long = l ∙ sym (result-length h (z ∷ y) l); low = omega arith; same = refl };
}

more : (h : ℕ) (Q z : ℤ) (ys : List ℤ) → 0 < length ys → later_numbers h Q (z ∷ ys) ≡ mod_z z (2 * h) ∷ later_numbers h (Q +ℤ shr_z z (2 * h)) ys
more h Q z [] l = absurd (omega arith)
more h Q z (y ∷ ys) l = refl

-- one row more, and the last
module _ {h : ℕ} {y r : List ℤ} {q : ℤ} {i : ℕ} (h-scale : Scale h) (eight : length y ≡ 8) (s : Rows h y r q i) where
  abbrev at : ℤ
  at = get_or y i (pos 0)

  pub rows_next : (v w : ℤ) → i < 7 → nat_abs at ≤ 2 ^ 26 → v ≡ pos (mod_z at (2 * h)) → w ≡ q +ℤ (at -ℤ v) → Rows h y (set r i v) w (i + 1)
  rows_next v w i_lt small ev ew =
      let u : ℤ = shr_z at (2 * h) in
      let n : ℕ = mod_z at (2 * h) in
      let d = eq? (` at) (# (2 * h) ⊗ ` u ⊕ # n) (div-mod at (2 * h) (omega (arith, h-scale.some))) in
      let lt : n < 2 * h = mod_z-lt at (2 * h) (omega (arith, h-scale.some)) in
      let o = eq? (` q) (# (2 * h) ⊗ ` s.Q) s.off in
      let w' : w ≡ q +ℤ (at -ℤ pos n) = ew ∙ ap (λ (z : ℤ). q +ℤ (at -ℤ z)) ev in
      let t : List ℤ = result h y in
      let f : get_or t i (pos 0) ∷ drop (suc i) t ≡ pos n ∷ ints (later_numbers h (s.Q +ℤ u) (drop (suc i) y)) =
      sym (drop-cons t i (pos 0) (omega (arith, result-length h y eight))) ∙ s.left
      ∙ ap (λ l. ints (later_numbers h s.Q l)) (drop-cons y i (pos 0) (omega arith))
      ∙ ap ints (more h s.Q at (drop (suc i) y) (simp length-drop (omega arith))) in
      let B : ℕ = (i + 1) * 2 ^ 27 in
      let a = abs-ud q in
      let b = abs-ud at in
      let c = h-scale.small in
      record {
        Q = s.Q +ℤ u;
        off = w' ∙ eq! (` q ⊕ (` at ⊖ # n)) (# (2 * h) ⊗ (` s.Q ⊕ ` u)) (omega (arith, d, o));
        size = subst (λ (z : ℤ). nat_abs z ≤ B) (sym w')
            (abs! (` q ⊕ (` at ⊖ # n)) B (omega (arith, s.size, a, b, c, small, lt)) (omega (arith, s.size, a, b, c, small, lt)));
        left = simp add-one (ap (drop 1) f);
        filled = filled_next (pos 0) t r i v s.filled (omega (arith, result-length h y eight)) (ev ∙ sym (ap (λ l. get_or l 0 (pos 0)) f));
      }

  pub rows_last : (v : ℤ) → i ≡ 7 → v ≡ pos (mod_z (get_or y 7 (pos 0) -ℤ q) (4 * h)) → set r 7 v ≡ result h y
  rows_last v e ev =
      let t : List ℤ = result h y in
      let seven : Filled t r 7 = subst (Filled t r) e s.filled in
      let f : drop 7 t ≡ ints (later_numbers h s.Q (drop 7 y)) = subst (λ (j : ℕ). drop j t ≡ ints (later_numbers h s.Q (drop j y))) e s.left in
      let g : get_or t 7 (pos 0) ≡ pos (mod_z (get_or y 7 (pos 0) -ℤ pos (2 * h) *ℤ s.Q) (4 * h)) =
      ap (λ l. get_or l 0 (pos 0)) (sym (drop-last t 7 (result-length h y eight)) ∙ f ∙ ap (λ l. ints (later_numbers h s.Q l)) (drop-last y 7 eight)) in
      filled-all t (set r 7 v) 8
      (filled_next (pos 0) t r 7 v seven (omega (arith, result-length h y eight)) (ev ∙ ap (λ (z : ℤ). pos (mod_z (get_or y 7 (pos 0) -ℤ z) (4 * h))) s.off ∙ sym g))
      (omega (arith, result-length h y eight))

-- the first row
pub first-row : (h : ℕ) (v : List ℤ) (d s : ℤ) → 0 < h → length v ≡ 8 → s ≡ pos (mod_z (get_or v 0 (pos 0)) h) → d ≡ get_or v 0 (pos 0) -ℤ s
    → result h (lowered d v) ≡ ints (reduced h v)
unfolding reduced
first-row h [] d s p l es ed = absurd (omega arith)
first-row h (x ∷ xs) d s p l es ed =
    let c = eq? (` x) (# h ⊗ ` (shr_z x h) ⊕ # (mod_z x h)) (div-mod x h p) in
    let d' : d ≡ pos h *ℤ shr_z x h = ed ∙ ap (λ (z : ℤ). x -ℤ z) es ∙ eq! (` x ⊖ # (mod_z x h)) (# h ⊗ ` (shr_z x h)) (omega (arith, c)) in
    let e : x -ℤ d ≡ pos (mod_z x h) = ap (λ (z : ℤ). x -ℤ z) d' ∙ eq! (` x ⊖ # h ⊗ ` (shr_z x h)) (# (mod_z x h)) (omega (arith, c)) in
    ap₂ (λ z a. z ∷ ints (later_numbers h (pos 0) (lowered a xs))) e d'
