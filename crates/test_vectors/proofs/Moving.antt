-- A frame with coordinates moved, made place by place over marks. Assumes nothing.
use Prim.Native.Nat.{ℕ, suc, ◌+◌, ◌-◌, ◌≤◌, ◌<◌}
use mathlib.Core.Path.{◌≡◌, refl, sym, ap, ap₂, ◌∙◌}
use mathlib.Core.Bool.{cond, ◌&&◌}
use mathlib.Core.List.{List, [], ◌∷◌, ◌++◌, append_assoc, append-nil}
use native.Mathlib.Numerals.{add-one}
use native.Mathlib.Omega.{arith}
use lib.Dec.{leb, ltb}
use lib.IntN.{ℤ, pos}
use lib.ListN.{length, take, drop, set, take-append-drop, drop_of_length-le}
use lib.Seq.{drop-cons, drop-drop, take-suc-set, drop-set-lt, take_at}
use Rattle.frames.proofs.Frame.{at}
use Rattle.test_vectors.specs.Vector.{moved_by, moved_from, moved_frame}

-- as many coordinates as before
moved_length : (a e by p : ℕ) (f : List ℤ) → length (moved_from a e by p f) ≡ length f
unfolding moved_from
moved_length a e by p [] = refl
moved_length a e by p (z ∷ f) = ap suc (moved_length a e by (suc p) f)

module _ (a e by : ℕ) (f : List ℤ) where
  -- p coordinates are made: with the rest moved they are the moved frame; from p on there are the marks
  abbrev pub Made : List ℤ → List ℤ → ℕ → Type 0
  Made marks out p = (take p out ++ moved_from a e by p (drop p f) ≡ moved_frame a e by f) × (drop p out ≡ drop p marks)

  one-moved : (p : ℕ) → p < length f → moved_from a e by p (drop p f)
      ≡ cond (leb a p && ltb p e) (moved_by by (at f p)) (at f p) ∷ moved_from a e by (suc p) (drop (suc p) f)
  unfolding moved_from
  one-moved p h = rw (drop-cons f p (pos 0) h) refl

  pub made_more : (marks out : List ℤ) (p : ℕ) (v : ℤ) → p < length f → p < length out → v ≡ cond (leb a p && ltb p e) (moved_by by (at f p)) (at f p)
      → Made marks out p → Made marks (set out p v) (p + 1)
  made_more marks out p v hf ho is m = (
    ap₂ ◌++◌
        (ap (λ (n : ℕ). take n (set out p v)) (add-one p) ∙ take-suc-set out p v ho)
        (ap (λ (n : ℕ). moved_from a e by n (drop n f)) (add-one p))
        ∙ append_assoc (take p out) (v ∷ []) (moved_from a e by (suc p) (drop (suc p) f))
        ∙ ap (λ (l : List ℤ). take p out ++ l) (ap (λ (z : ℤ). z ∷ moved_from a e by (suc p) (drop (suc p) f)) is ∙ sym (one-moved p hf))
        ∙ m.0,
    drop-set-lt (p + 1) out p v (omega arith) ∙ sym (drop-drop 1 p out) ∙ ap (drop 1) m.1 ∙ drop-drop 1 p marks,
  )

  pub made_all : (marks out : List ℤ) (p : ℕ) → p ≤ length f → length f ≤ p → Made marks out p → out ≡ moved_frame a e by f ++ drop (length f) marks
  unfolding moved_from
  made_all marks out p h h' m =
      let q : p ≡ length f = omega arith in
      sym (take-append-drop p out)
      ∙ ap₂ ◌++◌
      (sym (append-nil (take p out)) ∙ ap (λ (l : List ℤ). take p out ++ moved_from a e by p l) (sym (drop_of_length-le f h')) ∙ m.0)
      (m.1 ∙ ap (λ (n : ℕ). drop n marks) q)

  -- the frame alone
  pub first-moved : (marks out : List ℤ) → out ≡ moved_frame a e by f ++ drop (length f) marks → take (length f - 0) out ≡ moved_frame a e by f
  first-moved marks out is =
      let q : length (moved_frame a e by f) ≡ length f - 0 = omega (arith, moved_length a e by 0 f) in
      ap (take (length f - 0)) is ∙ take_at (moved_frame a e by f) (drop (length f) marks) (length f - 0) q
