-- Laws of bytes put at a place of a buffer: what stands there, before and behind, and bytes put one behind the other. Assumes nothing.
use Prim.Native.Nat.{ℕ, suc, ◌+◌, ◌≤◌, ◌<◌}
use native.Mathlib.Nat.{add-zero}
use native.Mathlib.Numerals.{add-one}
use native.Mathlib.Omega.{arith}
use mathlib.Core.Path.{◌≡◌, sym, ap, ◌∙◌}
use mathlib.Core.List.{List, [], ◌∷◌, ◌++◌, append_assoc, append-nil}
use lib.ListN.{length, take, drop, set, get_or, length-append, length-drop, length-take, take-append-drop}
use lib.Seq.{set_split, append_snoc, sets, sets-eq, take_at, drop_at, drop-drop, length-take-le, get_or-drop, get_or-take}
use Rattle.octets.specs.Place.{put_at}

-- a store of one byte, and a run of stores
pub set-put : (o : List ℕ) (p b : ℕ) → p < length o → set o p b ≡ put_at o p (b ∷ [])
unfolding put_at
set-put o p b h = set_split o p b h ∙ sym (append_snoc (take p o) b (drop (suc p) o)) ∙ rw add-one

pub sets-put : (o : List ℕ) (p : ℕ) (s : List ℕ) → p + length s ≤ length o → sets o p s ≡ put_at o p s
unfolding put_at
sets-put o p s h = sets-eq s o p h

pub length-put : (o : List ℕ) (p : ℕ) (s : List ℕ) → p + length s ≤ length o → length (put_at o p s) ≡ length o
unfolding put_at
length-put o p s h = simp (length-append, length-take, length-drop) (omega arith)

-- putting nothing
pub put-none : (o : List ℕ) (p : ℕ) → put_at o p [] ≡ o
unfolding put_at
put-none o p = rw (add-zero, append-nil, take-append-drop)

module _ (o : List ℕ) (p : ℕ) (s : List ℕ) (h : p + length s ≤ length o) where
  head : length (take p o ++ s) ≡ p + length s
  head = length-append (take p o) s ∙ ap (λ (n : ℕ). n + length s) (length-take-le p o (omega arith))

  -- what stands before the bytes, from them on, and behind them
  pub put-before : take p (put_at o p s) ≡ take p o
  unfolding put_at
  put-before = ap (take p) (append_assoc (take p o) s (drop (p + length s) o)) ∙ take_at (take p o) (s ++ drop (p + length s) o) p (length-take-le p o (omega arith))

  pub put-there : drop p (put_at o p s) ≡ s ++ drop (p + length s) o
  unfolding put_at
  put-there = ap (drop p) (append_assoc (take p o) s (drop (p + length s) o)) ∙ drop_at (take p o) (s ++ drop (p + length s) o) p (length-take-le p o (omega arith))

  pub put-behind : drop (p + length s) (put_at o p s) ≡ drop (p + length s) o
  unfolding put_at
  put-behind = drop_at (take p o ++ s) (drop (p + length s) o) (p + length s) head

  -- bytes, and others right behind them
  pub put-more : (t : List ℕ) → put_at (put_at o p s) (p + length s) t ≡ put_at o p (s ++ t)
  unfolding put_at
  put-more t =
      let l : length (s ++ t) ≡ length s + length t = length-append s t in
      let e₁ : take (p + length s) (take p o ++ s ++ drop (p + length s) o) ≡ take p o ++ s = take_at (take p o ++ s) (drop (p + length s) o) (p + length s) head in
      let e₂ : drop (p + length s + length t) (take p o ++ s ++ drop (p + length s) o) ≡ drop (p + length (s ++ t)) o =
      sym (drop-drop (length t) (p + length s) (take p o ++ s ++ drop (p + length s) o))
      ∙ ap (drop (length t)) (drop_at (take p o ++ s) (drop (p + length s) o) (p + length s) head)
      ∙ drop-drop (length t) (p + length s) o
      ∙ ap (λ (n : ℕ). drop n o) (ends (length s) (length t) (length (s ++ t)) l) in
      rw (e₁, e₂, append_assoc (take p o) s t)
    where
      ends : (x y z : ℕ) → z ≡ x + y → p + x + y ≡ p + z
      ends x y z l = omega arith

  -- byte by byte
  pub before-kept : (i : ℕ) → i < p → get_or (put_at o p s) i 0 ≡ get_or o i 0
  before-kept i l = sym (get_or-take p (put_at o p s) i 0 l) ∙ ap (λ (x : List ℕ). get_or x i 0) put-before ∙ get_or-take p o i 0 l

  pub behind-kept : (i : ℕ) → get_or (put_at o p s) (p + length s + i) 0 ≡ get_or o (p + length s + i) 0
  behind-kept i =
      sym (get_or-drop (p + length s) (put_at o p s) i 0) ∙ ap (λ (x : List ℕ). get_or x i 0) put-behind ∙ get_or-drop (p + length s) o i 0

-- what stands there already
pub put_same : (o : List ℕ) (p n : ℕ) → p + n ≤ length o → put_at o p (take n (drop p o)) ≡ o
unfolding put_at
put_same o p n h =
    let e : length (take n (drop p o)) ≡ n = length-take-le n (drop p o) (rw length-drop (omega arith)) in
    let b : drop n (drop p o) ≡ drop (p + n) o = drop-drop n p o in
    ap (λ (m : ℕ). take p o ++ take n (drop p o) ++ drop (p + m) o) e
    ∙ append_assoc (take p o) (take n (drop p o)) (drop (p + n) o)
    ∙ ap (λ (x : List ℕ). take p o ++ (take n (drop p o) ++ x)) (sym b)
    ∙ ap (λ (x : List ℕ). take p o ++ x) (take-append-drop n (drop p o))
    ∙ take-append-drop p o
