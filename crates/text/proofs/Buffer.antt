-- Laws of texts put into a buffer one after the other. Assumes nothing.
use Prim.Native.Nat.{ℕ, suc, ◌+◌, ◌≤◌, ◌<◌}
use native.Mathlib.Nat.{add-zero}
use native.Mathlib.Numerals.{add-one}
use native.Mathlib.Omega.{arith}
use mathlib.Core.Path.{◌≡◌, refl, sym, ap, ◌∙◌}
use mathlib.Core.List.{List, [], ◌∷◌, ◌++◌, append_assoc, append-nil}
use lib.ListN.{length, take, drop, set, length-append, length-drop, length-take, take-append-drop}
use lib.Seq.{set_split, append_snoc, take_at, drop_at, drop-drop, length-take-le}
use Rattle.text.specs.Text.{written, Put}

-- a store of one byte
pub set-written : (o : List ℕ) (a b : ℕ) → a < length o → set o a b ≡ written o a (b ∷ [])
unfolding written
set-written o a b h = set_split o a b h ∙ sym (append_snoc (take a o) b (drop (suc a) o)) ∙ rw add-one

pub length-written : (o : List ℕ) (a : ℕ) (s : List ℕ) → a + length s ≤ length o → length (written o a s) ≡ length o
unfolding written
length-written o a s h = simp (length-append, length-take, length-drop) (omega arith)

-- a text, and another right after it
written-more : (o : List ℕ) (a : ℕ) (s t : List ℕ) → a + length s ≤ length o → written (written o a s) (a + length s) t ≡ written o a (s ++ t)
unfolding written
written-more o a s t h =
    let q : length (take a o ++ s) ≡ a + length s = length-append (take a o) s ∙ ap (λ (n : ℕ). n + length s) (length-take-le a o (omega arith)) in
    let l : length (s ++ t) ≡ length s + length t = length-append s t in
    let e1 : take (a + length s) (take a o ++ s ++ drop (a + length s) o) ≡ take a o ++ s = take_at (take a o ++ s) (drop (a + length s) o) (a + length s) q in
    let e2 : drop (a + length s + length t) (take a o ++ s ++ drop (a + length s) o) ≡ drop (a + length (s ++ t)) o =
    sym (drop-drop (length t) (a + length s) (take a o ++ s ++ drop (a + length s) o))
    ∙ ap (drop (length t)) (drop_at (take a o ++ s) (drop (a + length s) o) (a + length s) q)
    ∙ drop-drop (length t) (a + length s) o
    ∙ ap (λ (n : ℕ). drop n o) (ends (length s) (length t) (length (s ++ t)) l) in
    rw (e1, e2, append_assoc (take a o) s t)
  where
    ends : (x y z : ℕ) → z ≡ x + y → a + x + y ≡ a + z
    ends x y z l = omega arith

-- putting a text, and then another at the place after it, puts both
pub put-more : {o₀ o o' s t : List ℕ} {a r r' : ℕ} → Put o₀ a s r o → Put o r t r' o' → r ≤ length o₀ → Put o₀ a (s ++ t) r' o'
put-more {o₀} {o} {o'} {s} {t} {a} {r} {r'} p q h = record {
  after = omega (arith, p.after, q.after, length-append s t);
  text = q.text ∙ rw (p.text, p.after) (written-more o₀ a s t (omega (arith, p.after)));
}

-- putting no text
pub put-none : (o : List ℕ) (a : ℕ) → Put o a [] a o
unfolding written
put-none o a = record { after = omega arith; text = rw (add-zero, append-nil, take-append-drop) }

-- a text put within n bytes from place a on, for a function that goes on from there
pub record Within (o₀ : List ℕ) (a n : ℕ) (s : List ℕ) (r : ℕ) (o : List ℕ) : Type 0 where
  pub put : Put o₀ a s r o
  pub most : r ≤ a + n
  pub same : length o ≡ length o₀

pub within_none : (o : List ℕ) (a : ℕ) → Within o a 0 [] a o
within_none o a = record { put = put-none o a; most = omega arith; same = refl }

-- k bytes more
pub within_more : {o₀ o o' s t : List ℕ} {a n r r' : ℕ} (k : ℕ) → Within o₀ a n s r o → Put o r t r' o' → length t ≤ k → a + n + k ≤ length o₀
    → Within o₀ a (n + k) (s ++ t) r' o'
within_more {o₀} {o} {o'} {s} {t} {a} {n} {r} {r'} k w q l h = record {
  put = put-more w.put q (omega (arith, w.most));
  most = omega (arith, w.most, q.after);
  same = ap length q.text ∙ length-written o r t (omega (arith, w.most, w.same)) ∙ w.same;
}
