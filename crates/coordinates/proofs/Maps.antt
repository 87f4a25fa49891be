-- An array made by `map` or `from_fn` with a closure that stays as it is: what it is, place by place, and when the closure may be called. Assumes nothing.
use Rattle.std.proofs.Common.{◌≡◌, ℕ, zero, suc, ◌+◌, ◌-◌, ◌<◌, ◌≤◌, List, ◌∷◌, length, map, get_or, sym, ap, ◌∙◌, subst, arith}
use Rattle.std.specs.Array.{IsMapOf, MapsFrom, IsFromFnResult, IsFromFnResultFrom, list_steps, index_steps}
use Rattle.std.specs.Fn.{Called}
use Rattle.std.specs.Iterator.{CallableAtEachTurn}
use Rattle.std.specs.List.{range_with_len}
use Rattle.std.proofs.lemmas.Iterator.Adapters.{serves_from_places}
use Rattle.std.proofs.lemmas.Iterator.Consumers.{YieldsList-from_shown}
use Rattle.std.proofs.lemmas.List.{same_lists, ext_get_or, length-map, get_or-map}
use Rattle.std.proofs.lemmas.List.FromFn.{get_or-range_with_len, length-range_with_len}
use denote.Param.Members.{Mut}

-- ---- `map`: h is what the closure computes

module _ {F A B : Type 0} (g : Mut F (A × Unit {0}) B) (h : A → B) (f : F) (xs : List A)
    (same : (k : ℕ) (x : A) (y : B) (q : F) → k < length xs → x ≡ get_or xs k x → Called g f (x, tt) y q → (q ≡ f) × (y ≡ h x)) where
  map-at : (ys : List B) (i n k : ℕ) (d : A) (e : B) → i + n ≤ length xs → MapsFrom g f xs ys i n → k < n → get_or ys (k + i) e ≡ h (get_or xs (k + i) d)
  map-at ys i zero k d e long m l = absurd (omega arith)
  map-at ys i (suc n) zero d e long (q, x, y, p, r, c, m) l =
      subst (λ j. get_or ys j e ≡ h (get_or xs j d)) {x = i} {y = 0 + i} (omega arith) (r.1 e ∙ (same i x y q (omega arith) (sym p.0) c).1 ∙ ap h (sym (p.1 d)))
  map-at ys i (suc n) (suc k) d e long (q, x, y, p, r, c, m) l =
      subst (λ j. get_or ys j e ≡ h (get_or xs j d)) {x = k + (i + 1)} {y = suc k + i} (omega arith)
      (map-at ys (i + 1) n k d e (omega arith) (subst (λ v. MapsFrom g v xs ys (i + 1) n) (same i x y q (omega arith) (sym p.0) c).0 m) (omega arith))

  pub map-is : (d : A) (ys : List B) (n : ℕ) → IsMapOf g f xs ys n → length xs ≡ n → ys ≡ map h xs
  map-is d ys n m l = same_lists ys (map h xs) (m.long ∙ sym l ∙ sym (length-map xs h))
      (λ k e b. subst (λ j. get_or ys j e ≡ h (get_or xs j d)) {x = k + 0} {y = k} (omega arith) (map-at ys 0 n k d e (omega (arith, l)) m.each (omega (arith, m.long)))
      ∙ sym (get_or-map h xs k d e (omega (arith, m.long, l))))

-- a closure that may be called at each element may be called by `map`
pub map-serves : {A F : Type 0} {R : F → A → F → Type 0} {Q : F → A → Type 0} (xs : List A) (f : F)
    → ((x : A) (q : F) → R f x q → q ≡ f) → ((x : A) (k : ℕ) → k < length xs → x ≡ get_or xs k x → Q f x) → CallableAtEachTurn list_steps R Q xs f
map-serves xs f same may = serves_from_places (YieldsList-from_shown list_steps (λ x. x) (λ s. s) (λ s t e. ap length e) (λ s x t e. e) xs) same may

-- ---- `from_fn`: h is what the closure computes

module _ {F B : Type 0} (g : Mut F (ℕ × Unit {0}) B) (h : ℕ → B) (f : F) where
  made-at : (ys : List B) (i n k : ℕ) (e : B) → ((j : ℕ) (y : B) (q : F) → j < n + i → Called g f (j, tt) y q → (q ≡ f) × (y ≡ h j))
      → IsFromFnResultFrom g f ys i n → k < n → get_or ys (k + i) e ≡ h (k + i)
  made-at ys i zero k e same m l = absurd (omega arith)
  made-at ys i (suc n) zero e same (q, y, r, c, m) l =
      subst (λ j. get_or ys j e ≡ h j) {x = i} {y = 0 + i} (omega arith) (r.1 e ∙ (same i y q (omega arith) c).1)
  made-at ys i (suc n) (suc k) e same (q, y, r, c, m) l =
      subst (λ j. get_or ys j e ≡ h j) {x = k + (i + 1)} {y = suc k + i} (omega arith)
      (made-at ys (i + 1) n k e (λ j z p b. same j z p (omega arith)) (subst (λ v. IsFromFnResultFrom g v ys (i + 1) n) (same i y q (omega arith) c).0 m) (omega arith))

  -- zs is h, place by place
  pub made-is : (d : B) (zs ys : List B) (n : ℕ) → IsFromFnResult g f ys n → length zs ≡ n → ((k : ℕ) → k < n → get_or zs k d ≡ h k)
      → ((j : ℕ) (y : B) (q : F) → j < n → Called g f (j, tt) y q → (q ≡ f) × (y ≡ h j)) → ys ≡ zs
  made-is d zs ys n m l each same = ext_get_or d ys zs (m.long ∙ sym l)
      (λ k b. subst (λ j. get_or ys j d ≡ h j) {x = k + 0} {y = k} (omega arith) (made-at ys 0 n k d (λ j y q c. same j y q (omega arith)) m.each (omega (arith, m.long)))
      ∙ sym (each k (omega (arith, m.long))))

from-steps : (n s x t : ℕ) → (s < n) × (x ≡ s) × (t ≡ s + 1) → range_with_len s (n - s) ≡ x ∷ range_with_len t (n - t)
from-steps n s x t e =
    ap (range_with_len s) {x = n - s} {y = suc (n - t)} (omega (arith, e.0, e.2)) ∙ ap (λ v. v ∷ range_with_len (s + 1) (n - t)) (sym e.1) ∙ ap (λ v. x ∷ range_with_len v (n - t)) (sym e.2)

-- a closure that may be called at each number below n may be called by `from_fn`
pub made-serves : {F : Type 0} {R : F → ℕ → F → Type 0} {Q : F → ℕ → Type 0} (n : ℕ) (f : F)
    → ((x : ℕ) (q : F) → R f x q → q ≡ f) → ((x : ℕ) → x < n → Q f x) → CallableAtEachTurn (index_steps n) R Q 0 f
made-serves {F} {R} {Q} n f same may =
    serves_from_places (YieldsList-from_shown (index_steps n) (λ x. x) (λ s. range_with_len s (n - s)) (λ s t e. length-range_with_len s (n - s) ∙ omega (arith, e)) (λ s x t e. from-steps n s x t e) 0)
    same (λ x k l e. may x (omega (arith, length-range_with_len 0 (n - 0), e ∙ get_or-range_with_len 0 (n - 0) k x (omega (arith, length-range_with_len 0 (n - 0))))))
