-- One message for each class: the reduction by the rows of matrix (39) is in the class, in range, and the only one so; and lengths.
-- Stated for every length that 4 divides; E8 is length 8
use mathlib.Core.Path.{◌≡◌, refl, ap, ◌∙◌}
use mathlib.Core.Bool.{Bool, true, false}
use mathlib.Core.List.{List, [], ◌∷◌}
use Prim.Native.Nat.{ℕ, suc, ◌*◌, ◌<◌}
use native.Mathlib.Omega.{arith}
use lib.ListN.{length}
use lib.IntN.{ℤ, pos, ◌+ℤ◌, ◌-ℤ◌, ◌*ℤ◌}
use lib.Signed.{shr_z}
use Rattle.integers.proofs.Zed.{`◌, #◌, ◌⊕◌, ◌⊖◌, ◌⊗◌, eq!, eq?}
use Rattle.integers.specs.Integer.{mod_z}
use Rattle.integers.proofs.Floor.{mod_z-lt, div-mod, digits-q, digits-r, multiple-rem, rem-multiple}
use Rattle.e8.specs.Lattice.{sum, Each, moved, InBlock}
use Rattle.e8.specs.Least.{lowered}
use Rattle.e8.specs.Rows.{ints, later_numbers, reduced, Below, Ranged}
use Rattle.e8.proofs.Group.{block-trans, block-const}

-- ---- lengths

pub lowered-length : (h : ℤ) (xs : List ℤ) → length (lowered h xs) ≡ length xs
lowered-length h [] = refl
lowered-length h (x ∷ xs) = ap suc (lowered-length h xs)

pub ints-length : (l : List ℕ) → length (ints l) ≡ length l
ints-length [] = refl
ints-length (s ∷ l) = ap suc (ints-length l)

pub later-length : (h : ℕ) (Q : ℤ) (ys : List ℤ) → length (later_numbers h Q ys) ≡ length ys
later-length h Q [] = refl
later-length h Q (y ∷ []) = refl
later-length h Q (y ∷ z ∷ zs) = ap suc (later-length h (Q +ℤ shr_z y (2 * h)) (z ∷ zs))

pub reduced-length : (h : ℕ) (xs : List ℤ) → length (reduced h xs) ≡ length xs
unfolding reduced
reduced-length h [] = refl
reduced-length h (x ∷ xs) = ap suc (later-length h (pos 0) (lowered (pos h *ℤ shr_z x h) xs) ∙ lowered-length (pos h *ℤ shr_z x h) xs)

-- ---- in range

later-below : (h : ℕ) (Q y : ℤ) (ys : List ℤ) → 0 < h → Below h (later_numbers h Q (y ∷ ys))
later-below h Q y [] k = mod_z-lt (y -ℤ pos (2 * h) *ℤ Q) (4 * h) (omega arith)
later-below h Q y (z ∷ []) k = (mod_z-lt y (2 * h) (omega arith), later-below h (Q +ℤ shr_z y (2 * h)) z [] k)
later-below h Q y (z ∷ z₁ ∷ zs) k = (mod_z-lt y (2 * h) (omega arith), later-below h (Q +ℤ shr_z y (2 * h)) z (z₁ ∷ zs) k)

pub reduced-ranged : (h : ℕ) (xs : List ℤ) → 0 < h → 1 < length xs → Ranged h (reduced h xs)
unfolding reduced
reduced-ranged h [] k n = absurd (omega arith)
reduced-ranged h (x ∷ []) k n = absurd (omega arith)
reduced-ranged h (x ∷ y ∷ ys) k n = (mod_z-lt x h k, later-below h (pos 0) (y -ℤ pos h *ℤ shr_z x h) (lowered (pos h *ℤ shr_z x h) ys) k)

-- ---- in the class

record Lower (h : ℕ) (Q : ℤ) (ys zs : List ℤ) : Type 0 where
  ws : List ℤ
  k : ℤ
  long : length ws ≡ length ys
  is : zs ≡ moved h ys ws
  even : Each false ws
  total : sum ws ≡ pos 2 *ℤ Q +ℤ pos 4 *ℤ k

later-in : (h : ℕ) (Q y : ℤ) (ys : List ℤ) → 0 < h → Lower h Q (y ∷ ys) (ints (later_numbers h Q (y ∷ ys)))
later-in h Q y [] p =
    let v : ℤ = y -ℤ pos (2 * h) *ℤ Q in
    let q : ℤ = shr_z v (4 * h) in
    let r : ℕ = mod_z v (4 * h) in
    record {
      ws = (pos 2 *ℤ Q +ℤ pos 4 *ℤ q) ∷ [];
      k = q;
      long = refl;
      is = ap (λ z. z ∷ []) (eq! (# r) (` y ⊖ # h ⊗ (# 2 ⊗ ` Q ⊕ # 4 ⊗ ` q))
          (omega (arith, eq? (` y ⊖ # (2 * h) ⊗ ` Q) (# (4 * h) ⊗ ` q ⊕ # r) (div-mod v (4 * h) (omega arith)))));
      even = (
        multiple-rem (pos 2 *ℤ Q +ℤ pos 4 *ℤ q) 2 (Q +ℤ pos 2 *ℤ q) (omega arith)
            (eq! (# 2 ⊗ ` Q ⊕ # 4 ⊗ ` q) (# 2 ⊗ (` Q ⊕ # 2 ⊗ ` q)) (omega arith)),
        tt,
      );
      total = eq! (# 2 ⊗ ` Q ⊕ # 4 ⊗ ` q ⊕ # 0) (# 2 ⊗ ` Q ⊕ # 4 ⊗ ` q) (omega arith);
    }
later-in h Q y (z ∷ zs) p =
    let q : ℤ = shr_z y (2 * h) in
    let s : ℕ = mod_z y (2 * h) in
    let l : Lower h (Q +ℤ q) (z ∷ zs) (ints (later_numbers h (Q +ℤ q) (z ∷ zs))) = later-in h (Q +ℤ q) z zs p in
    record {
      ws = (pos 2 *ℤ q) ∷ l.ws;
      k = q +ℤ l.k;
      long = ap suc l.long;
      is = cc (l.is, eq! (# s) (` y ⊖ # h ⊗ (# 2 ⊗ ` q)) (omega (arith, eq? (` y) (# (2 * h) ⊗ ` q ⊕ # s) (div-mod y (2 * h) (omega arith)))));
      even = (multiple-rem (pos 2 *ℤ q) 2 q (omega arith) refl, l.even);
      total = eq! (# 2 ⊗ ` q ⊕ ` (sum l.ws)) (# 2 ⊗ ` Q ⊕ # 4 ⊗ (` q ⊕ ` l.k))
          (omega (arith, eq? (` (sum l.ws)) (# 2 ⊗ (` Q ⊕ ` q) ⊕ # 4 ⊗ ` l.k) l.total));
    }

-- the remainders differ from the vector by a point of h·(2·E8)
pub reduced-in : (h j : ℕ) (xs : List ℤ) → 0 < h → length xs ≡ 4 * suc j → InBlock h xs (ints (reduced h xs))
unfolding reduced
reduced-in h j [] p n = absurd (omega arith)
reduced-in h j (x ∷ []) p n = absurd (omega arith)
reduced-in h j (x ∷ y ∷ ys) p n =
    let q : ℤ = shr_z x h in
    let y' : ℤ = y -ℤ pos h *ℤ q in
    let ys' : List ℤ = lowered (pos h *ℤ q) ys in
    let l : Lower h (pos 0) (y' ∷ ys') (ints (later_numbers h (pos 0) (y' ∷ ys'))) = later-in h (pos 0) y' ys' p in
    block-trans h (x ∷ y ∷ ys) ((x -ℤ pos h *ℤ q) ∷ y' ∷ ys') (pos (mod_z x h) ∷ ints (later_numbers h (pos 0) (y' ∷ ys'))) (block-const h (suc j) q (x ∷ y ∷ ys) n)
    (record {
      ws = pos 0 ∷ l.ws;
      long = ap suc l.long;
      is = cc (l.is, eq! (# (mod_z x h)) (` x ⊖ # h ⊗ ` q ⊖ # h ⊗ # 0) (omega (arith, eq? (` x) (# h ⊗ ` q ⊕ # (mod_z x h)) (div-mod x h p))));
      point = record {
        odd = false;
        same = (refl, l.even);
        four = multiple-rem (pos 0 +ℤ sum l.ws) 4 l.k (omega arith) (eq! (# 0 ⊕ ` (sum l.ws)) (# 4 ⊗ ` l.k)
            (omega (arith, eq? (` (sum l.ws)) (# 2 ⊗ # 0 ⊕ # 4 ⊗ ` l.k) l.total)));
      };
    })

-- ---- unique

-- s − h·w = t, both below m = h·c, and w = c·u: then u is 0, and t is s
same_step : (h c s t : ℕ) (w u : ℤ) → s < c * h → t < c * h → w ≡ pos c *ℤ u → pos t ≡ pos s -ℤ pos h *ℤ w → (u ≡ pos 0) × (t ≡ s)
same_step h c s t w u hs ht e d =
    let f : pos (c * h) *ℤ u +ℤ pos t ≡ pos (c * h) *ℤ pos 0 +ℤ pos s =
    eq! (# (c * h) ⊗ ` u ⊕ # t) (# (c * h) ⊗ # 0 ⊕ # s)
    (omega (arith, eq? (# t) (# s ⊖ # h ⊗ ` w) d, ap (λ (n : ℕ). h * n) (eq? (` w) (# c ⊗ ` u) e))) in
    (digits-q (c * h) u (pos 0) t s ht hs f, digits-r (c * h) u (pos 0) t s ht hs f)

low-unique : (h s t : ℕ) (ss ts : List ℕ) (ws : List ℤ) (k : ℤ) → Below h (s ∷ ss) → Below h (t ∷ ts) → Each false ws → sum ws ≡ pos 4 *ℤ k
    → length ws ≡ length (ints (s ∷ ss)) → ints (t ∷ ts) ≡ moved h (ints (s ∷ ss)) ws → t ∷ ts ≡ s ∷ ss
low-unique h s t ss ts [] k a b v e l d = absurd (omega arith)
low-unique h s t [] [] (w ∷ []) k a b v e l d =
    let g : w ≡ pos 4 *ℤ k = eq! (` w) (# 4 ⊗ ` k) (omega (arith, eq? (` w ⊕ # 0) (# 4 ⊗ ` k) e)) in
    let c : pos t ≡ pos s -ℤ pos h *ℤ w = cc in
    ap (λ n. n ∷ []) (same_step h 4 s t w k a b g c).1
low-unique h s t [] [] (w ∷ v₁ ∷ vs) k a b v e l d = absurd (omega arith)
low-unique h s t [] (t₁ ∷ ts) (w ∷ ws) k a b v e l d = absurd (omega (arith, ap length d))
low-unique h s t (s₁ ∷ ss) [] (w ∷ []) k a b v e l d = absurd (omega arith)
low-unique h s t (s₁ ∷ ss) [] (w ∷ v₁ ∷ vs) k a b v e l d = absurd (omega (arith, ap length d))
low-unique h s t (s₁ ∷ ss) (t₁ ∷ ts) (w ∷ ws) k a b v e l d =
    let c : pos t ≡ pos s -ℤ pos h *ℤ w = cc in
    let c₁ : ints (t₁ ∷ ts) ≡ moved h (ints (s₁ ∷ ss)) ws = cc in
    let d₂ : w ≡ pos 2 *ℤ shr_z w 2 = rem-multiple w 2 (omega arith) v.0 in
    let r : (shr_z w 2 ≡ pos 0) × (t ≡ s) = same_step h 2 s t w (shr_z w 2) a.0 b.0 d₂ c in
    let e₁ : sum ws ≡ pos 4 *ℤ k = eq! (` (sum ws)) (# 4 ⊗ ` k)
    (omega (arith, eq? (` w ⊕ ` (sum ws)) (# 4 ⊗ ` k) e, eq? (` w) (# 2 ⊗ ` (shr_z w 2)) d₂, eq? (` (shr_z w 2)) (# 0) r.0)) in
    cc (r.1, low-unique h s₁ t₁ ss ts ws k a.1 b.1 v.1 e₁ (omega arith) c₁)

-- two messages in range whose vectors differ by a point of h·(2·E8) are one
pub ranged-unique : (h : ℕ) (ss ts : List ℕ) → Ranged h ss → Ranged h ts → InBlock h (ints ss) (ints ts) → ts ≡ ss
ranged-unique h [] ts a b i = absurd a
ranged-unique h (s ∷ []) ts a b i = absurd a.1
ranged-unique h (s ∷ s₁ ∷ ss) [] a b i = absurd b
ranged-unique h (s ∷ s₁ ∷ ss) (t ∷ []) a b i = absurd b.1
ranged-unique h (s ∷ s₁ ∷ ss) (t ∷ t₁ ∷ ts) a b i =
    go i.ws i.long i.is i.point.odd i.point.same (rem-multiple (sum i.ws) 4 (omega arith) i.point.four)
  where
    k : ℤ
    k = shr_z (sum i.ws) 4

    go : (ws : List ℤ) → length ws ≡ length (ints (s ∷ s₁ ∷ ss)) → ints (t ∷ t₁ ∷ ts) ≡ moved h (ints (s ∷ s₁ ∷ ss)) ws → (o : Bool) → Each o ws
        → sum ws ≡ pos 4 *ℤ k → t ∷ t₁ ∷ ts ≡ s ∷ s₁ ∷ ss
    go [] l d o v e = absurd (omega arith)
    go (w ∷ ws) l d o v e =
        let c : pos t ≡ pos s -ℤ pos h *ℤ w = cc in
        let r : (w ≡ pos 0) × (t ≡ s) = same_step h 1 s t w w (omega (arith, a.0)) (omega (arith, b.0)) (eq! (` w) (# 1 ⊗ ` w) (omega arith)) c in
        go' o v r
      where
        go' : (o : Bool) → Each o (w ∷ ws) → (w ≡ pos 0) × (t ≡ s) → t ∷ t₁ ∷ ts ≡ s ∷ s₁ ∷ ss
        go' false v r =
            cc (
              r.1,
              low-unique h s₁ t₁ ss ts ws k a.1 b.1 v.1
                  (eq! (` (sum ws)) (# 4 ⊗ ` k) (omega (arith, eq? (` w ⊕ ` (sum ws)) (# 4 ⊗ ` k) e, eq? (` w) (# 0) r.0)))
                  (omega arith) (cc),
            )
        go' true v r = absurd (omega (arith, v.0, ap (λ (z : ℤ). mod_z z 2) r.0))
