-- The class of a block is the whole part and the half part together, and least_block is its least member.
-- Stated for every length that 4 divides; E8 is length 8
use mathlib.Core.Path.{◌≡◌, refl, sym, ◌∙◌, ap}
use mathlib.Core.Bool.{Bool, true, false}
use mathlib.Core.List.{List, [], ◌∷◌}
use Prim.Native.Nat.{ℕ, suc, ◌*◌, ◌<◌}
use native.Mathlib.Omega.{arith}
use lib.ListN.{length}
use lib.IntN.{ℤ, pos, ◌+ℤ◌, ◌-ℤ◌, ◌*ℤ◌}
use lib.Signed.{shr_z}
use Rattle.integers.proofs.Zed.{`◌, #◌, ◌⊕◌, ◌⊖◌, ◌⊗◌, eq!, eq?}
use Rattle.integers.specs.Integer.{mod_z}
use Rattle.integers.proofs.Floor.{div-mod, rem_is, multiple-rem}
use Rattle.e8.specs.Lattice.{sum, bit, Each, moved, InBlock}
use Rattle.e8.specs.Least.{better, best, lowered, least_block}
use Rattle.e8.proofs.Order.{◌≼◌, trans, better-left, better-right, better-is}
use Rattle.e8.proofs.Cent.{Range}
use Rattle.e8.proofs.Best.{In, best-in, best-least, All, best-range}

-- the whole part and the half part: the list, or the list H less at each coordinate
abbrev shifted : ℕ → Bool → List ℤ → List ℤ
shifted H false xs = xs
shifted H true xs = lowered (pos H) xs

-- ---- 2u + b, and back

abbrev grown : Bool → List ℤ → List ℤ
grown b [] = []
grown b (u ∷ us) = (pos 2 *ℤ u +ℤ pos (bit b)) ∷ grown b us

abbrev halved : List ℤ → List ℤ
halved [] = []
halved (w ∷ ws) = shr_z w 2 ∷ halved ws

bit-lt : (b : Bool) → bit b < 2
bit-lt false = omega arith
bit-lt true = omega arith

grown-each : (b : Bool) (us : List ℤ) → Each b (grown b us)
grown-each b [] = tt
grown-each b (u ∷ us) = (rem_is (pos 2 *ℤ u +ℤ pos (bit b)) 2 u (bit b) (bit-lt b) refl, grown-each b us)

grown-halved : (b : Bool) (ws : List ℤ) → Each b ws → grown b (halved ws) ≡ ws
grown-halved b [] h = refl
grown-halved b (w ∷ ws) h = cc (div-mod w 2 (omega arith), h.0, grown-halved b ws h.1)

grown-length : (b : Bool) (us : List ℤ) → length (grown b us) ≡ length us
grown-length b [] = refl
grown-length b (u ∷ us) = ap suc (grown-length b us)

halved-length : (ws : List ℤ) → length (halved ws) ≡ length ws
halved-length [] = refl
halved-length (w ∷ ws) = ap suc (halved-length ws)

grown-sum : (b : Bool) (us : List ℤ) → sum (grown b us) ≡ pos 2 *ℤ sum us +ℤ pos (bit b * length us)
grown-sum b [] = eq! (# 0) (# 2 ⊗ # 0 ⊕ # (bit b * 0)) (omega arith)
grown-sum b (u ∷ us) = eq! (# 2 ⊗ ` u ⊕ # (bit b) ⊕ ` (sum (grown b us))) (# 2 ⊗ (` u ⊕ ` (sum us)) ⊕ # (bit b * suc (length us)))
    (omega (arith, eq? (` (sum (grown b us))) (# 2 ⊗ ` (sum us) ⊕ # (bit b * length us)) (grown-sum b us)))

grown-moved : (H : ℕ) (b : Bool) (xs us : List ℤ) → moved (2 * H) (shifted H b xs) us ≡ moved H xs (grown b us)
grown-moved H false [] us = refl
grown-moved H true [] us = refl
grown-moved H false (x ∷ xs) [] = refl
grown-moved H true (x ∷ xs) [] = refl
grown-moved H false (x ∷ xs) (u ∷ us) = cc (eq! (` x ⊖ # (2 * H) ⊗ ` u) (` x ⊖ # H ⊗ (# 2 ⊗ ` u ⊕ # 0)) (omega arith), grown-moved H false xs us)
grown-moved H true (x ∷ xs) (u ∷ us) = cc (eq! (` x ⊖ # H ⊖ # (2 * H) ⊗ ` u) (` x ⊖ # H ⊗ (# 2 ⊗ ` u ⊕ # 1)) (omega arith), grown-moved H true xs us)

shifted-length : (H : ℕ) (b : Bool) (xs : List ℤ) → length (shifted H b xs) ≡ length xs
shifted-length H false xs = refl
shifted-length H true [] = refl
shifted-length H true (x ∷ xs) = ap suc (shifted-length H true xs)

-- ---- the class is the whole part and the half part together

module _ (H j : ℕ) (xs zs : List ℤ) (size : length xs ≡ 4 * j) where
  into : (b : Bool) → In (2 * H) false (shifted H b xs) zs → InBlock H xs zs
  into b i =
      let n : length i.us ≡ 4 * j = i.long ∙ shifted-length H b xs ∙ size in
      record {
        ws = grown b i.us;
        long = grown-length b i.us ∙ i.long ∙ shifted-length H b xs;
        is = i.is ∙ grown-moved H b xs i.us;
        point = record {
          odd = b;
          same = grown-each b i.us;
          four = multiple-rem (sum (grown b i.us)) 4 (i.half +ℤ pos (bit b * j)) (omega arith)
              (eq! (` (sum (grown b i.us))) (# 4 ⊗ (` i.half ⊕ # (bit b * j)))
              (omega (
                arith,
                eq? (` (sum (grown b i.us))) (# 2 ⊗ ` (sum i.us) ⊕ # (bit b * length i.us)) (grown-sum b i.us),
                eq? (` (sum i.us)) (# 2 ⊗ ` i.half ⊕ # 0) i.even,
                ap (λ (m : ℕ). bit b * m) n,
              )));
        };
      }

  out : (i : InBlock H xs zs) → In (2 * H) false (shifted H i.point.odd xs) zs
  out i =
      let b : Bool = i.point.odd in
      let us : List ℤ = halved i.ws in
      let t : ℤ = shr_z (sum i.ws) 4 in
      let back : grown b us ≡ i.ws = grown-halved b i.ws i.point.same in
      let n : length us ≡ 4 * j = halved-length i.ws ∙ i.long ∙ size in
      record {
        us = us;
        half = t -ℤ pos (bit b * j);
        long = halved-length i.ws ∙ i.long ∙ sym (shifted-length H b xs);
        is = i.is ∙ ap (λ l. moved H xs l) (sym back) ∙ sym (grown-moved H b xs us);
        even = eq! (` (sum us)) (# 2 ⊗ (` t ⊖ # (bit b * j)) ⊕ # 0)
            (omega (
              arith,
              eq? (` (sum i.ws)) (# 2 ⊗ ` (sum us) ⊕ # (bit b * length us)) (ap sum (sym back) ∙ grown-sum b us),
              eq? (` (sum i.ws)) (# 4 ⊗ ` t ⊕ # (mod_z (sum i.ws) 4)) (div-mod (sum i.ws) 4 (omega arith)),
              i.point.four,
              ap (λ (m : ℕ). bit b * m) n,
            ));
      }

-- ---- the law of a block

module _ (H : ℕ) (pos-H : 0 < H) where
  pub block_in : (j : ℕ) (xs : List ℤ) → length xs ≡ 4 * suc j → InBlock H xs (least_block H xs)
  unfolding least_block
  block_in j [] size = absurd (omega arith)
  block_in j (x ∷ xs) size = better-is (InBlock H (x ∷ xs)) (best (2 * H) false (x ∷ xs)) (best (2 * H) false (lowered (pos H) (x ∷ xs)))
      (into H (suc j) (x ∷ xs) (best (2 * H) false (x ∷ xs)) size false (best-in (2 * H) false x xs (omega arith)))
      (into H (suc j) (x ∷ xs) (best (2 * H) false (lowered (pos H) (x ∷ xs))) size true
      (best-in (2 * H) false (x -ℤ pos H) (lowered (pos H) xs) (omega arith)))

  pub block-least : (j : ℕ) (xs zs : List ℤ) → length xs ≡ 4 * suc j → InBlock H xs zs → least_block H xs ≼ zs
  unfolding least_block
  block-least j [] zs size i = absurd (omega arith)
  block-least j (x ∷ xs) zs size i = go i.point.odd (out H (suc j) (x ∷ xs) zs size i)
    where
      a : List ℤ
      a = best (2 * H) false (x ∷ xs)

      c : List ℤ
      c = best (2 * H) false (lowered (pos H) (x ∷ xs))

      go : (b : Bool) → In (2 * H) false (shifted H b (x ∷ xs)) zs → better a c ≼ zs
      go false k = trans (better a c) a zs (better-left a c) (best-least (2 * H) false x xs zs (omega arith) k)
      go true k = trans (better a c) c zs (better-right a c) (best-least (2 * H) false (x -ℤ pos H) (lowered (pos H) xs) zs (omega arith) k)

  -- every coordinate is in [−M, M)
  pub block-range : (xs : List ℤ) → All (Range (2 * H)) (least_block H xs)
  unfolding least_block
  block-range xs = better-is (All (Range (2 * H))) (best (2 * H) false xs) (best (2 * H) false (lowered (pos H) xs))
      (best-range (2 * H) false xs (omega arith)) (best-range (2 * H) false (lowered (pos H) xs) (omega arith))
