-- A block rounded, with one coordinate changed where its sum is odd, is the best by whole vectors; and the better of the two parts is the least block.
--
-- The members by whole vectors are xs − M·u with the sum of u even. Each coordinate by itself is least at c = cent H x, the nearest to 0 modulo M (of H and
-- −H the latter, which reads first), and these make a member where what comes off in all is an even multiple of M. Where it is an odd one, some
-- coordinate has to take an odd number of Ms more, and no way is cheaper than one coordinate by one M, across 0. That adds M·(M − 2·|c|): it
-- costs least where |c| is largest. Among equals reading order decides: a c that is not negative becomes smaller, so the first of these is changed;
-- a negative one becomes larger, so the last of these is, and only where every equal is negative.
-- One number orders the places so, the rank: 16·|c| + 15 − i at place i where c is not negative, and 16·|c| + i where it is.
--
-- The proof takes the coordinates from the last to the first and keeps the best block for the parity that rounding leaves (all rounded) and the best
-- for the other (the coordinate of highest rank changed); what one coordinate more does to both is in e8, Rounding
use mathlib.Core.Path.{◌≡◌, refl, sym, ◌∙◌, ap, ap₂, subst}
use mathlib.Core.Logic.{◌⊎◌, inl, inr}
use mathlib.Core.Bool.{Bool, true, false, cond}
use mathlib.Core.List.{List, [], ◌∷◌}
use Prim.Native.Nat.{ℕ, zero, suc, ◌+◌, ◌*◌, ◌-◌, ◌/◌, ◌%◌, ◌<◌, ◌≤◌}
use native.Mathlib.Nat.{eq-or-lt_of_le}
use native.Mathlib.Omega.{arith}
use borrow.Author.Tests.{lt-ltb, le-ltb, ltb-true, ltb-false}
use lib.Dec.{ltb}
use lib.ListN.{length, drop, get_or, set}
use lib.Seq.{drop-cons}
use lib.IntN.{ℤ, pos, negsuc, ◌+ℤ◌, ◌-ℤ◌, nat_abs}
use lib.Signed.{lt_z}
use Rattle.integers.specs.Integer.{mod_z}
use Rattle.integers.proofs.Zed.{`◌, #◌, ◌⊕◌, ◌⊖◌, eq! }
use Rattle.e8.specs.Energy.{energy}
use Rattle.e8.specs.Lattice.{bit}
use Rattle.e8.specs.Least.{cent, better, best, lowered, least_block}
use Rattle.e8.proofs.Order.{better-heads}
use Rattle.e8.proofs.Points.{rest}
use Rattle.e8.proofs.Best.{best-head, parts-differ, best-length}
use Rattle.e8.proofs.Rounding.{Parity, parity-none, parity-more, parity-rest, Turned, turned, Rounding, round-one, round-here, round-later}
use Rattle.e8.proofs.Rows.{lowered-length}
use Rattle.mending.specs.Rounded.{across, whole_first, rank_of, rounded, off, highest}

-- ---- ranks

-- the place that a rank names
abbrev pub place_of : ℕ → ℕ
place_of n = cond (ltb (n % 16) 8) (n % 16) (15 - n % 16)

-- a rank that was taken at place i or later
pub record Late (n i : ℕ) : Type 0 where
  pub low : i ≤ n % 16
  pub high : n % 16 + i ≤ 15

place-late : (n i : ℕ) → Late n i → i ≤ place_of n
place-late n i l = go (ltb (n % 16) 8)
  where
    go : (t : Bool) → i ≤ cond t (n % 16) (15 - n % 16)
    go true = l.low
    go false = omega (arith, l.high)

pub record Ranked (n a i : ℕ) : Type 0 where
  pub size : n / 16 ≡ a
  pub place : place_of n ≡ i
  pub late : Late n i

pub ranked : (low : Bool) (a i : ℕ) → i < 8 → Ranked (16 * a + cond low i (15 - i)) a i
ranked true a i h =
    let r : (16 * a + i) % 16 ≡ i = omega arith in
    record {
      size = omega arith;
      place = ap (λ (t : ℕ). cond (ltb t 8) t (15 - t)) r ∙ ap (λ b. cond b i (15 - i)) (lt-ltb i 8 h);
      late = record { low = omega arith; high = omega arith };
    }
ranked false a i h =
    let r : (16 * a + (15 - i)) % 16 ≡ 15 - i = omega arith in
    let k : 15 - (15 - i) ≡ i = omega arith in
    record {
      size = omega arith;
      place = ap (λ (t : ℕ). cond (ltb t 8) t (15 - t)) r ∙ ap (λ b. cond b (15 - i) (15 - (15 - i))) (le-ltb (15 - i) 8 (omega arith)) ∙ k;
      late = record { low = omega arith; high = omega arith };
    }

-- a rank against one taken later
rank-more : (low : Bool) (n a i : ℕ) → i < 8 → Late n (suc i) → n < 16 * a + cond low i (15 - i) → (n / 16 < a) ⊎ ((n / 16 ≡ a) × (low ≡ false))
rank-more true n a i h l k = inl (omega (arith, l.low, l.high))
rank-more false n a i h l k = let b : n / 16 ≤ a = omega arith in elim (eq-or-lt_of_le b) [ inl e ↦ inr (e, refl) | inr e ↦ inl e ]

rank_less : (low : Bool) (n a i : ℕ) → i < 8 → Late n (suc i) → 16 * a + cond low i (15 - i) ≤ n → (a < n / 16) ⊎ ((a ≡ n / 16) × (low ≡ true))
rank_less true n a i h l k = let b : a ≤ n / 16 = omega arith in elim (eq-or-lt_of_le b) [ inl e ↦ inr (e, refl) | inr e ↦ inl e ]
rank_less false n a i h l k = inl (omega (arith, l.low, l.high))

-- ---- one coordinate more

-- one coordinate changed
abbrev pub changed : ℤ → List ℤ → ℕ → List ℤ
changed m rs n = set rs n (across m (get_or rs n (pos 0)))

-- rs is xs rounded, from place i on; changing the place that the highest rank names makes the other parity
pub record Highest (H : ℕ) (odd : Bool) (xs rs : List ℤ) (top i : ℕ) : Type 0 where
  pub late : Late top i
  pub taken : top ≡ rank_of (get_or rs (place_of top - i) (pos 0)) (place_of top)
  pub rounding : Rounding (2 * H) odd xs rs (changed (pos (2 * H)) rs (place_of top - i)) (top / 16)

abbrev pub Begun : ℕ → Bool → List ℤ → List ℤ → ℕ → ℕ → Type 0
Begun H odd [] rs top i = (rs ≡ []) × ((odd ≡ false) × (top ≡ 0))
Begun H odd (x ∷ xs) rs top i = Highest H odd (x ∷ xs) rs top i

pub record Passed (H : ℕ) (xs rs : List ℤ) (sum : ℤ) (top i : ℕ) : Type 0 where
  pub odd : Bool
  pub parity : Parity (2 * H) odd sum
  pub begun : Begun H odd xs rs top i

module _ (H : ℕ) (x : ℤ) (i : ℕ) (h : 0 < H) (k : i < 8) where
  abbrev c : ℤ
  c = cent H x

  abbrev n : ℕ
  n = rank_of c i

  at : Ranked n (nat_abs c) i
  at = ranked (lt_z c (pos 0)) (nat_abs c) i k

  t : Turned H x
  t = turned H x h

  here : (odd : Bool) (xs rs : List ℤ) → Rounding (2 * H) odd xs (c ∷ rs) (across (pos (2 * H)) c ∷ rs) (nat_abs c) → Highest H odd xs (c ∷ rs) n i
  here odd xs rs r =
      let none : 0 ≡ place_of n - i = omega (arith, at.place) in
      record {
        late = at.late;
        taken = λ j. rank_of (get_or (c ∷ rs) (none j) (pos 0)) (sym at.place j);
        rounding = subst (λ (m : ℕ). Rounding (2 * H) odd xs (c ∷ rs) (changed (pos (2 * H)) (c ∷ rs) (place_of n - i)) m) (sym at.size)
            (subst (λ (j : ℕ). Rounding (2 * H) odd xs (c ∷ rs) (changed (pos (2 * H)) (c ∷ rs) j) (nat_abs c)) none r);
      }

  more : (p : Bool) (y : ℤ) (ys rs : List ℤ) (top : ℕ) → Highest H p (y ∷ ys) rs top (suc i)
      → Highest H (rest t.odd p) (x ∷ y ∷ ys) (c ∷ rs) (cond (ltb top n) n top) i
  more p y ys rs top r = go (ltb top n) refl
    where
      d : ℤ
      d = across (pos (2 * H)) c

      cs : List ℤ
      cs = changed (pos (2 * H)) rs (place_of top - suc i)

      go : (s : Bool) → ltb top n ≡ s → Highest H (rest t.odd p) (x ∷ y ∷ ys) (c ∷ rs) (cond s n top) i
      go true e = here (rest t.odd p) (x ∷ y ∷ ys) rs
          (round-here H x d (lt_z c (pos 0)) t h refl refl p y ys rs cs (top / 16) r.rounding
          (rank-more (lt_z c (pos 0)) top (nat_abs c) i k r.late (ltb-true top n e)))
      go false e =
          let one : suc (place_of top - suc i) ≡ place_of top - i = omega (arith, place-late top (suc i) r.late) in
          record {
            late = record { low = omega (arith, r.late.low); high = omega (arith, r.late.high) };
            taken = r.taken ∙ ap (λ (j : ℕ). rank_of (get_or (c ∷ rs) j (pos 0)) (place_of top)) one;
            rounding = subst (λ (j : ℕ). Rounding (2 * H) (rest t.odd p) (x ∷ y ∷ ys) (c ∷ rs) (changed (pos (2 * H)) (c ∷ rs) j) (top / 16)) one
                (round-later H x d (lt_z c (pos 0)) t h refl refl p y ys rs cs (top / 16) r.rounding
                (rank_less (lt_z c (pos 0)) top (nat_abs c) i k r.late (ltb-false top n e)));
          }

  -- a coordinate of any size comes before none
  n_pos : 0 < n
  n_pos = go c (lt_z c (pos 0)) refl
    where
      go : (z : ℤ) (low : Bool) → lt_z z (pos 0) ≡ low → 0 < 16 * nat_abs z + cond low i (15 - i)
      go z false e = omega arith
      go (pos a) true e = absurd (omega (arith, ltb-true a 0 e))
      go (negsuc a) true e = omega arith

  begun : (p : Bool) (xs rs : List ℤ) (top : ℕ) → Begun H p xs rs top (suc i) → Begun H (rest t.odd p) (x ∷ xs) (c ∷ rs) (cond (ltb top n) n top) i
  begun p [] rs top b =
      let q : Bool = rest t.odd p in
      let d : ℤ = across (pos (2 * H)) c in
      let e : t.odd ≡ q = sym (rest-false t.odd) ∙ ap (rest t.odd) (sym b.1.0) in
      subst (λ l. Highest H q (x ∷ []) (c ∷ l) (cond (ltb top n) n top) i) (sym b.0)
      (subst (λ (m : ℕ). Highest H q (x ∷ []) (c ∷ []) (cond (ltb m n) n m) i) (sym b.1.1)
      (subst (λ s. Highest H q (x ∷ []) (c ∷ []) (cond s n 0) i) (sym (lt-ltb 0 n n_pos))
      (here q (x ∷ []) []
      (subst (λ s. Rounding (2 * H) s (x ∷ []) (c ∷ []) (d ∷ []) (nat_abs c)) e (round-one H x d (lt_z c (pos 0)) t h refl refl)))))
    where
      rest-false : (q : Bool) → rest q false ≡ q
      rest-false false = refl
      rest-false true = refl
  begun p (y ∷ ys) rs top b = more p y ys rs top b

  passed-more : (xs rs : List ℤ) (sum : ℤ) (top : ℕ) → Passed H xs rs sum top (suc i) → Passed H (x ∷ xs) (c ∷ rs) (sum +ℤ (x -ℤ c)) (cond (ltb top n) n top) i
  passed-more xs rs sum top p = record {
    odd = rest t.odd p.odd;
    parity = parity-more (2 * H) t.odd p.odd sum (x -ℤ c) p.parity t.parity;
    begun = begun p.odd xs rs top p.begun;
  }

-- every coordinate from place i on
pub passed : (H : ℕ) (xs : List ℤ) (i : ℕ) → 0 < H → i + length xs ≤ 8 → Passed H xs (rounded H xs) (off H xs) (highest (rounded H xs) i) i
passed H [] i h l = record { odd = false; parity = parity-none (2 * H); begun = (refl, (refl, refl)) }
passed H (x ∷ xs) i h l = passed-more H x i h (omega arith) xs (rounded H xs) (off H xs) (highest (rounded H xs) (suc i)) (passed H xs (suc i) h (omega arith))

-- ---- all coordinates

set_same : (rs : List ℤ) (j : ℕ) → set rs j (get_or rs j (pos 0)) ≡ rs
set_same [] zero = refl
set_same [] (suc j) = refl
set_same (r ∷ rs) zero = refl
set_same (r ∷ rs) (suc j) = ap (λ l. r ∷ l) (set_same rs j)

pub across-none : (c : ℤ) → across (pos 0) c ≡ c
across-none c = go (lt_z c (pos 0))
  where
    go : (t : Bool) → cond t (c +ℤ pos 0) (c -ℤ pos 0) ≡ c
    go true = eq! (` c ⊕ # 0) (` c) (omega arith)
    go false = eq! (` c ⊖ # 0) (` c) (omega arith)

-- the best block, and its energy over that of the rounded one
pub record Mended (H : ℕ) (xs rs : List ℤ) (sum : ℤ) (top : ℕ) : Type 0 where
  pub odd : Bool
  pub left : mod_z sum (2 * (2 * H)) ≡ bit odd * (2 * H)
  pub taken : top ≡ rank_of (get_or rs (place_of top - 0) (pos 0)) (place_of top)
  pub is : changed (pos (bit odd * (2 * H))) rs (place_of top - 0) ≡ best (2 * H) false xs
  pub cost : energy (best (2 * H) false xs) + bit odd * (2 * (2 * H * (top / 16))) ≡ energy rs + bit odd * (2 * H * (2 * H))

pub mended : (H : ℕ) (xs rs : List ℤ) (sum : ℤ) (top : ℕ) → 0 < H → 0 < length xs → Passed H xs rs sum top 0 → Mended H xs rs sum top
mended H [] rs sum top h l p = absurd (omega arith)
mended H (x ∷ xs) rs sum top h l p = go p.odd p.parity p.begun
  where
    go : (q : Bool) → Parity (2 * H) q sum → Highest H q (x ∷ xs) rs top 0 → Mended H (x ∷ xs) rs sum top
    go false a b = record {
      odd = false;
      left = parity-rest (2 * H) false sum (omega arith) a;
      taken = b.taken;
      is = ap (λ (n : ℕ). changed (pos n) rs (place_of top - 0)) {x = 0 * (2 * H)} {y = 0} (omega arith)
          ∙ ap (set rs (place_of top - 0)) (across-none (get_or rs (place_of top - 0) (pos 0))) ∙ set_same rs (place_of top - 0) ∙ sym b.rounding.near;
      cost = omega (arith, ap energy b.rounding.near);
    }
    go true a b = record {
      odd = true;
      left = parity-rest (2 * H) true sum (omega arith) a;
      taken = b.taken;
      is = ap (λ (n : ℕ). changed (pos n) rs (place_of top - 0)) {x = 1 * (2 * H)} {y = 2 * H} (omega arith) ∙ sym b.rounding.far;
      cost = omega (arith, ap energy b.rounding.far, b.rounding.cost);
    }

-- ---- the better of the two parts

-- their first coordinates differ
firsts-differ : (H : ℕ) (x : List ℤ) → 0 < H → 0 < length x
    → get_or (best (2 * H) false x) 0 (pos 0) ≡ get_or (best (2 * H) false (lowered (pos H) x)) 0 (pos 0) → ⊥
firsts-differ H [] h l e = absurd (omega arith)
firsts-differ H (x ∷ xs) h l e =
    let p = best-head (2 * H) false x xs (omega arith) in
    let q = best-head (2 * H) false (x -ℤ pos H) (lowered (pos H) xs) (omega arith) in
    parts-differ H x p.0 q.0 h (sym p.1 ∙ e ∙ q.1)

-- so the energies and the first coordinates tell which is the least block
abbrev pub by_whole : ℕ → List ℤ → List ℤ
by_whole H x = best (2 * H) false x

abbrev pub by_halves : ℕ → List ℤ → List ℤ
by_halves H x = best (2 * H) false (lowered (pos H) x)

pub least-is : (H : ℕ) (x : List ℤ) (e f : ℕ) → 0 < H → 0 < length x → e ≡ energy (by_whole H x) → f ≡ energy (by_halves H x)
    → cond (whole_first (pos e) (get_or (by_whole H x) 0 (pos 0)) (pos f) (get_or (by_halves H x) 0 (pos 0))) (by_whole H x) (by_halves H x) ≡ least_block H x
unfolding least_block
least-is H x e f h l he hf =
    let a : List ℤ = by_whole H x in
    let b : List ℤ = by_halves H x in
    let c : ℤ = get_or a 0 (pos 0) in
    let d : ℤ = get_or b 0 (pos 0) in
    let ea : a ≡ c ∷ drop 1 a = drop-cons a 0 (pos 0) (omega (arith, best-length (2 * H) false x)) in
    let eb : b ≡ d ∷ drop 1 b = drop-cons b 0 (pos 0) (omega (arith, best-length (2 * H) false (lowered (pos H) x), lowered-length (pos H) x)) in
    ap₂ (cond (whole_first (pos e) c (pos f) d)) ea eb
    ∙ sym (better-heads c d (drop 1 a) (drop 1 b) e f (firsts-differ H x h l) (he ∙ ap energy ea) (hf ∙ ap energy eb))
    ∙ ap₂ better (sym ea) (sym eb)
