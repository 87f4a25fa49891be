-- The half part from the rounded whole part, and the better of the two candidates.
--
-- c = cent H x is x rounded modulo M = 2·H, from −H to H − 1. The half part of the class is x − H less multiples of M, and x − H rounded is c moved by H
-- across 0: d = c − H where c is not negative, d = c + H where it is. So a block need be rounded only once:
--   sizes     |c| + |d| = H
--   ranks     rank c + rank d = 16·H + 15, so that the highest rank of the half part is the lowest of the whole part turned round
--   energies  Σ d² = Σ c² − M·Σ|c| + M·4·H for eight coordinates
-- To change a coordinate c by M across 0, where the sum is odd, adds M·(M − 2·|c|) to the energy; |c| is the rank divided by 16.
-- Both energies are then that of the rounded block and a multiple of M, and the code compares the two multiples, with Σ|c| added to each:
--   whole part  Σ|c| and, where its sum is odd, 2·(H − highest rank / 16)
--   half part   4·H and, where its sum is odd, 2·(lowest rank / 16)
use mathlib.Core.Path.{◌≡◌, refl, sym, ◌∙◌, ap, ap₂, subst}
use mathlib.Core.Logic.{inl, inr}
use mathlib.Core.Bool.{Bool, true, false, true≢false, cond}
use mathlib.Core.List.{List, [], ◌∷◌}
use Prim.Native.Nat.{ℕ, zero, suc, ◌+◌, ◌*◌, ◌-◌, ◌/◌, ◌<◌, ◌≤◌}
use native.Mathlib.Nat.{eq-or-lt_of_le, mul-le-mul_left, mul-lt-mul_of_pos_left}
use native.Mathlib.Omega.{arith}
use borrow.Author.Tests.{eqb-true, eqb-false, eq-eqb, ne_eqb, le-ltb, lt-ltb, le-leb, lt-leb, ltb-true, ltb-false, leb-true, leb-false}
use lib.Dec.{eqb, leb, ltb}
use lib.ListN.{length, get_or}
use lib.IntN.{ℤ, pos, negsuc, ◌+ℤ◌, ◌-ℤ◌, ◌*ℤ◌, nat_abs}
use lib.Signed.{lt_z}
use Rattle.integers.specs.Integer.{mod_z}
use Rattle.integers.proofs.Zed.{`◌, #◌, ◌⊕◌, ◌⊖◌, ◌⊗◌, eq!, eq?}
use Rattle.e8.specs.Energy.{energy}
use Rattle.e8.specs.Lattice.{bit}
use Rattle.e8.specs.Least.{cent, best, lowered, least_block}
use Rattle.e8.proofs.Cent.{Range, cent-range, cent-is, turns}
use Rattle.e8.proofs.Best.{All}
use Rattle.e8.proofs.Rounding.{cent-only, cost-one}
use Rattle.e8.proofs.Rows.{lowered-length}
use Rattle.mending.proofs.Mending.{place_of, ranked, changed, across-none, Passed, passed, Mended, mended, least-is}
use Rattle.mending.specs.Rounded.{across, whole_first, rank_of, rounded, off, floors, sizes, highest, lowest, member_of, members}

-- ---- one coordinate

pub half-cent : (H : ℕ) (x : ℤ) → 0 < H → cent H (x -ℤ pos H) ≡ across (pos H) (cent H x)
half-cent H x h = go (cent H x) (lt_z (cent H x) (pos 0)) refl (cent-range H x h) (cent-is H x h)
  where
    go : (c : ℤ) (t : Bool) → lt_z c (pos 0) ≡ t → Range H c → c ≡ x -ℤ pos H *ℤ (pos 2 *ℤ turns H x)
        → cent H (x -ℤ pos H) ≡ cond t (c +ℤ pos H) (c -ℤ pos H)
    go (pos a) true l r e = absurd (omega (arith, ltb-true a 0 l))
    go (pos a) false l r e =
        let d = eq? (` (pos a -ℤ pos H)) (# a ⊖ # H) refl in
        cent-only H (x -ℤ pos H) (turns H x) (pos a -ℤ pos H) (record { low = omega (arith, d); high = omega (arith, d, r.high) })
        (eq! (` x ⊖ # H) (# a ⊖ # H ⊕ # H ⊗ (# 2 ⊗ ` (turns H x))) (omega (arith, eq? (# a) (` x ⊖ # H ⊗ (# 2 ⊗ ` (turns H x))) e)))
    go (negsuc a) true l r e =
        let d = eq? (` (negsuc a +ℤ pos H)) (` (negsuc a) ⊕ # H) refl in
        cent-only H (x -ℤ pos H) (turns H x -ℤ pos 1) (negsuc a +ℤ pos H) (record { low = omega (arith, d, r.low); high = omega (arith, d) })
        (eq! (` x ⊖ # H) (` (negsuc a) ⊕ # H ⊕ # H ⊗ (# 2 ⊗ (` (turns H x) ⊖ # 1)))
        (omega (arith, eq? (` (negsuc a)) (` x ⊖ # H ⊗ (# 2 ⊗ ` (turns H x))) e)))
    go (negsuc a) false l r e = absurd (true≢false l)

-- what comes off it is a multiple of M
half-off : (H : ℕ) (x : ℤ) → x -ℤ pos H -ℤ cent H (x -ℤ pos H) ≡ x -ℤ pos (mod_z x (2 * H))
unfolding cent
half-off H x =
    let p : x -ℤ pos H +ℤ pos H ≡ x = eq! (` x ⊖ # H ⊕ # H) (` x) (omega arith) in
    ap (λ (z : ℤ). x -ℤ pos H -ℤ (pos (mod_z z (2 * H)) -ℤ pos H)) p
    ∙ eq! (` x ⊖ # H ⊖ (# (mod_z x (2 * H)) ⊖ # H)) (` x ⊖ # (mod_z x (2 * H))) (omega arith)

-- sizes and ranks make up H, and 16·H + 15
pub record Half (H : ℕ) (c d : ℤ) : Type 0 where
  pub size : nat_abs c + nat_abs d ≡ H
  pub rank : (i : ℕ) → i < 8 → rank_of c i + rank_of d i ≡ 16 * H + 15

pub half : (H : ℕ) (c : ℤ) → Range H c → Half H c (across (pos H) c)
half H c r = go c (lt_z c (pos 0)) refl r
  where
    go : (c : ℤ) (t : Bool) → lt_z c (pos 0) ≡ t → Range H c → Half H c (cond t (c +ℤ pos H) (c -ℤ pos H))
    go (pos a) true l r = absurd (omega (arith, ltb-true a 0 l))
    go (pos a) false l r =
        let e : pos a -ℤ pos H ≡ negsuc (H - suc a) = eq! (# a ⊖ # H) (` (negsuc (H - suc a))) (omega (arith, r.high)) in
        subst (Half H (pos a)) (sym e) (record {
          size = omega (arith, r.high);
          rank = λ i k. ap (λ t. 16 * a + cond t i (15 - i) + (16 * suc (H - suc a) + i)) l ∙ omega (arith, r.high);
        })
    go (negsuc a) true l r =
        let e : negsuc a +ℤ pos H ≡ pos (H - suc a) = eq! (` (negsuc a) ⊕ # H) (# (H - suc a)) (omega (arith, r.low)) in
        subst (Half H (negsuc a)) (sym e) (record {
          size = omega (arith, r.low);
          rank = λ i k. ap (λ t. 16 * suc a + i + (16 * (H - suc a) + cond t i (15 - i))) (le-ltb (H - suc a) 0 (omega arith)) ∙ omega (arith, r.low);
        })
    go (negsuc a) false l r = absurd (true≢false l)

-- ---- all coordinates

abbrev pub acrossed : ℤ → List ℤ → List ℤ
acrossed m [] = []
acrossed m (c ∷ cs) = across m c ∷ acrossed m cs

pub rounded-length : (H : ℕ) (xs : List ℤ) → length (rounded H xs) ≡ length xs
rounded-length H [] = refl
rounded-length H (x ∷ xs) = ap suc (rounded-length H xs)

pub ranged : (H : ℕ) (xs : List ℤ) → 0 < H → All (Range H) (rounded H xs)
ranged H [] h = tt
ranged H (x ∷ xs) h = (cent-range H x h, ranged H xs h)

rounded-half : (H : ℕ) (xs : List ℤ) → 0 < H → rounded H (lowered (pos H) xs) ≡ acrossed (pos H) (rounded H xs)
rounded-half H [] h = refl
rounded-half H (x ∷ xs) h = ap₂ ◌∷◌ (half-cent H x h) (rounded-half H xs h)

off-half : (H : ℕ) (xs : List ℤ) → off H (lowered (pos H) xs) ≡ floors H xs
off-half H [] = refl
off-half H (x ∷ xs) = ap₂ ◌+ℤ◌ (off-half H xs) (half-off H x)

-- the lowest rank is the highest turned round
turn : (l t n m K : ℕ) → l + t ≡ K → n + m ≡ K → cond (ltb l n) l n + cond (ltb t m) m t ≡ K
turn l t n m K a b = go (ltb l n) refl (ltb t m) refl
  where
    go : (p : Bool) → ltb l n ≡ p → (q : Bool) → ltb t m ≡ q → cond p l n + cond q m t ≡ K
    go true e true f = absurd (omega (arith, ltb-true l n e, ltb-true t m f))
    go true e false f = a
    go false e true f = b
    go false e false f = omega (arith, ltb-false l n e, ltb-false t m f)

turn_one : (n m K : ℕ) → n + m ≡ K → n + cond (ltb 0 m) m 0 ≡ K
turn_one n m K b = go (ltb 0 m) refl
  where
    go : (q : Bool) → ltb 0 m ≡ q → n + cond q m 0 ≡ K
    go true f = b
    go false f = omega (arith, ltb-false 0 m f)

ranks-half : (H : ℕ) (cs : List ℤ) (i : ℕ) → All (Range H) cs → 0 < length cs → i + length cs ≤ 8
    → lowest cs i + highest (acrossed (pos H) cs) i ≡ 16 * H + 15
ranks-half H [] i r l k = absurd (omega arith)
ranks-half H (c ∷ []) i r l k = turn_one (rank_of c i) (rank_of (across (pos H) c) i) (16 * H + 15) ((half H c r.0).rank i (omega arith))
ranks-half H (c ∷ d ∷ cs) i r l k =
    turn (lowest (d ∷ cs) (suc i)) (highest (acrossed (pos H) (d ∷ cs)) (suc i)) (rank_of c i) (rank_of (across (pos H) c) i) (16 * H + 15)
    (ranks-half H (d ∷ cs) (suc i) r.1 (omega arith) (omega arith)) ((half H c r.0).rank i (omega arith))

-- the highest rank passes 16·H + 15 no more than the others do
pub highest-low : (H : ℕ) (cs : List ℤ) (i : ℕ) → All (Range H) cs → i + length cs ≤ 8 → highest cs i ≤ 16 * H + 15
highest-low H [] i r k = omega arith
highest-low H (c ∷ cs) i r k = go (ltb (highest cs (suc i)) (rank_of c i)) (highest-low H cs (suc i) r.1 (omega arith))
  where
    go : (t : Bool) → highest cs (suc i) ≤ 16 * H + 15 → cond t (rank_of c i) (highest cs (suc i)) ≤ 16 * H + 15
    go true b = omega (arith, (half H c r.0).rank i (omega arith))
    go false b = b

energy-half : (H : ℕ) (cs : List ℤ) → All (Range H) cs → energy (acrossed (pos H) cs) + 2 * (H * sizes cs) ≡ energy cs + length cs * (H * H)
unfolding energy
energy-half H [] r = omega arith
energy-half H (c ∷ cs) r = omega (arith, cost-one H c (across (pos H) c) (half H c r.0).size, energy-half H cs r.1)

-- ---- the candidates, coordinate by coordinate

none_left : (by : ℤ) (top i : ℕ) (cs : List ℤ) → i + length cs ≤ 8 → place_of top < i → members by (pos 0) top i cs ≡ cs
none_left by top i [] l p = refl
none_left by top i (c ∷ cs) l p = ap₂ ◌∷◌ (go (eqb (rank_of c i) top) refl) (none_left by top (suc i) cs (omega arith) (omega arith))
  where
    go : (t : Bool) → eqb (rank_of c i) top ≡ t → across (cond t by (pos 0)) c ≡ c
    go true e = absurd (omega (arith, (ranked (lt_z c (pos 0)) (nat_abs c) i (omega arith)).place, ap place_of (eqb-true (rank_of c i) top e)))
    go false e = across-none c

-- one coordinate is changed: the one that has the rank
members-changed : (by : ℤ) (top i : ℕ) (cs : List ℤ) → i + length cs ≤ 8 → i ≤ place_of top → top ≡ rank_of (get_or cs (place_of top - i) (pos 0)) (place_of top)
    → members by (pos 0) top i cs ≡ changed by cs (place_of top - i)
members-changed by top i [] l p t = go (place_of top - i)
  where
    go : (j : ℕ) → [] ≡ changed by [] j
    go zero = refl
    go (suc j) = refl
members-changed by top i (c ∷ cs) l p t = go (eqb (rank_of c i) top) refl (members-changed by top (suc i) cs (omega arith))
  where
    go : (s : Bool) → eqb (rank_of c i) top ≡ s
        → (suc i ≤ place_of top → top ≡ rank_of (get_or cs (place_of top - suc i) (pos 0)) (place_of top)
        → members by (pos 0) top (suc i) cs ≡ changed by cs (place_of top - suc i))
        → across (cond s by (pos 0)) c ∷ members by (pos 0) top (suc i) cs ≡ changed by (c ∷ cs) (place_of top - i)
    go true e w =
        let here : place_of top ≡ i = sym (ap place_of (eqb-true (rank_of c i) top e)) ∙ (ranked (lt_z c (pos 0)) (nat_abs c) i (omega arith)).place in
        ap (λ l. across by c ∷ l) (none_left by top (suc i) cs (omega arith) (omega (arith, here)))
        ∙ ap (changed by (c ∷ cs)) {x = 0} {y = place_of top - i} (omega (arith, here))
    go false e w = elim (eq-or-lt_of_le p) [ inl q ↦ absurd (eqb-false (rank_of c i) top e (sym (t ∙ at q))) | inr q ↦ later q ]
      where
        at : i ≡ place_of top → rank_of (get_or (c ∷ cs) (place_of top - i) (pos 0)) (place_of top) ≡ rank_of c i
        at q = let z : place_of top - i ≡ 0 = omega arith in λ j. rank_of (get_or (c ∷ cs) (z j) (pos 0)) (sym q j)

        later : i < place_of top → across (pos 0) c ∷ members by (pos 0) top (suc i) cs ≡ changed by (c ∷ cs) (place_of top - i)
        later q =
            let z : place_of top - i ≡ suc (place_of top - suc i) = omega arith in
            ap₂ ◌∷◌ (across-none c) (w q (t ∙ ap (λ (j : ℕ). rank_of (get_or (c ∷ cs) j (pos 0)) (place_of top)) z))
            ∙ ap (changed by (c ∷ cs)) (sym z)

-- H across 0 and back by some of it
across-back : (H : ℕ) (by c : ℤ) → Range H c → across (pos H -ℤ by) c ≡ across by (across (pos H) c)
across-back H by c r = go c (lt_z c (pos 0)) refl r
  where
    go : (c : ℤ) (t : Bool) → lt_z c (pos 0) ≡ t → Range H c
        → cond t (c +ℤ (pos H -ℤ by)) (c -ℤ (pos H -ℤ by)) ≡ across by (cond t (c +ℤ pos H) (c -ℤ pos H))
    go (pos a) true l r = absurd (omega (arith, ltb-true a 0 l))
    go (pos a) false l r =
        let e : pos a -ℤ pos H ≡ negsuc (H - suc a) = eq! (# a ⊖ # H) (` (negsuc (H - suc a))) (omega (arith, r.high)) in
        eq! (# a ⊖ (# H ⊖ ` by)) (` (negsuc (H - suc a)) ⊕ ` by) (omega (arith, r.high)) ∙ sym (ap (across by) e)
    go (negsuc a) true l r =
        let n : ℕ = H - suc a in
        let e : negsuc a +ℤ pos H ≡ pos n = eq! (` (negsuc a) ⊕ # H) (# n) (omega (arith, r.low)) in
        eq! (` (negsuc a) ⊕ (# H ⊖ ` by)) (# n ⊖ ` by) (omega (arith, r.low))
        ∙ sym (ap (across by) e ∙ ap (λ t. cond t (pos n +ℤ by) (pos n -ℤ by)) (le-ltb n 0 (omega arith)))
    go (negsuc a) false l r = absurd (true≢false l)

eqb-turn : (n m t u K : ℕ) → n + m ≡ K → t + u ≡ K → eqb n t ≡ eqb m u
eqb-turn n m t u K a b = go (eqb n t) refl
  where
    go : (p : Bool) → eqb n t ≡ p → p ≡ eqb m u
    go true e = sym (eq-eqb m u (omega (arith, eqb-true n t e)))
    go false e = sym (ne_eqb m u (λ q. eqb-false n t e (omega (arith, q))))

-- the candidate of the half part: H across 0, and back at the coordinate to change
members-half : (H : ℕ) (by : ℤ) (t u i : ℕ) (cs : List ℤ) → All (Range H) cs → t + u ≡ 16 * H + 15 → i + length cs ≤ 8
    → members (pos H -ℤ by) (pos H) t i cs ≡ members by (pos 0) u i (acrossed (pos H) cs)
members-half H by t u i [] r e l = refl
members-half H by t u i (c ∷ cs) r e l =
    let n : ℕ = rank_of c i in
    let m : ℕ = rank_of (across (pos H) c) i in
    ap₂ ◌∷◌ (go (eqb n t) (eqb m u) (eqb-turn n m t u (16 * H + 15) ((half H c r.0).rank i (omega arith)) e))
    (members-half H by t u (suc i) cs r.1 e (omega arith))
  where
    one : (p : Bool) → across (cond p (pos H -ℤ by) (pos H)) c ≡ across (cond p by (pos 0)) (across (pos H) c)
    one true = across-back H by c r.0
    one false = sym (across-none (across (pos H) c))

    go : (p q : Bool) → p ≡ q → across (cond p (pos H -ℤ by) (pos H)) c ≡ across (cond q by (pos 0)) (across (pos H) c)
    go p q h = one p ∙ ap (λ b. across (cond b by (pos 0)) (across (pos H) c)) h

pub members-length : (at elsewhere : ℤ) (t i : ℕ) (cs : List ℤ) → length (members at elsewhere t i cs) ≡ length cs
members-length at elsewhere t i [] = refl
members-length at elsewhere t i (c ∷ cs) = ap suc (members-length at elsewhere t (suc i) cs)

pub members-at : (at elsewhere : ℤ) (t i : ℕ) (cs : List ℤ) (j : ℕ) → j < length cs
    → get_or (members at elsewhere t i cs) j (pos 0) ≡ member_of at elsewhere t (get_or cs j (pos 0)) (j + i)
members-at at elsewhere t i [] j l = absurd (omega arith)
members-at at elsewhere t i (c ∷ cs) zero l = ap (member_of at elsewhere t c) {x = i} {y = 0 + i} (omega arith)
members-at at elsewhere t i (c ∷ cs) (suc j) l =
    members-at at elsewhere t (suc i) cs j (omega arith) ∙ ap (member_of at elsewhere t (get_or cs j (pos 0))) {x = j + suc i} {y = suc j + i} (omega arith)

-- ---- the two candidates

-- M where a sum is an odd multiple of it, and 0 where it is an even one
abbrev pub left : ℕ → Bool → ℤ
left H odd = pos (bit odd * (2 * H))

-- what the code compares: a candidate's energy over that of the rounded block rs, divided by M, and the sizes
abbrev pub whole_cost : ℕ → Bool → List ℤ → ℕ
whole_cost H odd rs = sizes rs + bit odd * (2 * H - 2 * (highest rs 0 / 16))

abbrev pub half_cost : ℕ → Bool → List ℤ → ℕ
half_cost H odd rs = 4 * H + bit odd * (2 * (lowest rs 0 / 16))

-- the candidates
abbrev pub whole_part : ℕ → Bool → List ℤ → List ℤ
whole_part H odd rs = members (left H odd) (pos 0) (highest rs 0) 0 rs

abbrev pub half_part : ℕ → Bool → List ℤ → List ℤ
half_part H odd rs = members (pos H -ℤ left H odd) (pos H) (lowest rs 0) 0 rs

-- what is known of the two candidates of a block xs that is rounded to rs: the sums of what came off, the ranks, and which of the two is the least block
pub record Two (H : ℕ) (xs rs : List ℤ) : Type 0 where
  pub odd : Bool
  pub half-odd : Bool
  pub odd-left : pos (mod_z (off H xs) (2 * (2 * H))) ≡ left H odd
  pub half-left : pos (mod_z (floors H xs) (2 * (2 * H))) ≡ left H half-odd
  pub top-low : highest rs 0 ≤ 16 * H + 15
  pub low-low : lowest rs 0 ≤ 16 * H + 15
  pub least : (t : Bool)
      → t ≡ whole_first (pos (whole_cost H odd rs)) (get_or (whole_part H odd rs) 0 (pos 0)) (pos (half_cost H half-odd rs)) (get_or (half_part H half-odd rs) 0 (pos 0))
      → cond t (whole_part H odd rs) (half_part H half-odd rs) ≡ least_block H xs

-- more and less by M times as much
compare : (M e f a b c d : ℕ) → 0 < M → a + c ≡ d + M * e → b + c ≡ d + M * f → (leb a b ≡ leb e f) × (ltb a b ≡ ltb e f)
compare M e f a b c d m p q = (first (leb e f) refl, second (ltb e f) refl)
  where
    first : (t : Bool) → leb e f ≡ t → leb a b ≡ t
    first true g = le-leb a b (omega (arith, p, q, mul-le-mul_left M (leb-true e f g)))
    first false g = lt-leb a b (omega (arith, p, q, mul-lt-mul_of_pos_left (leb-false e f g) m))

    second : (t : Bool) → ltb e f ≡ t → ltb a b ≡ t
    second true g = lt-ltb a b (omega (arith, p, q, mul-lt-mul_of_pos_left (ltb-true e f g) m))
    second false g = le-ltb a b (omega (arith, p, q, mul-le-mul_left M (ltb-false e f g)))

module _ (H : ℕ) (xs : List ℤ) (h : 0 < H) (l : length xs ≡ 8) where
  abbrev M : ℕ
  M = 2 * H

  -- the block rounded, and the same for the half part; the highest ranks of both
  abbrev rs : List ℤ
  rs = rounded H xs

  abbrev ds : List ℤ
  ds = acrossed (pos H) rs

  abbrev top : ℕ
  top = highest rs 0

  abbrev half-top : ℕ
  half-top = highest ds 0

  -- the best by whole vectors, and by halves of odd numbers
  abbrev a : List ℤ
  a = best M false xs

  abbrev b : List ℤ
  b = best M false (lowered (pos H) xs)

  eight : length rs ≡ 8
  eight = rounded-length H xs ∙ l

  half-eight : length ds ≡ 8
  half-eight = sym (ap length (rounded-half H xs h)) ∙ rounded-length H (lowered (pos H) xs) ∙ lowered-length (pos H) xs ∙ l

  r : All (Range H) rs
  r = ranged H xs h

  ranks : lowest rs 0 + half-top ≡ 16 * H + 15
  ranks = ranks-half H rs 0 r (omega (arith, eight)) (omega (arith, eight))

  whole : Mended H xs rs (off H xs) top
  whole = mended H xs rs (off H xs) top h (omega arith) (passed H xs 0 h (omega arith))

  halved : Mended H (lowered (pos H) xs) ds (floors H xs) half-top
  halved =
      let ys : List ℤ = lowered (pos H) xs in
      let n : length ys ≡ 8 = lowered-length (pos H) xs ∙ l in
      mended H ys ds (floors H xs) half-top h (omega (arith, n))
      (subst (λ (t : ℤ). Passed H ys ds t half-top 0) (off-half H xs)
      (subst (λ (cs : List ℤ). Passed H ys cs (off H ys) (highest cs 0) 0) (rounded-half H xs h) (passed H ys 0 h (omega (arith, n)))))

  -- the energies, by the costs
  whole-energy : energy a + M * sizes rs ≡ energy rs + M * whole_cost H whole.odd rs
  whole-energy = go whole.odd whole.cost
    where
      go : (q : Bool) → energy a + bit q * (2 * (M * (top / 16))) ≡ energy rs + bit q * (M * M)
          → energy a + M * sizes rs ≡ energy rs + M * whole_cost H q rs
      go false e = omega (arith, e)
      go true e =
          let g : M - 2 * (top / 16) + 2 * (top / 16) ≡ M = omega (arith, highest-low H rs 0 r (omega (arith, eight))) in
          omega (arith, e, ap (λ (n : ℕ). M * n) g)

  half-energy : energy b + M * sizes rs ≡ energy rs + M * half_cost H halved.odd rs
  half-energy = go halved.odd halved.cost
    where
      g : half-top / 16 + lowest rs 0 / 16 ≡ H
      g = omega (arith, ranks)

      go : (q : Bool) → energy b + bit q * (2 * (M * (half-top / 16))) ≡ energy ds + bit q * (M * M)
          → energy b + M * sizes rs ≡ energy rs + M * half_cost H q rs
      go false e = omega (arith, e, energy-half H rs r, ap (λ (n : ℕ). n * (H * H)) eight)
      go true e = omega (arith, e, energy-half H rs r, ap (λ (n : ℕ). n * (H * H)) eight, ap (λ (n : ℕ). M * n) g)

  -- the candidates are the best of their parts
  whole_is : whole_part H whole.odd rs ≡ a
  whole_is = members-changed (left H whole.odd) top 0 rs (omega (arith, eight)) (omega arith) whole.taken ∙ whole.is

  half_is : half_part H halved.odd rs ≡ b
  half_is =
      let by : ℤ = left H halved.odd in
      members-half H by (lowest rs 0) half-top 0 rs r ranks (omega (arith, eight))
      ∙ members-changed by half-top 0 ds (omega (arith, half-eight)) (omega arith) halved.taken ∙ halved.is

  pub two : Two H xs rs
  two = record {
    odd = whole.odd;
    half-odd = halved.odd;
    odd-left = ap pos whole.left;
    half-left = ap pos halved.left;
    top-low = highest-low H rs 0 r (omega (arith, eight));
    low-low = omega (arith, ranks);
    least = λ t e.
        let e₁ : ℕ = whole_cost H whole.odd rs in
        let e₂ : ℕ = half_cost H halved.odd rs in
        let g = compare M e₁ e₂ (energy a) (energy b) (M * sizes rs) (energy rs) (omega arith) whole-energy half-energy in
        let f : whole_first (pos (energy a)) (get_or a 0 (pos 0)) (pos (energy b)) (get_or b 0 (pos 0)) ≡ t =
        (λ j. cond (lt_z (get_or (sym whole_is j) 0 (pos 0)) (get_or (sym half_is j) 0 (pos 0))) (g.0 j) (g.1 j)) ∙ sym e in
        ap₂ (cond t) whole_is half_is ∙ ap (λ u. cond u a b) (sym f) ∙ least-is H xs (energy a) (energy b) h (omega arith) refl refl;
  }
