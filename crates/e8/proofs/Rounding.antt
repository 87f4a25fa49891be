-- The best blocks by rounding, for lists of any length: every coordinate rounded, or all but the one that costs least to change.
-- M = 2·H; a coordinate is rounded to `cent H x`, and changed by M towards the other side of 0
use mathlib.Core.Path.{◌≡◌, refl, sym, ◌∙◌, ap, subst}
use mathlib.Core.Logic.{◌⊎◌, inl, inr}
use mathlib.Core.Bool.{Bool, true, false, not, true≢false, cond, not-not}
use mathlib.Core.List.{List, [], ◌∷◌}
use Prim.Native.Nat.{ℕ, suc, ◌+◌, ◌*◌, ◌-◌, ◌<◌}
use native.Mathlib.Nat.{mul-le-mul_left}
use native.Mathlib.Omega.{arith}
use borrow.Author.Tests.{ltb-true}
use lib.IntN.{ℤ, pos, negsuc, ◌+ℤ◌, ◌-ℤ◌, ◌*ℤ◌, nat_abs}
use lib.Signed.{◌<ℤ◌, shr_z, lt_z}
use Rattle.integers.proofs.Zed.{`◌, #◌, ◌⊕◌, ◌⊖◌, ◌⊗◌, ⊝◌, up, down, eq!, lt!, eq?, ud-le}
use Rattle.integers.proofs.Floor.{mod_z-lt, div-mod, rem_is}
use Rattle.integers.specs.Integer.{mod_z}
use Rattle.e8.specs.Energy.{sq, energy}
use Rattle.e8.specs.Lattice.{bit}
use Rattle.e8.specs.Least.{cent, better, best}
use Rattle.e8.proofs.Order.{◌≼◌, itself, better-first, better-second}
use Rattle.e8.proofs.Points.{rest, carry, bool-of}
use Rattle.e8.proofs.Cent.{cent-is, cent-range, turns, First, first, Range}
use Rattle.e8.proofs.Best.{off, off-is, cons-mono}

-- ---- sums of multiples of M, and whether they are even or odd ones

pub record Parity (M : ℕ) (odd : Bool) (t : ℤ) : Type 0 where
  pub half : ℤ
  pub is : t ≡ pos M *ℤ (pos 2 *ℤ half +ℤ pos (bit odd))

pub parity-none : (M : ℕ) → Parity M false (pos 0)
parity-none M = record { half = pos 0; is = eq! (# 0) (# M ⊗ (# 2 ⊗ # 0 ⊕ # 0)) (omega arith) }

pub parity-more : (M : ℕ) (q p : Bool) (t u : ℤ) → Parity M p t → Parity M q u → Parity M (rest q p) (t +ℤ u)
parity-more M q p t u a b =
    let c = carry q p in
    record {
      half = a.half +ℤ b.half +ℤ pos c.0;
      is = eq! (` t ⊕ ` u) (# M ⊗ (# 2 ⊗ (` a.half ⊕ ` b.half ⊕ # c.0) ⊕ # (bit (rest q p))))
          (omega (
            arith,
            eq? (` t) (# M ⊗ (# 2 ⊗ ` a.half ⊕ # (bit p))) a.is,
            eq? (` u) (# M ⊗ (# 2 ⊗ ` b.half ⊕ # (bit q))) b.is,
            ap (λ (n : ℕ). M * n) c.1,
          ));
    }

-- the remainder modulo 2M is 0 or M
pub parity-rest : (M : ℕ) (p : Bool) (t : ℤ) → 0 < M → Parity M p t → mod_z t (2 * M) ≡ bit p * M
parity-rest M odd t h a = rem_is t (2 * M) a.half (bit odd * M) (low odd)
    (eq! (` t) (# (2 * M) ⊗ ` a.half ⊕ # (bit odd * M)) (omega (arith, eq? (` t) (# M ⊗ (# 2 ⊗ ` a.half ⊕ # (bit odd))) a.is)))
  where
    low : (b : Bool) → bit b * M < 2 * M
    low false = omega arith
    low true = omega arith

-- ---- the two candidates for a coordinate

-- cent M y is the only number in [−M, M) that differs from y by a multiple of 2M
pub cent-only : (M : ℕ) (y s c : ℤ) → Range M c → y ≡ c +ℤ pos M *ℤ (pos 2 *ℤ s) → cent M y ≡ c
unfolding cent
cent-only M y s c r e = go c r e
  where
    at : (c : ℤ) (n : ℕ) → n < 2 * M → pos n -ℤ pos M ≡ c → y ≡ c +ℤ pos M *ℤ (pos 2 *ℤ s) → pos (mod_z (y +ℤ pos M) (2 * M)) -ℤ pos M ≡ c
    at c n l f e = ap (λ (m : ℕ). pos m -ℤ pos M) (rem_is (y +ℤ pos M) (2 * M) s n l
        (eq! (` y ⊕ # M) (# (2 * M) ⊗ ` s ⊕ # n) (omega (arith, eq? (` y) (` c ⊕ # M ⊗ (# 2 ⊗ ` s)) e, eq? (# n ⊖ # M) (` c) f)))) ∙ f

    go : (c : ℤ) → Range M c → y ≡ c +ℤ pos M *ℤ (pos 2 *ℤ s) → pos (mod_z (y +ℤ pos M) (2 * M)) -ℤ pos M ≡ c
    go (pos a) r e = at (pos a) (a + M) (omega (arith, r.high)) (eq! (# (a + M) ⊖ # M) (# a) (omega arith)) e
    go (negsuc a) r e = at (negsuc a) (M - suc a) (omega (arith, r.low)) (eq! (# (M - suc a) ⊖ # M) (` (negsuc a)) (omega (arith, r.low))) e

-- c in [−H, H), and d on the other side of 0: M up from a negative number, and down from any other
record Across (M : ℕ) (c d : ℤ) (low : Bool) : Type 0 where
  range : Range M c
  other : Range M d
  sizes : nat_abs c + nat_abs d ≡ M
  near : First c d
  order : cond low (c <ℤ d) (d <ℤ c)

across : (H : ℕ) (c d : ℤ) (low : Bool) → Range H c → lt_z c (pos 0) ≡ low → d ≡ cond low (c +ℤ pos (2 * H)) (c -ℤ pos (2 * H)) → Across (2 * H) c d low
across H (pos a) d true r l e = absurd (omega (arith, ltb-true a 0 l))
across H (pos a) d false r l e = subst (λ (z : ℤ). Across (2 * H) (pos a) z false) (sym f) (record {
  range = record { low = omega arith; high = omega (arith, r.high) };
  other = record { low = omega (arith, r.high); high = omega (arith, r.high) };
  sizes = omega (arith, r.high);
  near = first H (pos a) (negsuc (2 * H - suc a)) (pos 1) r (eq! (` (negsuc (2 * H - suc a))) (# a ⊖ # H ⊗ (# 2 ⊗ # 1)) (omega (arith, r.high)));
  order = lt! (` (negsuc (2 * H - suc a))) (# a) (omega arith);
})
  where
    f : d ≡ negsuc (2 * H - suc a)
    f = e ∙ eq! (# a ⊖ # (2 * H)) (` (negsuc (2 * H - suc a))) (omega (arith, r.high))
across H (negsuc a) d false r l e = absurd (true≢false l)
across H (negsuc a) d true r l e = subst (λ (z : ℤ). Across (2 * H) (negsuc a) z true) (sym f) (record {
  range = record { low = omega (arith, r.low); high = omega (arith, r.low) };
  other = record { low = omega (arith, r.low); high = omega (arith, r.low) };
  sizes = omega (arith, r.low);
  near = first H (negsuc a) (pos (2 * H - suc a)) (negsuc 0) r (eq! (# (2 * H - suc a)) (` (negsuc a) ⊖ # H ⊗ (# 2 ⊗ ⊝ # 1)) (omega (arith, r.low)));
  order = lt! (` (negsuc a)) (# (2 * H - suc a)) (omega arith);
})
  where
    f : d ≡ pos (2 * H - suc a)
    f = e ∙ eq! (` (negsuc a) ⊕ # (2 * H)) (# (2 * H - suc a)) (omega (arith, r.low))

-- how often M comes off a coordinate that is rounded
pub record Turned (H : ℕ) (x : ℤ) : Type 0 where
  pub odd : Bool
  pub parity : Parity (2 * H) odd (x -ℤ cent H x)

pub turned : (H : ℕ) (x : ℤ) → 0 < H → Turned H x
turned H x h =
    let u : ℤ = turns H x in
    let b : (q : Bool) × (mod_z u 2 ≡ bit q) = bool-of (mod_z u 2) (mod_z-lt u 2 (omega arith)) in
    let s : ℤ = shr_z u 2 in
    let d : up u + (2 * down s) ≡ 2 * up s + bit b.0 + down u = omega (arith, b.1, eq? (` u) (# 2 ⊗ ` s ⊕ # (mod_z u 2)) (div-mod u 2 (omega arith))) in
    record {
      odd = b.0;
      parity = record {
        half = s;
        is = eq! (` x ⊖ ` (cent H x)) (# (2 * H) ⊗ (# 2 ⊗ ` s ⊕ # (bit b.0)))
            (omega (arith, ap (λ (n : ℕ). H * n) d, eq? (` (cent H x)) (` x ⊖ # H ⊗ (# 2 ⊗ ` u)) (cent-is H x h)));
      };
    }

-- ---- the best blocks

-- rs is the best for one parity and cs for the other, and cs costs more by what changing a coordinate of size m does
pub record Rounding (M : ℕ) (p : Bool) (xs rs cs : List ℤ) (m : ℕ) : Type 0 where
  pub near : best M p xs ≡ rs
  pub far : best M (not p) xs ≡ cs
  pub order : rs ≼ cs
  pub cost : energy cs + 2 * (M * m) ≡ energy rs + M * M

-- the larger the coordinate, the less it costs
pub cost-one : (M : ℕ) (c d : ℤ) → nat_abs c + nat_abs d ≡ M → sq d + 2 * (M * nat_abs c) ≡ sq c + M * M
unfolding sq
cost-one M c d e =
    let a : ℕ = nat_abs c in
    let b : ℕ = nat_abs d in
    omega (arith, ap (λ (n : ℕ). n * a) e, ap (λ (n : ℕ). n * n) e)

not-rest : (q p : Bool) → not (rest q p) ≡ rest q (not p)
not-rest false p = refl
not-rest true p = refl

-- the best of one coordinate more is the better of the two candidates before the best of the others
choose : (M : ℕ) (q p : Bool) (x y c d : ℤ) (ys rs cs : List ℤ) → cent M (off M q x) ≡ c → cent M (off M (not q) x) ≡ d
    → best M p (y ∷ ys) ≡ rs → best M (not p) (y ∷ ys) ≡ cs
    → (best M (rest q p) (x ∷ y ∷ ys) ≡ better (c ∷ rs) (d ∷ cs)) ⊎ (best M (rest q p) (x ∷ y ∷ ys) ≡ better (d ∷ cs) (c ∷ rs))
unfolding best
choose M false p x y c d ys rs cs e f g h = inl (λ j. better (e j ∷ g j) (f j ∷ h j))
choose M true false x y c d ys rs cs e f g h = inr (λ j. better (f j ∷ h j) (e j ∷ g j))
choose M true true x y c d ys rs cs e f g h = inr (λ j. better (f j ∷ h j) (e j ∷ g j))

chosen : (z a b : List ℤ) → (z ≡ better a b) ⊎ (z ≡ better b a) → a ≼ b → z ≡ a
chosen z a b (inl e) h = e ∙ better-first a b h
chosen z a b (inr e) h = e ∙ better-second b a h

swap : {A B : Type 0} → A ⊎ B → B ⊎ A
swap (inl a) = inr a
swap (inr b) = inl b

module _ (H : ℕ) (x d : ℤ) (low : Bool) (t : Turned H x) (h : 0 < H) (hl : lt_z (cent H x) (pos 0) ≡ low)
    (hd : d ≡ cond low (cent H x +ℤ pos (2 * H)) (cent H x -ℤ pos (2 * H))) where
  abbrev M : ℕ
  M = 2 * H

  abbrev c : ℤ
  c = cent H x

  a : Across M c d low
  a = across H c d low (cent-range H x h) hl hd

  one : cent M (off M t.odd x) ≡ c
  one =
      let y : ℤ = off M t.odd x in
      let s : ℤ = t.parity.half in
      let e = eq? (` y) (` x ⊖ # M ⊗ # (bit t.odd)) (off-is M t.odd x) in
      let f = eq? (` x ⊖ ` c) (# M ⊗ (# 2 ⊗ ` s ⊕ # (bit t.odd))) t.parity.is in
      cent-only M y s c a.range (eq! (` y) (` c ⊕ # M ⊗ (# 2 ⊗ ` s)) (omega (arith, e, f)))

  two : cent M (off M (not t.odd) x) ≡ d
  two = go t.odd low t.parity.half t.parity.is hd
    where
      go : (q l : Bool) (s : ℤ) → x -ℤ c ≡ pos M *ℤ (pos 2 *ℤ s +ℤ pos (bit q)) → d ≡ cond l (c +ℤ pos M) (c -ℤ pos M) → cent M (off M (not q) x) ≡ d
      go false true s e f = cent-only M (x -ℤ pos M) (s -ℤ pos 1) d a.other (eq! (` x ⊖ # M) (` d ⊕ # M ⊗ (# 2 ⊗ (` s ⊖ # 1)))
          (omega (arith, eq? (` x ⊖ ` c) (# M ⊗ (# 2 ⊗ ` s ⊕ # 0)) e, eq? (` d) (` c ⊕ # M) f)))
      go false false s e f = cent-only M (x -ℤ pos M) s d a.other (eq! (` x ⊖ # M) (` d ⊕ # M ⊗ (# 2 ⊗ ` s))
          (omega (arith, eq? (` x ⊖ ` c) (# M ⊗ (# 2 ⊗ ` s ⊕ # 0)) e, eq? (` d) (` c ⊖ # M) f)))
      go true true s e f = cent-only M x s d a.other (eq! (` x) (` d ⊕ # M ⊗ (# 2 ⊗ ` s))
          (omega (arith, eq? (` x ⊖ ` c) (# M ⊗ (# 2 ⊗ ` s ⊕ # 1)) e, eq? (` d) (` c ⊕ # M) f)))
      go true false s e f = cent-only M x (s +ℤ pos 1) d a.other (eq! (` x) (` d ⊕ # M ⊗ (# 2 ⊗ (` s ⊕ # 1)))
          (omega (arith, eq? (` x ⊖ ` c) (# M ⊗ (# 2 ⊗ ` s ⊕ # 1)) e, eq? (` d) (` c ⊖ # M) f)))

  cost : sq d + 2 * (M * nat_abs c) ≡ sq c + M * M
  cost = cost-one M c d a.sizes

  -- one coordinate: it is rounded, or changed
  pub round-one : Rounding M t.odd (x ∷ []) (c ∷ []) (d ∷ []) (nat_abs c)
  unfolding best energy
  round-one = record {
    near = go t.odd c one;
    far = go (not t.odd) d two;
    order = cons-mono c d [] [] a.near (itself []);
    cost = omega (arith, cost);
  }
    where
      go : (q : Bool) (z : ℤ) → cent M (off M q x) ≡ z → best M q (x ∷ []) ≡ z ∷ []
      go false z e = ap (λ v. v ∷ []) e
      go true z e = ap (λ v. v ∷ []) e

  -- one coordinate more
  module _ (p : Bool) (y : ℤ) (ys rs cs : List ℤ) (m : ℕ) (r : Rounding M p (y ∷ ys) rs cs m) where
    nearer : best M (rest t.odd p) (x ∷ y ∷ ys) ≡ c ∷ rs
    nearer = chosen (best M (rest t.odd p) (x ∷ y ∷ ys)) (c ∷ rs) (d ∷ cs) (choose M t.odd p x y c d ys rs cs one two r.near r.far)
        (cons-mono c d rs cs a.near r.order)

    -- for the other parity it is the better of two
    abbrev Further : Bool → Type 0
    Further s = (best M s (x ∷ y ∷ ys) ≡ better (c ∷ cs) (d ∷ rs)) ⊎ (best M s (x ∷ y ∷ ys) ≡ better (d ∷ rs) (c ∷ cs))

    further : Further (not (rest t.odd p))
    further = subst Further (sym (not-rest t.odd p))
        (choose M t.odd (not p) x y c d ys cs rs one two r.far (ap (λ s. best M s (y ∷ ys)) (not-not p) ∙ r.near))

    -- it is the one to change: it is larger, or as large and not negative
    pub round-here : (m < nat_abs c) ⊎ ((m ≡ nat_abs c) × (low ≡ false)) → Rounding M (rest t.odd p) (x ∷ y ∷ ys) (c ∷ rs) (d ∷ rs) (nat_abs c)
    unfolding energy
    round-here l = record {
      near = nearer;
      far = chosen (best M (not (rest t.odd p)) (x ∷ y ∷ ys)) (d ∷ rs) (c ∷ cs) (swap further) (go l);
      order = cons-mono c d rs rs a.near (itself rs);
      cost = omega (arith, cost);
    }
      where
        go : (m < nat_abs c) ⊎ ((m ≡ nat_abs c) × (low ≡ false)) → (d ∷ rs) ≼ (c ∷ cs)
        go (inl l) = inl (omega (arith, cost, r.cost, mul-le-mul_left M l))
        go (inr l) = inr (omega (arith, cost, r.cost, ap (λ (n : ℕ). M * n) l.0), inl (subst (λ s. cond s (c <ℤ d) (d <ℤ c)) l.1 a.order))

    -- it is not: it is smaller, or as large and negative
    pub round-later : (nat_abs c < m) ⊎ ((nat_abs c ≡ m) × (low ≡ true)) → Rounding M (rest t.odd p) (x ∷ y ∷ ys) (c ∷ rs) (c ∷ cs) m
    unfolding energy
    round-later l = record {
      near = nearer;
      far = chosen (best M (not (rest t.odd p)) (x ∷ y ∷ ys)) (c ∷ cs) (d ∷ rs) further (go l);
      order = cons-mono c c rs cs (inr (refl, ud-le c c (omega arith))) r.order;
      cost = omega (arith, r.cost);
    }
      where
        go : (nat_abs c < m) ⊎ ((nat_abs c ≡ m) × (low ≡ true)) → (c ∷ cs) ≼ (d ∷ rs)
        go (inl l) = inl (omega (arith, cost, r.cost, mul-le-mul_left M l))
        go (inr l) = inr (omega (arith, cost, r.cost, ap (λ (n : ℕ). M * n) l.0), inl (subst (λ s. cond s (c <ℤ d) (d <ℤ c)) l.1 a.order))
