-- the least member of a class D_p(xs), for lists of any length
use mathlib.Core.Path.{◌≡◌, refl, sym, ap, subst}
use mathlib.Core.Logic.{◌⊎◌, inl, inr}
use mathlib.Core.Bool.{Bool, true, false, not, true≢false}
use mathlib.Core.List.{List, [], ◌∷◌}
use Prim.Native.Nat.{ℕ, suc, ◌+◌, ◌*◌, ◌<◌}
use native.Mathlib.Nat.{eq_of_mul-eq-mul_left}
use native.Mathlib.Omega.{arith}
use lib.ListN.{length, get_or}
use lib.IntN.{ℤ, pos, ◌+ℤ◌, ◌-ℤ◌, ◌*ℤ◌}
use lib.Signed.{◌<ℤ◌, shr_z}
use Rattle.integers.proofs.Zed.{`◌, #◌, ◌⊕◌, ◌⊖◌, ◌⊗◌, up, down, eq!, eq?, le-ud, lt-ud}
use Rattle.integers.proofs.Floor.{mod_z-lt, div-mod}
use Rattle.integers.specs.Integer.{mod_z}
use Rattle.e8.specs.Energy.{energy}
use Rattle.e8.specs.Order.{Reads}
use Rattle.e8.specs.Lattice.{sum, bit, moved}
use Rattle.e8.specs.Least.{cent, better, best}
use Rattle.e8.proofs.Order.{◌≼◌, trans, better-left, better-right, better-is, int-cases}
use Rattle.e8.proofs.Points.{rest, bool-of}
use Rattle.e8.proofs.Cent.{cent-is, cent-range, turns, First, first, Range}

-- z ∈ D_p(xs): z is xs − M·us, and Σ us ≡ p modulo 2
pub record In (M : ℕ) (p : Bool) (xs zs : List ℤ) : Type 0 where
  pub us : List ℤ
  pub half : ℤ
  pub long : length us ≡ length xs
  pub is : zs ≡ moved M xs us
  pub even : sum us ≡ pos 2 *ℤ half +ℤ pos (bit p)

-- ---- one coordinate more

abbrev pub off : ℕ → Bool → ℤ → ℤ
off M false x = x
off M true x = x -ℤ pos M

left : (q p : Bool) → (c : ℕ) × (bit p + 2 * c ≡ bit q + bit (rest q p))
left false p = (0, omega arith)
left true false = (1, omega arith)
left true true = (0, omega arith)

pub off-is : (M : ℕ) (q : Bool) (x : ℤ) → off M q x ≡ x -ℤ pos M *ℤ pos (bit q)
off-is M false x = eq! (` x) (` x ⊖ # M ⊗ # 0) (omega arith)
off-is M true x = eq! (` x ⊖ # M) (` x ⊖ # M ⊗ # 1) (omega arith)

-- a member of a class of x ∷ xs: its head is x, or x − M, less a multiple of 2M, and its tail is in the class of xs for the parity that is left
record Parts (M : ℕ) (p : Bool) (x : ℤ) (xs zs : List ℤ) : Type 0 where
  q : Bool
  s : ℤ
  z₀ : ℤ
  z₁ : List ℤ
  cut : zs ≡ z₀ ∷ z₁
  head : z₀ ≡ off M q x -ℤ pos M *ℤ (pos 2 *ℤ s)
  tail : In M (rest q p) xs z₁

parts : (M : ℕ) (p : Bool) (x : ℤ) (xs zs : List ℤ) → In M p (x ∷ xs) zs → Parts M p x xs zs
parts M p x xs zs i = go i.us i.long i.is i.even
  where
    go : (us : List ℤ) → length us ≡ suc (length xs) → zs ≡ moved M (x ∷ xs) us → sum us ≡ pos 2 *ℤ i.half +ℤ pos (bit p) → Parts M p x xs zs
    go [] l e h = absurd (omega arith)
    go (u ∷ us) l e h =
        let b : (q : Bool) × (mod_z u 2 ≡ bit q) = bool-of (mod_z u 2) (mod_z-lt u 2 (omega arith)) in
        let s : ℤ = shr_z u 2 in
        let c : (c : ℕ) × (bit p + 2 * c ≡ bit b.0 + bit (rest b.0 p)) = left b.0 p in
        let d : up u + (2 * down s) ≡ 2 * up s + mod_z u 2 + down u = omega (arith, eq? (` u) (# 2 ⊗ ` s ⊕ # (mod_z u 2)) (div-mod u 2 (omega arith))) in
        record {
          q = b.0;
          s = s;
          z₀ = x -ℤ pos M *ℤ u;
          z₁ = moved M xs us;
          cut = e;
          head = eq! (` x ⊖ # M ⊗ ` u) (` (off M b.0 x) ⊖ # M ⊗ (# 2 ⊗ ` s))
              (omega (arith, ap (λ (n : ℕ). M * n) d, ap (λ (n : ℕ). M * n) b.1, eq? (` (off M b.0 x)) (` x ⊖ # M ⊗ # (bit b.0)) (off-is M b.0 x)));
          tail = record {
            us = us;
            half = i.half -ℤ s -ℤ pos c.0;
            long = omega arith;
            is = refl;
            even = eq! (` (sum us)) (# 2 ⊗ (` i.half ⊖ ` s ⊖ # c.0) ⊕ # (bit (rest b.0 p)))
                (omega (arith, eq? (` u ⊕ ` (sum us)) (# 2 ⊗ ` i.half ⊕ # (bit p)) h, d, b.1, c.1));
          };
        }

join : (M : ℕ) (p q : Bool) (x s z : ℤ) (xs zs : List ℤ) → z ≡ off M q x -ℤ pos M *ℤ (pos 2 *ℤ s) → In M (rest q p) xs zs → In M p (x ∷ xs) (z ∷ zs)
join M p q x s z xs zs e i =
    let u : ℤ = pos 2 *ℤ s +ℤ pos (bit q) in
    let c : (c : ℕ) × (bit p + 2 * c ≡ bit q + bit (rest q p)) = left q p in
    record {
      us = u ∷ i.us;
      half = i.half +ℤ s +ℤ pos c.0;
      long = omega (arith, i.long);
      is = cc (
        e,
        i.is,
        eq! (` (off M q x) ⊖ # M ⊗ (# 2 ⊗ ` s)) (` x ⊖ # M ⊗ (# 2 ⊗ ` s ⊕ # (bit q)))
            (omega (arith, eq? (` (off M q x)) (` x ⊖ # M ⊗ # (bit q)) (off-is M q x))),
      );
      even = eq! (# 2 ⊗ ` s ⊕ # (bit q) ⊕ ` (sum i.us)) (# 2 ⊗ (` i.half ⊕ ` s ⊕ # c.0) ⊕ # (bit p))
          (omega (arith, eq? (` (sum i.us)) (# 2 ⊗ ` i.half ⊕ # (bit (rest q p))) i.even, c.1));
    }

none : (M : ℕ) → In M false [] []
none M = record { us = []; half = pos 0; long = refl; is = refl; even = refl }

-- ---- the two laws

cent-off : (M : ℕ) (p q : Bool) (x : ℤ) (xs zs : List ℤ) → 0 < M → In M (rest q p) xs zs → In M p (x ∷ xs) (cent M (off M q x) ∷ zs)
cent-off M p q x xs zs h i = join M p q x (turns M (off M q x)) (cent M (off M q x)) xs zs (cent-is M (off M q x) h) i

pub best-in : (M : ℕ) (p : Bool) (x : ℤ) (xs : List ℤ) → 0 < M → In M p (x ∷ xs) (best M p (x ∷ xs))
unfolding best
best-in M false x [] h = cent-off M false false x [] [] h (none M)
best-in M true x [] h = cent-off M true true x [] [] h (none M)
best-in M p x (y ∷ ys) h = better-is (In M p (x ∷ y ∷ ys)) (cent M x ∷ best M p (y ∷ ys)) (cent M (x -ℤ pos M) ∷ best M (not p) (y ∷ ys))
    (cent-off M p false x (y ∷ ys) (best M p (y ∷ ys)) h (best-in M p y ys h))
    (cent-off M p true x (y ∷ ys) (best M (not p) (y ∷ ys)) h (best-in M (not p) y ys h))

pub cons-mono : (a b : ℤ) (av bv : List ℤ) → First a b → av ≼ bv → (a ∷ av) ≼ (b ∷ bv)
unfolding energy
cons-mono a b av bv (inl h) (inl k) = inl (omega arith)
cons-mono a b av bv (inl h) (inr k) = inl (omega arith)
cons-mono a b av bv (inr h) (inl k) = inl (omega arith)
cons-mono a b av bv (inr h) (inr k) = inr (omega arith, order (int-cases a b))
  where
    order : (a <ℤ b) ⊎ ((a ≡ b) ⊎ (b <ℤ a)) → (a <ℤ b) ⊎ ((a ≡ b) × Reads av bv)
    order (inl l) = inl l
    order (inr (inl e)) = inr (e, k.1)
    order (inr (inr g)) = absurd (omega (arith, le-ud h.1, lt-ud g))

cent-first : (M : ℕ) (x s z : ℤ) → 0 < M → z ≡ x -ℤ pos M *ℤ (pos 2 *ℤ s) → First (cent M x) z
cent-first M x s z h e = first M (cent M x) z (s -ℤ turns M x) (cent-range M x h)
    (eq! (` z) (` (cent M x) ⊖ # M ⊗ (# 2 ⊗ (` s ⊖ ` (turns M x))))
    (omega (arith, eq? (` z) (` x ⊖ # M ⊗ (# 2 ⊗ ` s)) e, eq? (` (cent M x)) (` x ⊖ # M ⊗ (# 2 ⊗ ` (turns M x))) (cent-is M x h))))

only-nil : (M : ℕ) (p : Bool) (zs : List ℤ) → In M p [] zs → (zs ≡ []) × (p ≡ false)
only-nil M p zs i = go i.us i.long p i.even
  where
    go : (us : List ℤ) → length us ≡ 0 → (p : Bool) → sum us ≡ pos 2 *ℤ i.half +ℤ pos (bit p) → (zs ≡ []) × (p ≡ false)
    go [] l false e = (i.is, refl)
    go [] l true e = absurd (omega (arith, eq? (# 0) (# 2 ⊗ ` i.half ⊕ # 1) e))
    go (u ∷ us) l p e = absurd (omega arith)

least_at : (M : ℕ) (p : Bool) (x : ℤ) (xs zs : List ℤ) (b : Bool → List ℤ) → 0 < M
    → ((r : Bool) (ys : List ℤ) → In M r xs ys → b r ≼ ys)
    → (w : Parts M p x xs zs) → (cent M (off M w.q x) ∷ b (rest w.q p)) ≼ zs
least_at M p x xs zs b h f w = subst (λ l. (cent M (off M w.q x) ∷ b (rest w.q p)) ≼ l) (sym w.cut)
    (cons-mono (cent M (off M w.q x)) w.z₀ (b (rest w.q p)) w.z₁ (cent-first M (off M w.q x) w.s w.z₀ h w.head)
    (f (rest w.q p) w.z₁ w.tail))

nil-least : (M : ℕ) (r : Bool) (ys : List ℤ) → In M r [] ys → [] ≼ ys
nil-least M r ys i = subst (λ l. [] ≼ l) (sym (only-nil M r ys i).0) (inr (refl, tt))

pub best-least : (M : ℕ) (p : Bool) (x : ℤ) (xs zs : List ℤ) → 0 < M → In M p (x ∷ xs) zs → best M p (x ∷ xs) ≼ zs
unfolding best
best-least M p x [] zs h i = go p w.q (only-nil M (rest w.q p) w.z₁ w.tail).1 (least_at M p x [] zs (λ r. []) h (nil-least M) w)
  where
    w : Parts M p x [] zs
    w = parts M p x [] zs i

    go : (p q : Bool) → rest q p ≡ false → (cent M (off M q x) ∷ []) ≼ zs → best M p (x ∷ []) ≼ zs
    go false false e l = l
    go true true e l = l
    go false true e l = absurd (true≢false e)
    go true false e l = absurd (true≢false e)
best-least M p x (y ∷ ys) zs h i = go w.q (least_at M p x (y ∷ ys) zs (λ r. best M r (y ∷ ys)) h (λ r v j. best-least M r y ys v h j) w)
  where
    w : Parts M p x (y ∷ ys) zs
    w = parts M p x (y ∷ ys) zs i

    -- the two candidates that `best` chooses from
    a : List ℤ
    a = cent M x ∷ best M p (y ∷ ys)

    c : List ℤ
    c = cent M (x -ℤ pos M) ∷ best M (not p) (y ∷ ys)

    go : (q : Bool) → (cent M (off M q x) ∷ best M (rest q p) (y ∷ ys)) ≼ zs → best M p (x ∷ y ∷ ys) ≼ zs
    go false l = trans (better a c) a zs (better-left a c) l
    go true l = trans (better a c) c zs (better-right a c) l

-- ---- every coordinate is in [−M, M)

abbrev pub All : (ℤ → Type 0) → List ℤ → Type 0
All P [] = Unit {0}
All P (z ∷ zs) = P z × All P zs

pub best-range : (M : ℕ) (p : Bool) (xs : List ℤ) → 0 < M → All (Range M) (best M p xs)
unfolding best
best-range M false [] h = tt
best-range M true [] h = tt
best-range M false (x ∷ []) h = (cent-range M x h, tt)
best-range M true (x ∷ []) h = (cent-range M (x -ℤ pos M) h, tt)
best-range M p (x ∷ y ∷ ys) h = better-is (All (Range M)) (cent M x ∷ best M p (y ∷ ys)) (cent M (x -ℤ pos M) ∷ best M (not p) (y ∷ ys))
    (cent-range M x h, best-range M p (y ∷ ys) h) (cent-range M (x -ℤ pos M) h, best-range M (not p) (y ∷ ys) h)

-- the first coordinate of the best differs from x by a multiple of M
pub best-head : (M : ℕ) (p : Bool) (x : ℤ) (xs : List ℤ) → 0 < M → (u : ℤ) × (get_or (best M p (x ∷ xs)) 0 (pos 0) ≡ x -ℤ pos M *ℤ u)
best-head M p x xs h = let i = best-in M p x xs h in go i.us i.long i.is
  where
    go : (us : List ℤ) → length us ≡ suc (length xs) → best M p (x ∷ xs) ≡ moved M (x ∷ xs) us
        → (u : ℤ) × (get_or (best M p (x ∷ xs)) 0 (pos 0) ≡ x -ℤ pos M *ℤ u)
    go [] l e = absurd (omega arith)
    go (u ∷ us) l e = (u, ap (λ z. get_or z 0 (pos 0)) e)

pub parts-differ : (H : ℕ) (x u t : ℤ) → 0 < H → x -ℤ pos (2 * H) *ℤ u ≡ x -ℤ pos H -ℤ pos (2 * H) *ℤ t → ⊥
parts-differ H x u t h e =
    let f : H * (2 * up u + 2 * down t) ≡ H * (2 * down u + 2 * up t + 1) = omega (arith, eq? (` x ⊖ # (2 * H) ⊗ ` u) (` x ⊖ # H ⊖ # (2 * H) ⊗ ` t) e) in
    let g : 2 * up u + 2 * down t ≡ 2 * down u + 2 * up t + 1 = eq_of_mul-eq-mul_left H h (2 * up u + 2 * down t) (2 * down u + 2 * up t + 1) f in
    omega arith

pub best-length : (M : ℕ) (p : Bool) (xs : List ℤ) → length (best M p xs) ≡ length xs
unfolding best
best-length M false [] = refl
best-length M true [] = refl
best-length M false (x ∷ []) = refl
best-length M true (x ∷ []) = refl
best-length M p (x ∷ y ∷ ys) = better-is (λ l. length l ≡ suc (suc (length ys))) (cent M x ∷ best M p (y ∷ ys)) (cent M (x -ℤ pos M) ∷ best M (not p) (y ∷ ys))
    (ap suc (best-length M p (y ∷ ys))) (ap suc (best-length M (not p) (y ∷ ys)))
