-- THE NEAR FRAMES AS COMPUTED: exactly the frame of the coding set that is near, or none where no frame is. Assumes nothing.
use Prim.Native.Nat.{ℕ, zero, suc, ◌^◌, ◌≤◌, ◌<◌}
use mathlib.Core.Path.{◌≡◌, refl, sym, ap, ap₂, ◌∙◌, subst}
use mathlib.Core.Logic.{◌⊎◌, inl, inr}
use mathlib.Core.Bool.{Bool, true, false, ◌&&◌, cond, true≢false}
use mathlib.Core.List.{List, [], ◌∷◌, ◌++◌, map}
use native.Mathlib.Omega.{arith}
use lib.Dec.{eqb, ltb}
use lib.ListN.{length}
use lib.IntN.{ℤ, pos, negsuc, ◌+ℤ◌, ◌-ℤ◌, ◌*ℤ◌, nat_abs}
use lib.Signed.{shr_z}
use borrow.Author.Tests.{eqb-true, eq-eqb, ltb-true, lt-ltb}
use Rattle.integers.specs.Integer.{mod_z}
use Rattle.integers.proofs.Zed.{`◌, #◌, ◌⊕◌, ◌⊖◌, ◌⊗◌, eq!, eq?}
use Rattle.integers.proofs.Floor.{div-mod, mod_z-lt}
use Rattle.e8.specs.Energy.{sq, distance}
use Rattle.e8.proofs.Within.{and_both}
use Rattle.frames.specs.Kind.{degrees}
use Rattle.frames.specs.Frame.{InCodingSet}
use Rattle.frames.specs.Reading.{broken}
use Rattle.frames.specs.Demands.{FirstBroken}
use Rattle.frames.proofs.Refusals.{levels-answer, set-passes, broken-refuses}
use Rattle.near_frames.specs.Near.{frame_in_256ths, nearness, near_kind, near_limit, IsNear, is_near, around, prefixed, frames_around, passing, near_frames}
use Rattle.near_frames.specs.Near.{some, first_or, some_near, near_frame, near_cost}
use Rattle.near_frames.proofs.NearKinds.{each-near, near-is-kind}
use Rattle.near_frames.proofs.Squares.{le-abs, root-lt}
use Rattle.near_frames.proofs.Only.{near-only}

-- z is one of the numbers
abbrev In : ℤ → List ℤ → Type 0
In z [] = ⊥
In z (w ∷ zs) = (z ≡ w) ⊎ In z zs

-- no number stands twice
abbrev Distinct : List ℤ → Type 0
Distinct [] = Unit {0}
Distinct (w ∷ zs) = (In w zs → ⊥) × Distinct zs

-- ---- the numbers around a sample

module _ (t : ℤ) where
  abbrev q : ℤ
  q = shr_z t 256

  -- those less than 2 away
  in-around : (z : ℤ) → sq (pos 256 *ℤ z -ℤ t) < 262144 → In z (around t)
  unfolding sq
  in-around z h = go (z -ℤ q) (eq! (` z) (` q ⊕ (` z ⊖ ` q)) (omega arith))
    where
      s : ℤ
      s = pos 256 *ℤ z -ℤ t

      near : nat_abs s < 512
      near = root-lt (nat_abs s) 512 h

      is : (d : ℤ) → z ≡ q +ℤ d → s ≡ pos 256 *ℤ d -ℤ pos (mod_z t 256)
      is d e = eq! (# 256 ⊗ ` z ⊖ ` t) (# 256 ⊗ ` d ⊖ # (mod_z t 256))
          (omega (arith, eq? (` z) (` q ⊕ ` d) e, eq? (` t) (# 256 ⊗ ` q ⊕ # (mod_z t 256)) (div-mod t 256 (omega arith))))

      go : (d : ℤ) → z ≡ q +ℤ d → In z (around t)
      go (pos zero) e = inr (inl (eq! (` z) (` q) (omega (arith, eq? (` z) (` q ⊕ # 0) e))))
      go (pos (suc zero)) e = inr (inr (inl e))
      go (pos (suc (suc zero))) e = inr (inr (inr (inl e)))
      go (pos (suc (suc (suc n)))) e = absurd (omega (
        arith,
        near,
        mod_z-lt t 256 (omega arith),
        eq? (` s) (# 256 ⊗ # (suc (suc (suc n))) ⊖ # (mod_z t 256)) (is (pos (suc (suc (suc n)))) e),
        (le-abs s).0,
      ))
      go (negsuc zero) e = inl (eq! (` z) (` q ⊖ # 1) (omega (arith, eq? (` z) (` q ⊕ ` (negsuc 0)) e)))
      go (negsuc (suc n)) e =
          absurd (omega (arith, near, eq? (` s) (# 256 ⊗ ` (negsuc (suc n)) ⊖ # (mod_z t 256)) (is (negsuc (suc n)) e), (le-abs s).1))

  around-distinct : Distinct (around t)
  around-distinct = (first, (second, (third, ((λ h. h), tt))))
    where
      first : In (q -ℤ pos 1) (q ∷ (q +ℤ pos 1) ∷ (q +ℤ pos 2) ∷ []) → ⊥
      first (inl e) = omega (arith, eq? (` q ⊖ # 1) (` q) e)
      first (inr (inl e)) = omega (arith, eq? (` q ⊖ # 1) (` q ⊕ # 1) e)
      first (inr (inr (inl e))) = omega (arith, eq? (` q ⊖ # 1) (` q ⊕ # 2) e)
      first (inr (inr (inr h))) = h

      second : In q ((q +ℤ pos 1) ∷ (q +ℤ pos 2) ∷ []) → ⊥
      second (inl e) = omega (arith, eq? (` q) (` q ⊕ # 1) e)
      second (inr (inl e)) = omega (arith, eq? (` q) (` q ⊕ # 2) e)
      second (inr (inr h)) = h

      third : In (q +ℤ pos 1) ((q +ℤ pos 2) ∷ []) → ⊥
      third (inl e) = omega (arith, eq? (` q ⊕ # 1) (` q ⊕ # 2) e)
      third (inr h) = h

-- ---- frames that pass a test

passing-none : (test : List ℤ → Bool) (fs : List (List ℤ)) → ((f : List ℤ) → test f ≡ true → ⊥) → passing test fs ≡ []
unfolding passing
passing-none test [] h = refl
passing-none test (f ∷ fs) h = go (test f) refl (passing-none test fs h)
  where
    go : (b : Bool) → test f ≡ b → passing test fs ≡ [] → passing test (f ∷ fs) ≡ []
    go true e ih = absurd (h f e)
    go false e ih = rw e ih

-- those with z before them, and then others
passing-prefixed : (test : List ℤ → Bool) (z : ℤ) (fs gs : List (List ℤ))
    → passing test (map (λ f. z ∷ f) fs ++ gs) ≡ map (λ f. z ∷ f) (passing (λ f. test (z ∷ f)) fs) ++ passing test gs
unfolding passing
passing-prefixed test z [] gs = refl
passing-prefixed test z (f ∷ fs) gs = go (test (z ∷ f)) (passing-prefixed test z fs gs)
  where
    go : (b : Bool) → passing test (map (λ f. z ∷ f) fs ++ gs) ≡ map (λ f. z ∷ f) (passing (λ f. test (z ∷ f)) fs) ++ passing test gs
        → cond b ((z ∷ f) ∷ passing test (map (λ f. z ∷ f) fs ++ gs)) (passing test (map (λ f. z ∷ f) fs ++ gs))
        ≡ map (λ f. z ∷ f) (cond b (f ∷ passing (λ f. test (z ∷ f)) fs) (passing (λ f. test (z ∷ f)) fs)) ++ passing test gs
    go true ih = ap (λ (l : List (List ℤ)). (z ∷ f) ∷ l) ih
    go false ih = ih

-- none where no frame that begins with one of the numbers passes
prefixed-none : (test : List ℤ → Bool) (zs : List ℤ) (fs : List (List ℤ)) → ((z : ℤ) → In z zs → (f : List ℤ) → test (z ∷ f) ≡ true → ⊥)
    → passing test (prefixed zs fs) ≡ []
unfolding prefixed passing
prefixed-none test [] fs h = refl
prefixed-none test (z ∷ zs) fs h =
    passing-prefixed test z fs (prefixed zs fs)
    ∙ ap₂ (λ (a b : List (List ℤ)). map (λ f. z ∷ f) a ++ b) (passing-none (λ f. test (z ∷ f)) fs (h z (inl refl)))
    (prefixed-none test zs fs (λ w i. h w (inr i)))

-- one where x is one of the numbers, and f alone passes behind it
prefixed-one : (test : List ℤ → Bool) (x : ℤ) (f : List ℤ) (zs : List ℤ) (fs : List (List ℤ)) → Distinct zs → In x zs
    → passing (λ g. test (x ∷ g)) fs ≡ f ∷ [] → ((z : ℤ) (g : List ℤ) → test (z ∷ g) ≡ true → z ≡ x) → passing test (prefixed zs fs) ≡ (x ∷ f) ∷ []
unfolding prefixed
prefixed-one test x f [] fs d i one only = absurd i
prefixed-one test x f (z ∷ zs) fs d i one only = passing-prefixed test z fs (prefixed zs fs) ∙ go i (λ i. prefixed-one test x f zs fs d.1 i one only)
  where
    go : (x ≡ z) ⊎ In x zs → (In x zs → passing test (prefixed zs fs) ≡ (x ∷ f) ∷ [])
        → map (λ g. z ∷ g) (passing (λ g. test (z ∷ g)) fs) ++ passing test (prefixed zs fs) ≡ (x ∷ f) ∷ []
    go (inl e) ih =
        ap₂ (λ (a b : List (List ℤ)). map (λ g. z ∷ g) a ++ b) (subst (λ (w : ℤ). passing (λ g. test (w ∷ g)) fs ≡ f ∷ []) e one)
        (prefixed-none test zs fs (λ w j g y. d.0 (subst (λ (v : ℤ). In v zs) (only w g y ∙ e) j)))
        ∙ ap (λ (w : ℤ). (w ∷ f) ∷ []) (sym e)
    go (inr j) ih = ap₂ (λ (a b : List (List ℤ)). map (λ g. z ∷ g) a ++ b)
        (passing-none (λ g. test (z ∷ g)) fs (λ g y. d.0 (subst (λ (v : ℤ). In v zs) (sym (only z g y)) j))) (ih j)

head_of : List ℤ → ℤ
head_of [] = pos 0
head_of (z ∷ f) = z

tail_of : List ℤ → List ℤ
tail_of [] = []
tail_of (z ∷ f) = f

-- of the frames around the samples, the one that passes, where it is less than 2 away
frames-one : (test : List ℤ → Bool) (f t : List ℤ) → length f ≡ length t → nearness f t < 262144 → test f ≡ true
    → ((g : List ℤ) → test g ≡ true → g ≡ f) → passing test (frames_around t) ≡ f ∷ []
unfolding frames_around passing nearness frame_in_256ths distance head_of tail_of
frames-one test [] [] l h y only = rw y
frames-one test [] (z ∷ t) l h y only = absurd (omega arith)
frames-one test (x ∷ f) [] l h y only = absurd (omega arith)
frames-one test (x ∷ f) (z ∷ t) l h y only =
    prefixed-one test x f (around z) (frames_around t) (around-distinct z) (in-around z x (omega arith))
    (frames-one (λ g. test (x ∷ g)) f t (omega arith) (omega arith) y (λ g e. ap tail_of (only (x ∷ g) e)))
    (λ w g e. ap head_of (only (w ∷ g) e))

-- ---- the test

pub near-test : (k : ℕ) (t f : List ℤ) → IsNear k t f → is_near k t f ≡ true
unfolding is_near
near-test k t f n =
    rw (eq-eqb (length t) (2 ^ k) n.samples, eq-eqb (length f) (2 ^ k) n.coded.long, eq-eqb (broken k 0 (degrees k) f) 0 (set-passes k f n.coded))
    (lt-ltb (nearness f t) (near_limit k) n.close)

pub test-near : (k : ℕ) → near_kind k ≡ true → (t f : List ℤ) → is_near k t f ≡ true → IsNear k t f
unfolding is_near
test-near k kind t f e = record {
  samples = eqb-true (length t) (2 ^ k) s.0;
  coded = go (levels-answer k f (eqb-true (length f) (2 ^ k) a.0));
  close = ltb-true (nearness f t) (near_limit k) b.1;
}
  where
    close : Bool
    close = eqb (broken k 0 (degrees k) f) 0 && ltb (nearness f t) (near_limit k)

    s : (eqb (length t) (2 ^ k) ≡ true) × ((eqb (length f) (2 ^ k) && close) ≡ true)
    s = and_both (eqb (length t) (2 ^ k)) (eqb (length f) (2 ^ k) && close) e

    a : (eqb (length f) (2 ^ k) ≡ true) × (close ≡ true)
    a = and_both (eqb (length f) (2 ^ k)) close s.1

    b : (eqb (broken k 0 (degrees k) f) 0 ≡ true) × (ltb (nearness f t) (near_limit k) ≡ true)
    b = and_both (eqb (broken k 0 (degrees k) f) 0) (ltb (nearness f t) (near_limit k)) a.1

    go : InCodingSet k f ⊎ FirstBroken k f (broken k 0 (degrees k) f) → InCodingSet k f
    go (inl set) = set
    go (inr first) = absurd (omega (
      arith,
      broken-refuses k f (broken k 0 (degrees k) f) (near-is-kind k kind) first,
      eqb-true (broken k 0 (degrees k) f) 0 b.0,
    ))

-- ---- THE NEAR FRAMES

pub limit-low : (k : ℕ) → near_kind k ≡ true → near_limit k ≤ 262144
limit-low = each-near (λ k. near_limit k ≤ 262144) (omega arith) (omega arith) (omega arith)

module _ (k : ℕ) (kind : near_kind k ≡ true) (t : List ℤ) where
  -- where a frame is near, it is the one
  pub near-given : (f : List ℤ) → IsNear k t f → near_frames k t ≡ f ∷ []
  unfolding near_frames
  near-given f n =
      frames-one (is_near k t) f t (n.coded.long ∙ sym n.samples) (omega (arith, n.close, limit-low k kind)) (near-test k t f n)
      (λ g e. near-only k kind t g f (test-near k kind t g e) n)

  -- where none is near, there is none
  pub far-given : ((f : List ℤ) → IsNear k t f → ⊥) → near_frames k t ≡ []
  unfolding near_frames
  far-given h = passing-none (is_near k t) (frames_around t) (λ f e. h f (test-near k kind t f e))

  -- the same of what is computed from them
  pub near-is : (f : List ℤ) → IsNear k t f → (some_near k t ≡ true) × ((lent : List ℤ) → near_frame k t lent ≡ f) × (near_cost k t ≡ nearness f t)
  unfolding some_near near_frame near_cost
  near-is f n = let e = near-given f n in (rw e, (λ lent. rw e), rw e)

  pub far-is : ((f : List ℤ) → IsNear k t f → ⊥) → (some_near k t ≡ false) × ((lent : List ℤ) → near_frame k t lent ≡ lent) × (near_cost k t ≡ 0)
  unfolding some_near near_frame near_cost
  far-is h = let e = far-given h in (rw e, (λ lent. rw e), rw e)

  -- where the test says that none is near, none is
  pub none-near : some_near k t ≡ false → (f : List ℤ) → IsNear k t f → ⊥
  none-near e f n = true≢false (sym (near-is f n).0 ∙ e)

-- a list of frames that pass a test begins with one that passes it
first_passes : (test : List ℤ → Bool) (fs : List (List ℤ)) → some (passing test fs) ≡ true → test (first_or (passing test fs) []) ≡ true
unfolding passing
first_passes test [] n = absurd (true≢false (sym n))
first_passes test (f ∷ fs) n = go (test f) refl (first_passes test fs) n
  where
    go : (b : Bool) → test f ≡ b → (some (passing test fs) ≡ true → test (first_or (passing test fs) []) ≡ true)
        → some (cond b (f ∷ passing test fs) (passing test fs)) ≡ true → test (first_or (cond b (f ∷ passing test fs) (passing test fs)) []) ≡ true
    go true e ih n = e
    go false e ih n = ih n

-- the frame that is given is near
pub is-near : (k : ℕ) → near_kind k ≡ true → (t : List ℤ) → some_near k t ≡ true → IsNear k t (near_frame k t [])
unfolding some_near near_frame near_frames
is-near k kind t n = test-near k kind t (near_frame k t []) (first_passes (is_near k t) (frames_around t) n)
