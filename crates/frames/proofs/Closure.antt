-- THE CODING SET is closed under negation: the levels of a difference are codewords, for any number of levels whose degrees grow enough. What is
-- taken off at the next level is a sum of products. Sums are differences from negated frames. Assumes nothing.
use Prim.Native.Nat.{ℕ, zero, suc, max, ◌+◌, ◌-◌, ◌*◌, ◌/◌, ◌%◌, ◌<◌}
use mathlib.Core.Path.{◌≡◌, refl, sym, ap, ◌∙◌}
use mathlib.Core.Bool.{Bool, true, false, ◌&&◌, true≢false}
use mathlib.Core.List.{List, [], ◌∷◌}
use native.Mathlib.Nat.{mod-mod, mod-lt, le-max_left, le-max_right}
use native.Mathlib.Omega.{arith}
use lib.Dec.{lit<, leb}
use borrow.Author.Tests.{leb-true}
use lib.ListN.{replicate}
use lib.IntN.{ℤ, pos, ◌+ℤ◌}
use lib.Signed.{shr_z}
use Rattle.integers.specs.Integer.{mod_z}
use Rattle.integers.proofs.Zed.{`◌, #◌, ◌⊕◌, ◌⊗◌, ⊝◌, eq!, eq?}
use Rattle.integers.proofs.Floor.{div-mod, mod_z-lt}
use Rattle.reed_muller.specs.Level.{belongs}
use Rattle.reed_muller.proofs.Belongs.{belongs-cong, belongs-add}
use Rattle.reed_muller.proofs.Product.{belongs-more, belongs-none, belongs-product}
use Rattle.e8.specs.Ties.{negated}
use Rattle.e8.proofs.Within.{and_both}
use Rattle.e8.proofs.Negation.{negated-length, negated-at}
use Rattle.frames.specs.Kind.{kinds, is_kind, degrees, levels}
use Rattle.frames.specs.Frame.{InCodingSet}
use Rattle.frames.proofs.Levels.{Codes}
use Rattle.frames.proofs.Frame.{at, codes-of, of-codes}
use Rattle.frames.proofs.Rows.{each_row}

-- the degrees of x (s), of y (r) and of what is taken off (t), level by level: s and t are at most r, and the next t is r plus the larger of both
abbrev pub growing : ℕ → List ℕ → List ℕ → Bool
growing t ss [] = true
growing t [] (r ∷ rs) = false
growing t (s ∷ ss) (r ∷ rs) = leb (max s t) r && growing (max s t + r) ss rs

-- what is taken off at the next level, as a sum of products: 1 where the bit a of x is too small for b of y and c
abbrev carried : ℕ → ℕ → ℕ → ℕ
carried a b c = (b + (a + c) * (b + c)) % 2

carried-is : (a b c : ℕ) → a < 2 → b < 2 → c < 2 → carried a b c ≡ (b + c + 1 - a) / 2
carried-is a zero zero ha hb hc = omega arith
carried-is a zero (suc zero) ha hb hc = omega arith
carried-is a (suc zero) zero ha hb hc = omega arith
carried-is a (suc zero) (suc zero) ha hb hc = omega arith
carried-is a zero (suc (suc c)) ha hb hc = absurd (omega arith)
carried-is a (suc zero) (suc (suc c)) ha hb hc = absurd (omega arith)
carried-is a (suc (suc b)) c ha hb hc = absurd (omega arith)

-- one level of z = x − y − c: its bit is the sum of the bits, and above it stands x/2 − y/2 − c'
one-level : (x y z : ℤ) (c : ℕ) → c < 2 → z +ℤ y +ℤ pos c ≡ x
    → (mod_z z 2 % 2 ≡ (mod_z x 2 + c + mod_z y 2) % 2) × (shr_z z 2 +ℤ shr_z y 2 +ℤ pos (carried (mod_z x 2) (mod_z y 2) c) ≡ shr_z x 2)
one-level x y z c small e =
    let two : 0 < 2 = omega arith in
    let sum = eq? (` z ⊕ ` y ⊕ # c) (` x) e in
    let dx = eq? (` x) (# 2 ⊗ ` (shr_z x 2) ⊕ # (mod_z x 2)) (div-mod x 2 two) in
    let dy = eq? (` y) (# 2 ⊗ ` (shr_z y 2) ⊕ # (mod_z y 2)) (div-mod y 2 two) in
    let dz = eq? (` z) (# 2 ⊗ ` (shr_z z 2) ⊕ # (mod_z z 2)) (div-mod z 2 two) in
    let next = carried-is (mod_z x 2) (mod_z y 2) c (mod_z-lt x 2 two) (mod_z-lt y 2 two) small in (
      omega (arith, sum, dx, dy, dz),
      eq! (` (shr_z z 2) ⊕ ` (shr_z y 2) ⊕ # (carried (mod_z x 2) (mod_z y 2) c)) (` (shr_z x 2))
          (omega (arith, sum, dx, dy, dz, next, mod_z-lt x 2 two, mod_z-lt z 2 two)),
    )

-- all levels of x − y − c
less : (m t : ℕ) (ss rs : List ℕ) → growing t ss rs ≡ true → (x y z : ℕ → ℤ) (c : ℕ → ℕ) → ((p : ℕ) → c p < 2) → belongs t m c ≡ true
    → ((p : ℕ) → z p +ℤ y p +ℤ pos (c p) ≡ x p) → Codes m ss x → Codes m rs y → Codes m rs z
less m t ss [] g x y z c small tc e cx cy = tt
less m t [] (r ∷ rs) g x y z c small tc e cx cy = absurd (true≢false (sym g))
less m t (s ∷ ss) (r ∷ rs) g x y z c small tc e cx cy =
    let u = max s t in
    let a : ℕ → ℕ = λ p. mod_z (x p) 2 in
    let b : ℕ → ℕ = λ p. mod_z (y p) 2 in
    let tests = and_both (leb u r) (growing (u + r) ss rs) g in
    let fits = leb-true u r tests.0 in
    let ac = belongs-add u m a c (belongs-more s u m a (le-max_left s t) cx.0) (belongs-more t u m c (le-max_right s t) tc) in
    let bc = belongs-add r m b c cy.0 (belongs-more t r m c (omega (arith, fits, le-max_right s t)) tc) in
    let product = belongs-product u r m (λ p. a p + c p) (λ p. b p + c p) ac bc in
    let sum = belongs-add (u + r) m b (λ p. (a p + c p) * (b p + c p)) (belongs-more r (u + r) m b (omega arith) cy.0) product in
    let next = belongs-cong (u + r) m (λ p. carried (a p) (b p) (c p)) (λ p. b p + (a p + c p) * (b p + c p)) (λ p l. mod-mod _ 2) ∙ sum in (
      belongs-cong r m (λ p. mod_z (z p) 2) (λ p. a p + c p + b p) (λ p l. (one-level (x p) (y p) (z p) (c p) (small p) (e p)).0)
          ∙ belongs-add r m (λ p. a p + c p) b (belongs-more u r m (λ p. a p + c p) fits ac) cy.0,
      less m (u + r) ss rs tests.1 (λ p. shr_z (x p) 2) (λ p. shr_z (y p) 2) (λ p. shr_z (z p) 2) (λ p. carried (a p) (b p) (c p))
          (λ p. mod-lt _ (lit< tt)) next (λ p. (one-level (x p) (y p) (z p) (c p) (small p) (e p)).1) cx.1 cy.1,
    )

-- THE LEVELS OF A DIFFERENCE z, of x and y
pub codes-less : (m : ℕ) (ss rs : List ℕ) → growing 0 ss rs ≡ true → (x y z : ℕ → ℤ) → ((p : ℕ) → z p +ℤ y p ≡ x p)
    → Codes m ss x → Codes m rs y → Codes m rs z
codes-less m ss rs g x y z e = less m 0 ss rs g x y z (λ p. 0) (λ p. lit< tt) (belongs-none 0 m)
    (λ p. eq! (` (z p) ⊕ ` (y p) ⊕ # 0) (` (x p)) (omega (arith, eq? (` (z p) ⊕ ` (y p)) (` (x p)) (e p))))

-- and of no number: all zeros
pub codes-none : (m : ℕ) (rs : List ℕ) → Codes m rs (λ p. pos 0)
codes-none m [] = tt
codes-none m (r ∷ rs) = (belongs-none r m, codes-none m rs)

-- THE NEGATED FRAME of one of the coding set is of the coding set: each degree of a kind is at least the sum of those before it
pub set-negated : (k : ℕ) → is_kind k ≡ true → (f : List ℤ) → InCodingSet k f → InCodingSet k (negated f)
unfolding levels degrees kinds
set-negated k kind f set = let zeros : List ℕ = replicate (levels k) 0 in
    record {
      long = negated-length f ∙ set.long;
      codewords = of-codes k (degrees k) (negated f)
          (codes-less k zeros (degrees k) (each_row (λ k. growing 0 (replicate (levels k) 0) (degrees k)) refl k kind)
          (λ p. pos 0) (at f) (at (negated f))
          (λ p. eq! (` (at (negated f) p) ⊕ ` (at f p)) (# 0) (omega (arith, eq? (` (at (negated f) p)) (⊝ ` (at f p)) (negated-at f p))))
          (codes-none k zeros) (codes-of k (degrees k) f set.codewords));
    }
