-- The points of 2·E8 are a group: sums, multiples and 0 of them are points
use mathlib.Core.Path.{◌≡◌, refl, ◌∙◌, ap}
use mathlib.Core.Bool.{Bool, true, false, not}
use mathlib.Core.List.{List, [], ◌∷◌}
use Prim.Native.Nat.{ℕ, zero, suc, ◌+◌, ◌*◌, ◌<◌}
use native.Mathlib.Omega.{arith}
use lib.ListN.{length}
use lib.IntN.{ℤ, pos, ◌+ℤ◌, ◌*ℤ◌}
use lib.Signed.{shr_z}
use Rattle.integers.specs.Integer.{mod_z}
use Rattle.integers.proofs.Zed.{`◌, #◌, ◌⊕◌, ◌⊗◌, up, down, eq!, eq?}
use Rattle.integers.proofs.Floor.{mod_z-lt, div-mod, rem_is, multiple-rem, rem-multiple}
use Rattle.e8.specs.Lattice.{sum, bit, Each, TwoE8}
use Rattle.e8.specs.Rows.{add, times}

-- ---- w is 2u + b, with a witness

pub to-bit : (w u : ℤ) (b : Bool) → w ≡ pos 2 *ℤ u +ℤ pos (bit b) → mod_z w 2 ≡ bit b
to-bit w u false e = rem_is w 2 u 0 (omega arith) e
to-bit w u true e = rem_is w 2 u 1 (omega arith) e

pub of-bit : (w : ℤ) (b : Bool) → mod_z w 2 ≡ bit b → w ≡ pos 2 *ℤ shr_z w 2 +ℤ pos (bit b)
of-bit w b e = div-mod w 2 (omega arith) ∙ ap (λ (n : ℕ). pos 2 *ℤ shr_z w 2 +ℤ pos n) e

-- ---- sums of points

-- the bit of a sum, or of what is left of p where q is taken
abbrev pub rest : Bool → Bool → Bool
rest false p = p
rest true p = not p

pub carry : (q p : Bool) → (c : ℕ) × (bit (rest q p) + 2 * c ≡ bit q + bit p)
carry false p = (0, omega arith)
carry true false = (0, omega arith)
carry true true = (1, omega arith)

add-each : (b c : Bool) (ws vs : List ℤ) → Each b ws → Each c vs → Each (rest b c) (add ws vs)
add-each b c [] vs h k = tt
add-each b c (w ∷ ws) [] h k = tt
add-each b c (w ∷ ws) (v ∷ vs) h k =
    let u : ℤ = shr_z w 2 in
    let t : ℤ = shr_z v 2 in
    let e = eq? (` w) (# 2 ⊗ ` u ⊕ # (bit b)) (of-bit w b h.0) in
    let f = eq? (` v) (# 2 ⊗ ` t ⊕ # (bit c)) (of-bit v c k.0) in
    let d = carry b c in
    let g : w +ℤ v ≡ pos 2 *ℤ (u +ℤ t +ℤ pos d.0) +ℤ pos (bit (rest b c)) =
    eq! (` w ⊕ ` v) (# 2 ⊗ (` u ⊕ ` t ⊕ # d.0) ⊕ # (bit (rest b c))) (omega (arith, d.1, e, f)) in
    (to-bit (w +ℤ v) (u +ℤ t +ℤ pos d.0) (rest b c) g, add-each b c ws vs h.1 k.1)

add-sum : (ws vs : List ℤ) → length ws ≡ length vs → sum (add ws vs) ≡ sum ws +ℤ sum vs
add-sum [] [] l = refl
add-sum [] (v ∷ vs) l = absurd (omega arith)
add-sum (w ∷ ws) [] l = absurd (omega arith)
add-sum (w ∷ ws) (v ∷ vs) l = eq! (` w ⊕ ` v ⊕ ` (sum (add ws vs))) (` w ⊕ ` (sum ws) ⊕ (` v ⊕ ` (sum vs)))
    (omega (arith, eq? (` (sum (add ws vs))) (` (sum ws) ⊕ ` (sum vs)) (add-sum ws vs (omega arith))))

pub add-length : (ws vs : List ℤ) → length ws ≡ length vs → length (add ws vs) ≡ length ws
add-length [] vs l = refl
add-length (w ∷ ws) [] l = absurd (omega arith)
add-length (w ∷ ws) (v ∷ vs) l = ap suc (add-length ws vs (omega arith))

pub add-point : (ws vs : List ℤ) → length ws ≡ length vs → TwoE8 ws → TwoE8 vs → TwoE8 (add ws vs)
add-point ws vs l a b = record {
  odd = rest a.odd b.odd;
  same = add-each a.odd b.odd ws vs a.same b.same;
  four = multiple-rem (sum (add ws vs)) 4 (shr_z (sum ws) 4 +ℤ shr_z (sum vs) 4) (omega arith)
      (eq! (` (sum (add ws vs))) (# 4 ⊗ (` (shr_z (sum ws) 4) ⊕ ` (shr_z (sum vs) 4)))
      (omega (
        arith,
        eq? (` (sum (add ws vs))) (` (sum ws) ⊕ ` (sum vs)) (add-sum ws vs l),
        eq? (` (sum ws)) (# 4 ⊗ ` (shr_z (sum ws) 4)) (rem-multiple (sum ws) 4 (omega arith) a.four),
        eq? (` (sum vs)) (# 4 ⊗ ` (shr_z (sum vs) 4)) (rem-multiple (sum vs) 4 (omega arith) b.four),
      )));
}

-- ---- multiples of points

pub bool-of : (n : ℕ) → n < 2 → (q : Bool) × (n ≡ bit q)
bool-of zero h = (false, refl)
bool-of (suc zero) h = (true, refl)
bool-of (suc (suc n)) h = absurd (omega arith)

abbrev each : Bool → Bool → Bool
each false c = false
each true c = c

-- q·(2u + b) is 2·(q·u) + b·q
times-bit : (q w : ℤ) (b c : Bool) → mod_z q 2 ≡ bit c → mod_z w 2 ≡ bit b → mod_z (q *ℤ w) 2 ≡ bit (each b c)
times-bit q w false c hq hw =
    let e = eq? (` w) (# 2 ⊗ ` (shr_z w 2) ⊕ # 0) (of-bit w false hw) in
    to-bit (q *ℤ w) (q *ℤ shr_z w 2) false
    (eq! (` q ⊗ ` w) (# 2 ⊗ (` q ⊗ ` (shr_z w 2)) ⊕ # 0) (omega (arith, ap (λ (n : ℕ). up q * n) e, ap (λ (n : ℕ). down q * n) e)))
times-bit q w true c hq hw =
    let e = eq? (` w) (# 2 ⊗ ` (shr_z w 2) ⊕ # 1) (of-bit w true hw) in
    to-bit (q *ℤ w) (q *ℤ shr_z w 2 +ℤ shr_z q 2) c
    (eq! (` q ⊗ ` w) (# 2 ⊗ (` q ⊗ ` (shr_z w 2) ⊕ ` (shr_z q 2)) ⊕ # (bit c))
    (omega (arith, ap (λ (n : ℕ). up q * n) e, ap (λ (n : ℕ). down q * n) e, eq? (` q) (# 2 ⊗ ` (shr_z q 2) ⊕ # (bit c)) (of-bit q c hq))))

times-each : (q : ℤ) (b c : Bool) (ws : List ℤ) → mod_z q 2 ≡ bit c → Each b ws → Each (each b c) (times q ws)
times-each q b c [] h k = tt
times-each q b c (w ∷ ws) h k = (times-bit q w b c h k.0, times-each q b c ws h k.1)

times-sum : (q : ℤ) (ws : List ℤ) → sum (times q ws) ≡ q *ℤ sum ws
times-sum q [] = eq! (# 0) (` q ⊗ # 0) (omega arith)
times-sum q (w ∷ ws) = eq! (` q ⊗ ` w ⊕ ` (sum (times q ws))) (` q ⊗ (` w ⊕ ` (sum ws)))
    (omega (arith, eq? (` (sum (times q ws))) (` q ⊗ ` (sum ws)) (times-sum q ws)))

pub times-length : (q : ℤ) (ws : List ℤ) → length (times q ws) ≡ length ws
times-length q [] = refl
times-length q (w ∷ ws) = ap suc (times-length q ws)

pub times-point : (q : ℤ) (ws : List ℤ) → TwoE8 ws → TwoE8 (times q ws)
times-point q ws a =
    let c : (c : Bool) × (mod_z q 2 ≡ bit c) = bool-of (mod_z q 2) (mod_z-lt q 2 (omega arith)) in
    let t : ℤ = shr_z (sum ws) 4 in
    let e = eq? (` (sum ws)) (# 4 ⊗ ` t) (rem-multiple (sum ws) 4 (omega arith) a.four) in
    record {
      odd = each a.odd c.0;
      same = times-each q a.odd c.0 ws c.1 a.same;
      four = multiple-rem (sum (times q ws)) 4 (q *ℤ t) (omega arith)
          (eq! (` (sum (times q ws))) (# 4 ⊗ (` q ⊗ ` t))
          (omega (arith, eq? (` (sum (times q ws))) (` q ⊗ ` (sum ws)) (times-sum q ws), ap (λ (n : ℕ). up q * n) e, ap (λ (n : ℕ). down q * n) e)));
    }
