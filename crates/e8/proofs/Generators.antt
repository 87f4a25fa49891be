-- The rows of matrix (39), scaled, generate exactly the scaled lattice: whole combinations of them are its points, and each point is one.
-- A point reduced by the rows leaves 0, since 0 is in range and in its class; so it is the combination that was taken off
use mathlib.Core.Path.{◌≡◌, refl, sym, ◌∙◌, ap, subst}
use mathlib.Core.Bool.{Bool, true, false, ◌&&◌, ◌||◌}
use mathlib.Core.List.{List, [], ◌∷◌, map}
use Prim.Native.Nat.{ℕ, zero, suc, ◌*◌, ◌<◌, ◌%◌}
use native.Mathlib.Omega.{arith}
use borrow.Author.Tests.{eqb-true}
use lib.Dec.{eqb}
use lib.ListN.{length, get_or}
use lib.IntN.{ℤ, pos, ◌+ℤ◌, ◌-ℤ◌, ◌*ℤ◌, nat_abs}
use lib.Signed.{shr_z}
use Rattle.integers.specs.Integer.{mod_z}
use Rattle.integers.proofs.Zed.{`◌, #◌, ◌⊕◌, ◌⊖◌, ◌⊗◌, eq!, eq?}
use Rattle.e8.specs.Lattice.{sum, bit, Each, TwoE8, moved, InBlock}
use Rattle.e8.specs.Rows.{ints, times, add, matrix, rows, combination, taken_off, reduced_by, reduced, Ranged}
use Rattle.e8.proofs.Points.{add-length, add-point, times-length, times-point}
use Rattle.e8.proofs.Group.{block-sym, block-trans}
use Rattle.e8.proofs.Rows.{ints-length, reduced-in, reduced-ranged, ranged-unique}
use Rattle.e8.proofs.Reduction.{of-eight, reduced-rows}
use Rattle.e8.proofs.Within.{and_both}

-- v is h times a point of 2·E8
pub record Point (h : ℕ) (v : List ℤ) : Type 0 where
  pub ws : List ℤ
  pub long : length ws ≡ 8
  pub is : v ≡ times (pos h) ws
  pub point : TwoE8 ws

abbrev none : List ℤ
none = ints (0 ∷ 0 ∷ 0 ∷ 0 ∷ 0 ∷ 0 ∷ 0 ∷ 0 ∷ [])

-- ---- each row is a point, by a test

abbrev each_is : ℕ → List ℕ → Bool
each_is r [] = true
each_is r (n ∷ ns) = eqb (n % 2) r && each_is r ns

abbrev is_point : List ℕ → Bool
is_point row = (each_is 0 row || each_is 1 row) && (eqb (mod_z (sum (ints row)) 4) 0 && eqb (length row) 8)

abbrev are_points : List (List ℕ) → Bool
are_points [] = true
are_points (row ∷ rest) = is_point row && are_points rest

each-is : (b : Bool) (row : List ℕ) → each_is (bit b) row ≡ true → Each b (ints row)
each-is b [] e = tt
each-is b (n ∷ ns) e = let t = and_both (eqb (n % 2) (bit b)) (each_is (bit b) ns) e in (eqb-true (n % 2) (bit b) t.0, each-is b ns t.1)

row-point : (h : ℕ) (row : List ℕ) → is_point row ≡ true → Point h (times (pos h) (ints row))
row-point h row e =
    let t = and_both (each_is 0 row || each_is 1 row) (eqb (mod_z (sum (ints row)) 4) 0 && eqb (length row) 8) e in
    let u = and_both (eqb (mod_z (sum (ints row)) 4) 0) (eqb (length row) 8) t.1 in
    let f = eqb-true (mod_z (sum (ints row)) 4) 0 u.0 in
    record { ws = ints row; long = ints-length row ∙ eqb-true (length row) 8 u.1; is = refl; point = go f (each_is 0 row) refl t.0 }
  where
    go : mod_z (sum (ints row)) 4 ≡ 0 → (s : Bool) → each_is 0 row ≡ s → (s || each_is 1 row) ≡ true → TwoE8 (ints row)
    go f true d e = record { odd = false; same = each-is false row d; four = f }
    go f false d e = record { odd = true; same = each-is true row e; four = f }

abbrev Points : ℕ → List (List ℤ) → Type 0
Points h [] = Unit {0}
Points h (r ∷ rs) = Point h r × Points h rs

all-points : (h : ℕ) (ms : List (List ℕ)) → are_points ms ≡ true → Points h (map (λ row. times (pos h) (ints row)) ms)
all-points h [] e = tt
all-points h (row ∷ ms) e = let t = and_both (is_point row) (are_points ms) e in (row-point h row t.0, all-points h ms t.1)

rows-points : (h : ℕ) → Points h (rows h)
rows-points h = all-points h matrix refl

-- ---- every combination is a point

times-times : (h : ℕ) (q : ℤ) (ws : List ℤ) → times q (times (pos h) ws) ≡ times (pos h) (times q ws)
times-times h q [] = refl
times-times h q (w ∷ ws) = cc (eq! (` q ⊗ (# h ⊗ ` w)) (# h ⊗ (` q ⊗ ` w)) (omega arith), times-times h q ws)

times-add : (h : ℕ) (ws vs : List ℤ) → add (times (pos h) ws) (times (pos h) vs) ≡ times (pos h) (add ws vs)
times-add h [] vs = refl
times-add h (w ∷ ws) [] = refl
times-add h (w ∷ ws) (v ∷ vs) = cc (eq! (# h ⊗ ` w ⊕ # h ⊗ ` v) (# h ⊗ (` w ⊕ ` v)) (omega arith), times-add h ws vs)

times_none : (h : ℕ) → times (pos h) none ≡ none
times_none h = cc (eq! (# h ⊗ # 0) (# 0) (omega arith))

zero-point : (h : ℕ) → Point h none
zero-point h = subst (Point h) (times_none h) (row-point h (0 ∷ 0 ∷ 0 ∷ 0 ∷ 0 ∷ 0 ∷ 0 ∷ 0 ∷ []) refl)

combined : (h : ℕ) (qs : List ℤ) (rs : List (List ℤ)) → Points h rs → Point h (combination qs rs)
combined h [] rs ps = zero-point h
combined h (q ∷ qs) [] ps = zero-point h
combined h (q ∷ qs) (r ∷ rs) ps =
    let a : Point h r = ps.0 in
    let b : Point h (combination qs rs) = combined h qs rs ps.1 in
    let l : length (times q a.ws) ≡ length b.ws = times-length q a.ws ∙ a.long ∙ sym b.long in
    record {
      ws = add (times q a.ws) b.ws;
      long = add-length (times q a.ws) b.ws l ∙ times-length q a.ws ∙ a.long;
      is = cc (a.is, b.is, times-times h q a.ws, times-add h (times q a.ws) b.ws);
      point = add-point (times q a.ws) b.ws l (times-point q a.ws a.point) b.point;
    }

pub combination-point : (h : ℕ) (qs : List ℤ) → Point h (combination qs (rows h))
combination-point h qs = combined h qs (rows h) (rows-points h)

-- ---- what a reduction takes off is a combination, whatever the rows

add_none : (xs : List ℤ) → length xs ≡ 8 → add none xs ≡ xs
add_none = of-eight (λ xs. add none xs ≡ xs)
    (λ a b c d e f g k. cc (nothing a, nothing b, nothing c, nothing d, nothing e, nothing f, nothing g, nothing k))
  where
    nothing : (x : ℤ) → pos 0 +ℤ x ≡ x
    nothing x = eq! (# 0 ⊕ ` x) (` x) (omega arith)

add_comm : (xs ys : List ℤ) → add xs ys ≡ add ys xs
add_comm [] [] = refl
add_comm [] (y ∷ ys) = refl
add_comm (x ∷ xs) [] = refl
add_comm (x ∷ xs) (y ∷ ys) = cc (eq! (` x ⊕ ` y) (` y ⊕ ` x) (omega arith), add_comm xs ys)

-- q times a row added and taken off again
put_back : (q : ℤ) (rs cs zs xs : List ℤ) → length rs ≡ length xs → taken_off q rs xs ≡ add cs zs → xs ≡ add (add (times q rs) cs) zs
put_back q [] cs zs [] l e = refl
put_back q [] cs zs (x ∷ xs) l e = absurd (omega arith)
put_back q (r ∷ rs) cs zs [] l e = absurd (omega arith)
put_back q (r ∷ rs) [] zs (x ∷ xs) l e = absurd (omega (arith, ap length e))
put_back q (r ∷ rs) (c ∷ cs) [] (x ∷ xs) l e = absurd (omega (arith, ap length e))
put_back q (r ∷ rs) (c ∷ cs) (z ∷ zs) (x ∷ xs) l e =
    let d : x -ℤ q *ℤ r ≡ c +ℤ z = cc in
    let f : taken_off q rs xs ≡ add cs zs = cc in
    let g : x ≡ q *ℤ r +ℤ c +ℤ z = eq! (` x) (` q ⊗ ` r ⊕ ` c ⊕ ` z) (omega (arith, eq? (` x ⊖ ` q ⊗ ` r) (` c ⊕ ` z) d)) in
    cc (g, put_back q rs cs zs xs (omega arith) f)

off-length : (q : ℤ) (rs xs : List ℤ) → length rs ≡ length xs → length (taken_off q rs xs) ≡ length xs
off-length q [] xs l = omega arith
off-length q (r ∷ rs) [] l = absurd (omega arith)
off-length q (r ∷ rs) (x ∷ xs) l = ap suc (off-length q rs xs (omega arith))

record Off (i : ℕ) (rs : List (List ℤ)) (xs : List ℤ) : Type 0 where
  qs : List ℤ
  long : length qs ≡ length rs
  is : xs ≡ add (combination qs rs) (reduced_by i rs xs)

point-length : (h : ℕ) (v : List ℤ) → Point h v → length v ≡ 8
point-length h v p = ap length p.is ∙ times-length (pos h) p.ws ∙ p.long

off : (h i : ℕ) (rs : List (List ℤ)) (xs : List ℤ) → Points h rs → length xs ≡ 8 → Off i rs xs
unfolding reduced_by
off h i [] xs ps l = record { qs = []; long = refl; is = sym (add_none xs l) }
off h i (r ∷ rs) xs ps l =
    let q : ℤ = shr_z (get_or xs i (pos 0)) (nat_abs (get_or r i (pos 0))) in
    let k : length r ≡ length xs = point-length h r ps.0 ∙ sym l in
    let o : Off (suc i) rs (taken_off q r xs) = off h (suc i) rs (taken_off q r xs) ps.1 (off-length q r xs k ∙ l) in
    record {
      qs = q ∷ o.qs;
      long = ap suc o.long;
      is = put_back q r (combination o.qs rs) (reduced_by (suc i) rs (taken_off q r xs)) xs k o.is;
    }

-- ---- every point is a combination

pub record Combined (h : ℕ) (v : List ℤ) : Type 0 where
  pub qs : List ℤ
  pub long : length qs ≡ 8
  pub is : v ≡ combination qs (rows h)

cancelled : (h : ℕ) (ws : List ℤ) → length ws ≡ 8 → none ≡ moved h (times (pos h) ws) ws
cancelled h = of-eight (λ ws. none ≡ moved h (times (pos h) ws) ws)
    (λ a b c d e f g k. cc (gone a, gone b, gone c, gone d, gone e, gone f, gone g, gone k))
  where
    gone : (w : ℤ) → pos 0 ≡ pos h *ℤ w -ℤ pos h *ℤ w
    gone w = eq! (# 0) (# h ⊗ ` w ⊖ # h ⊗ ` w) (omega arith)

-- a point leaves 0
reduced-none : (h : ℕ) (ws : List ℤ) → 0 < h → length ws ≡ 8 → TwoE8 ws → ints (reduced h (times (pos h) ws)) ≡ none
reduced-none h ws p l t =
    let v : List ℤ = times (pos h) ws in
    let n : length v ≡ 8 = times-length (pos h) ws ∙ l in
    let c : InBlock h v none = record { ws = ws; long = l ∙ sym n; is = cancelled h ws l; point = t } in
    let d : InBlock h (ints (reduced h v)) none = block-trans h (ints (reduced h v)) v none (block-sym h v (ints (reduced h v)) (reduced-in h 1 v p n)) c in
    sym (ap ints (ranged-unique h (reduced h v) (0 ∷ 0 ∷ 0 ∷ 0 ∷ 0 ∷ 0 ∷ 0 ∷ 0 ∷ []) (reduced-ranged h v p (omega arith)) zeros d))
  where
    z : 0 < 2 * h
    z = omega arith

    zeros : Ranged h (0 ∷ 0 ∷ 0 ∷ 0 ∷ 0 ∷ 0 ∷ 0 ∷ 0 ∷ [])
    zeros = (p, (z, (z, (z, (z, (z, (z, omega arith)))))))

-- of h = 0 each combination is 0
nothing : (ws : List ℤ) → length ws ≡ 8 → times (pos 0) ws ≡ none
nothing = of-eight (λ ws. times (pos 0) ws ≡ none) (λ a b c d e f g k. cc (gone a, gone b, gone c, gone d, gone e, gone f, gone g, gone k))
  where
    gone : (w : ℤ) → pos 0 *ℤ w ≡ pos 0
    gone w = eq! (# 0 ⊗ ` w) (# 0) (omega arith)

pub point-combined : (h : ℕ) (ws : List ℤ) → length ws ≡ 8 → TwoE8 ws → Combined h (times (pos h) ws)
point-combined zero ws l t = record { qs = none; long = refl; is = nothing ws l }
point-combined (suc h) ws l t =
    let v : List ℤ = times (pos (suc h)) ws in
    let n : length v ≡ 8 = times-length (pos (suc h)) ws ∙ l in
    let o : Off 0 (rows (suc h)) v = off (suc h) 0 (rows (suc h)) v (rows-points (suc h)) n in
    let e : reduced_by 0 (rows (suc h)) v ≡ none = sym (reduced-rows (suc h) (omega arith) v n) ∙ reduced-none (suc h) ws (omega arith) l t in
    let c : List ℤ = combination o.qs (rows (suc h)) in
    record {
      qs = o.qs;
      long = o.long;
      is = o.is ∙ ap (add c) e ∙ add_comm c none ∙ add_none c (point-length (suc h) c (combination-point (suc h) o.qs));
    }
