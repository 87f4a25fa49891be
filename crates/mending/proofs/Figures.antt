-- The figures of a rounded block: one coordinate more, as the code takes it, and how large they are
use mathlib.Core.Path.{◌≡◌, refl, sym, ◌∙◌, ap, ap₂, transport}
use mathlib.Core.Bool.{Bool, true, false, cond}
use mathlib.Core.List.{List, [], ◌∷◌}
use Prim.Native.Nat.{ℕ, zero, suc, ◌*◌, ◌^◌, ◌<◌, ◌≤◌}
use native.Mathlib.Omega.{arith}
use lib.Dec.{eqb}
use lib.ListN.{length, drop, get_or, set}
use lib.Seq.{drop-cons}
use lib.IntN.{ℤ, pos, ◌+ℤ◌, ◌-ℤ◌, nat_abs}
use lib.Signed.{lt_z}
use Rattle.integers.specs.Integer.{mod_z}
use Rattle.integers.proofs.Zed.{`◌, #◌, ◌⊕◌, ◌⊖◌, eq! }
use Rattle.integers.proofs.Floor.{mod_z-lt}
use Rattle.e8.specs.Energy.{Within}
use Rattle.e8.specs.Least.{cent}
use Rattle.e8.proofs.Cent.{range-abs, cent-range}
use Rattle.coordinates.proofs.Size.{sum-abs, less-abs}
use Rattle.coordinates.proofs.Rest.{Scale}
use Rattle.mending.specs.Rounded.{across, rank_of, rounded, off, floors, sizes, members}

-- ---- one coordinate more

pub pos-where : (t : Bool) (a b : ℕ) → cond t (pos a) (pos b) ≡ pos (cond t a b)
pos-where true a b = refl
pos-where false a b = refl

drop-set : (rs : List ℤ) (i : ℕ) (c : ℤ) → i < length rs → drop i (set rs i c) ≡ c ∷ drop (suc i) rs
drop-set [] i c h = absurd (omega arith)
drop-set (r ∷ rs) zero c h = refl
drop-set (r ∷ rs) (suc i) c h = drop-set rs i c (omega arith)

-- rs is xs rounded, and the sums are its own
pub record Summed (H : ℕ) (xs rs : List ℤ) (sum halves total : ℤ) : Type 0 where
  pub block : rs ≡ rounded H xs
  pub whole : sum ≡ off H xs
  pub half : halves ≡ floors H xs
  pub size : total ≡ pos (sizes rs)

summed-more : (H : ℕ) (xs rs : List ℤ) (s t n z c s' t' n' : ℤ) → c ≡ cent H z
    → s' ≡ s +ℤ (z -ℤ c) → t' ≡ t +ℤ (z -ℤ pos (mod_z z (2 * H))) → n' ≡ n +ℤ pos (nat_abs c) → Summed H xs rs s t n → Summed H (z ∷ xs) (c ∷ rs) s' t' n'
summed-more H xs rs s t n z c s' t' n' hc hs ht hn r = record {
  block = ap₂ ◌∷◌ hc r.block;
  whole = hs ∙ ap₂ (λ a b. a +ℤ (z -ℤ b)) r.whole hc;
  half = ht ∙ ap (λ (a : ℤ). a +ℤ (z -ℤ pos (mod_z z (2 * H)))) r.half;
  size = hn ∙ ap (λ (a : ℤ). a +ℤ pos (nat_abs c)) r.size;
}

-- as the code takes it
pub summed_turn : (H : ℕ) (x r : List ℤ) (s t n z c s' t' n' : ℤ) (i j : ℕ)
    → i ≡ suc j → i ≤ 8 → length x ≡ 8 → length r ≡ 8 → z ≡ get_or x j (pos 0)
    → c ≡ cent H z → s' ≡ s +ℤ (z -ℤ c) → t' ≡ t +ℤ (z -ℤ pos (mod_z z (2 * H))) → n' ≡ n +ℤ pos (nat_abs c)
    → Summed H (drop i x) (drop i r) s t n → Summed H (drop j x) (drop j (set r j c)) s' t' n'
summed_turn H x r s t n z c s' t' n' i j hi k lx lr hz hc hs ht hn q =
    let ex : z ∷ drop (suc j) x ≡ drop j x = ap (λ (y : ℤ). y ∷ drop (suc j) x) hz ∙ sym (drop-cons x j (pos 0) (omega arith)) in
    let er : c ∷ drop (suc j) r ≡ drop j (set r j c) = sym (drop-set r j c (omega arith)) in
    transport (λ m. Summed H (ex m) (er m) s' t' n')
    (summed-more H (drop (suc j) x) (drop (suc j) r) s t n z c s' t' n' hc hs ht hn
    (transport (λ m. Summed H (drop (hi m) x) (drop (hi m) r) s t n) q))

-- what comes off a coordinate, by the multiple of M next below x + H
pub off-floor : (H m : ℕ) (x : ℤ) → m ≡ 2 * H → x +ℤ pos H -ℤ pos (mod_z (x +ℤ pos H) m) ≡ x -ℤ cent H x
unfolding cent
off-floor H m x e =
    let r : ℕ = mod_z (x +ℤ pos H) (2 * H) in
    ap (λ (n : ℕ). x +ℤ pos H -ℤ pos (mod_z (x +ℤ pos H) n)) e ∙ eq! (` x ⊕ # H ⊖ # r) (` x ⊖ (# r ⊖ # H)) (omega arith)

pub back : (x c : ℤ) → x -ℤ (x -ℤ c) ≡ c
back x c = eq! (` x ⊖ (` x ⊖ ` c)) (` c) (omega arith)

-- one of two numbers
pub either : (t : Bool) (x y : ℤ) (B : ℕ) → nat_abs x ≤ B → nat_abs y ≤ B → nat_abs (cond t x y) ≤ B
either true x y B h k = h
either false x y B h k = k

-- ---- how large the coordinates of a candidate are

across-size : (m c : ℤ) → nat_abs m ≤ 2 ^ 7 → nat_abs c ≤ 2 ^ 7 → nat_abs (across m c) ≤ 2 ^ 8
across-size m c h k = either (lt_z c (pos 0)) (c +ℤ m) (c -ℤ m) (2 ^ 8) (sum-abs c m (2 ^ 7) (2 ^ 7) k h) (less-abs c m (2 ^ 7) (2 ^ 7) k h)

pub members-within : (at elsewhere : ℤ) (t i : ℕ) (cs : List ℤ) → nat_abs at ≤ 2 ^ 7 → nat_abs elsewhere ≤ 2 ^ 7 → Within (2 ^ 7) cs
    → Within (2 ^ 8) (members at elsewhere t i cs)
members-within at elsewhere t i [] a b w = tt
members-within at elsewhere t i (c ∷ cs) a b w = (
  across-size (cond (eqb (rank_of c i) t) at elsewhere) c (either (eqb (rank_of c i) t) at elsewhere (2 ^ 7) a b) w.0,
  members-within at elsewhere t (suc i) cs a b w.1,
)

-- ---- how large the figures are, at a scale that the code takes

module _ {H : ℕ} (s : Scale H) where
  pub cent-low : (x : ℤ) → nat_abs (cent H x) ≤ 2 ^ 6
  cent-low x = omega (arith, range-abs H (cent H x) (cent-range H x s.some), s.small)

  pub off-one : (x : ℤ) → nat_abs x ≤ 2 ^ 24 → nat_abs (x -ℤ cent H x) ≤ 2 ^ 25
  off-one x l = omega (arith, less-abs x (cent H x) (2 ^ 24) (2 ^ 6) l (cent-low x))

  pub floor-one : (x : ℤ) → nat_abs x ≤ 2 ^ 24 → nat_abs (x -ℤ pos (mod_z x (2 * H))) ≤ 2 ^ 25
  floor-one x l =
      let m : mod_z x (2 * H) ≤ 2 ^ 7 = omega (arith, mod_z-lt x (2 * H) (omega (arith, s.some)), s.small) in
      omega (arith, less-abs x (pos (mod_z x (2 * H))) (2 ^ 24) (2 ^ 7) l m)

  pub off-size : (xs : List ℤ) → Within (2 ^ 24) xs → nat_abs (off H xs) ≤ length xs * 2 ^ 25
  off-size [] w = omega arith
  off-size (x ∷ xs) w = omega (arith, sum-abs (off H xs) (x -ℤ cent H x) (length xs * 2 ^ 25) (2 ^ 25) (off-size xs w.1) (off-one x w.0))

  pub floors-size : (xs : List ℤ) → Within (2 ^ 24) xs → nat_abs (floors H xs) ≤ length xs * 2 ^ 25
  floors-size [] w = omega arith
  floors-size (x ∷ xs) w =
      let d : ℤ = x -ℤ pos (mod_z x (2 * H)) in
      omega (arith, sum-abs (floors H xs) d (length xs * 2 ^ 25) (2 ^ 25) (floors-size xs w.1) (floor-one x w.0))

  pub sizes-low : (xs : List ℤ) → sizes (rounded H xs) ≤ length xs * 2 ^ 6
  sizes-low [] = omega arith
  sizes-low (x ∷ xs) = omega (arith, sizes-low xs, cent-low x)

  pub rounded-within : (xs : List ℤ) → Within (2 ^ 7) (rounded H xs)
  rounded-within [] = tt
  rounded-within (x ∷ xs) = (omega (arith, cent-low x), rounded-within xs)
