-- An account grown by frames from the beginning holds their number and exactly the sum of their powers. Assumes nothing.
use Prim.Native.Nat.{ℕ, ◌+◌, ◌-◌, ◌*◌, ◌/◌, ◌^◌, ◌<◌, ◌≤◌}
use native.Mathlib.Nat.{mul-div_cancel, mul-le-mul_left, mul-one, add_assoc, add-zero, zero-add}
use native.Mathlib.Omega.{arith}
use mathlib.Core.Path.{◌≡◌, refl, ap, ◌∙◌}
use mathlib.Core.Bool.{false}
use mathlib.Core.List.{List, [], ◌∷◌}
use lib.IntN.{ℤ}
use lib.ListN.{length}
use lib.Pow.{pow-add, pow_pos}
use lib.Ieee.{Float, add, binary64}
use lib.Ieee.Exact.{HasValue}
use Rattle.e8.specs.Energy.{energy}
use Rattle.e8.specs.Largest.{blocks_of}
use Rattle.power_account.specs.declared.Account.{Account}
use Rattle.power_account.specs.Power.{Measured, power_of, begun, grown}
use Rattle.power_account.specs.History.{powers_in}
use Rattle.floats.proofs.Exact.{add_parts, smaller-parts, parts-exact}
use Rattle.power_account.proofs.Exact.{power-exact}

-- an account grown by frames one after the other, in the order of the list
unfoldable pub grown_by : Account → List (List ℤ) → Account
grown_by a [] = a
grown_by a (f ∷ fs) = grown_by (grown a f) fs

-- a frame of some blocks whose length is a power of two up to 2 ^ m, and whose energy is at most 2 ^ 33 in parts of 1 / 2 ^ m
pub record Countable (m : ℕ) (f : List ℤ) : Type 0 where
  pub blocks : 0 < blocks_of f
  pub exponent : ℕ
  pub short : exponent ≤ m
  pub is : length f ≡ 2 ^ exponent
  pub small : energy f * 2 ^ m ≤ 2 ^ 33

-- each frame of a list is one like that
abbrev pub AllCountable : ℕ → List (List ℤ) → Type 0
AllCountable m [] = Unit {0}
AllCountable m (f ∷ fs) = Countable m f × AllCountable m fs

-- the parts of a frame's length: 2 ^ m / n of them make 1 / n
scale : (m : ℕ) (f : List ℤ) → Countable m f → 2 ^ m / length f * length f ≡ 2 ^ m
scale m f c =
    let k : m ≡ m - c.exponent + c.exponent = split c.exponent c.short in
    let q : 2 ^ m ≡ 2 ^ (m - c.exponent) * 2 ^ c.exponent = ap (λ (j : ℕ). 2 ^ j) k ∙ pow-add 2 (m - c.exponent) c.exponent in
    rw (c.is, q, mul-div_cancel (2 ^ (m - c.exponent)) (pow_pos c.exponent))
  where
    split : (i : ℕ) → i ≤ m → m ≡ m - i + i
    split i h = omega arith

-- a counted frame has a power, in parts of 1 / 2 ^ m
counted-measured : (m : ℕ) (f : List ℤ) → m < 53 → Countable m f → Measured (energy f) (length f)
counted-measured m f h c = record {
  small = let p = mul-le-mul_left (energy f) (pow_pos m) in omega (arith, mul-one (energy f), c.small);
  exponent = c.exponent;
  short = omega (arith, c.short);
  is = c.is;
}

part_small : (m : ℕ) (f : List ℤ) → Countable m f → energy f * (2 ^ m / length f) ≤ 2 ^ 33
part_small m f c =
    let q = 2 ^ m / length f in
    let n : 1 ≤ length f = rw c.is (pow_pos c.exponent) in
    let l : q ≤ 2 ^ m = omega (arith, mul-le-mul_left q n, scale m f c) in
    omega (arith, mul-le-mul_left (energy f) l, c.small)

module _ (m : ℕ) (h : m < 53) where
  step : (x : Float) (t : ℕ) (f : List ℤ) → Countable m f → HasValue x false t (2 ^ m) → t + energy f * (2 ^ m / length f) < 2 ^ 53
      → HasValue (add binary64 x (power_of (energy f) (length f))) false (t + energy f * (2 ^ m / length f)) (2 ^ m)
  step x t f c v l =
      let e = energy f in
      let n = length f in
      let p = smaller-parts (power_of e n) false e n (2 ^ m / n) (power-exact e n (counted-measured m f h c)) in
      let q : HasValue (power_of e n) false (e * (2 ^ m / n)) (2 ^ m) = rw (scale m f c) at p in
      rw (add_parts x (power_of e n) t (e * (2 ^ m / n)) (2 ^ m) (pow_pos m) v q)
      (parts-exact (t + e * (2 ^ m / n)) m (omega arith) l)

  -- from an account whose sum is exact, by frames that keep it below 2 ^ 53 parts
  grows : (fs : List (List ℤ)) (a : Account) (t : ℕ) → AllCountable m fs → HasValue a.sum false t (2 ^ m) → t + powers_in (2 ^ m) fs < 2 ^ 53
      → ((grown_by a fs).count ≡ a.count + length fs) × HasValue (grown_by a fs).sum false (t + powers_in (2 ^ m) fs) (2 ^ m)
  unfolding grown_by powers_in
  grows [] a t c v l = (omega arith, rw add-zero v)
  grows (f ∷ fs) a t c v l =
      let part = energy f * (2 ^ m / length f) in
      let r = grows fs (grown a f) (t + part) c.1 (step a.sum t f c.0 v (omega arith)) (omega arith) in
      (omega (arith, r.0), rw add_assoc at r.1)

  total-small : (fs : List (List ℤ)) → AllCountable m fs → powers_in (2 ^ m) fs ≤ length fs * 2 ^ 33
  unfolding powers_in
  total-small [] c = omega arith
  total-small (f ∷ fs) c = omega (arith, total-small fs c.1, part_small m f c.0)

-- an account grown from the beginning by at most 1,000,000 frames, whatever its changeover: their number, and the sum of their powers, exactly
pub grown-exactly : (m changeover : ℕ) (fs : List (List ℤ)) → m < 53 → length fs ≤ 1000000 → AllCountable m fs
    → ((grown_by (begun changeover) fs).count ≡ length fs) × HasValue (grown_by (begun changeover) fs).sum false (powers_in (2 ^ m) fs) (2 ^ m)
grown-exactly m changeover fs h k c =
    let l : powers_in (2 ^ m) fs < 2 ^ 53 = omega (arith, total-small m h fs c) in
    let r = grows m h fs (begun changeover) 0 c (refl, omega arith) (omega arith) in
    (omega (arith, r.0), rw zero-add at r.1)
