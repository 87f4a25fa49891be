-- Laws of decimal text. Assumes nothing.
use Prim.Native.Nat.{ℕ, zero, suc, ◌+◌, ◌-◌, ◌*◌, ◌/◌, ◌%◌, ◌^◌, ◌≤◌, ◌<◌}
use native.Mathlib.Nat.{pow-suc, pow-le-pow_right}
use native.Mathlib.Omega.{arith}
use mathlib.Core.Path.{◌≡◌, refl}
use mathlib.Core.Bool.{cond, true, false, Bool}
use mathlib.Core.List.{[], ◌∷◌, ◌++◌}
use lib.Dec.{ltb, leb, lit<}
use lib.IntN.{ℤ, pos, negsuc, nat_abs}
use lib.ListN.{length, length-append}
use lib.Signed.{lt_z}
use borrow.Author.Tests.{lt-ltb, le-ltb, ltb-true, ltb-false, leb-true, leb-false}
use Rattle.io.specs.Digits.{last_digits, hex_digit_ascii, IsDigitCount}
use Rattle.text.specs.Text.{digits_of, decimal_of, signed_of}

glyph-is : (d : ℕ) → d < 10 → hex_digit_ascii d ≡ 48 + d
glyph-is d h = simp (lt-ltb d 10 h)

pow-pos-ten : (k : ℕ) → 0 < 10 ^ k
pow-pos-ten zero = lit< tt
pow-pos-ten (suc k) = omega (arith, pow-suc 10 k, pow-pos-ten k)

-- the digits that `io` gives, as few as there can be, are these
few-digits : (f k n : ℕ) → k ≤ f → IsDigitCount 10 1 n k → last_digits 10 k n ≡ digits_of f n
unfolding digits_of
few-digits f zero n h w = absurd (omega (arith, w.0))
few-digits zero (suc k) n h w = absurd (omega arith)
few-digits (suc f) (suc zero) n h w =
    let l : n < 10 = w.1 in
    let m : n % 10 ≡ n = omega arith in
    simp (lt-ltb n 10 l, m)
few-digits (suc f) (suc (suc k)) n h w =
    let e : suc (suc k) - 1 ≡ suc k = omega arith in
    let e' : suc k - 1 ≡ k = omega arith in
    let g : 10 ^ suc k ≤ n = rw e at (w.2 (omega arith)) in
    let p1 : 10 ^ suc k ≡ 10 ^ k * 10 = pow-suc 10 k in
    let p2 : 10 ^ suc (suc k) ≡ 10 ^ suc k * 10 = pow-suc 10 (suc k) in
    let p0 : 0 < 10 ^ k = pow-pos-ten k in
    let l : 10 ≤ n = omega arith in
    let d : n % 10 < 10 = omega arith in
    let ih = few-digits f (suc k) (n / 10) (omega arith) (omega arith, omega (arith, w.1), λ q. rw e' (omega arith)) in
    simp (le-ltb n 10 l, glyph-is (n % 10) d, ih)

-- a number below 2 ^ 64 has at most 20 digits
few-twenty : (n k : ℕ) → n < 2 ^ 64 → IsDigitCount 10 1 n k → k ≤ 20
few-twenty n k h w = go (leb k 20) refl
  where
    go : (t : Bool) → leb k 20 ≡ t → k ≤ 20
    go true e = leb-true k 20 e
    go false e =
        let g : 20 < k = leb-false k 20 e in
        let p : 10 ^ 20 ≤ 10 ^ (k - 1) = pow-le-pow_right (lit< tt) {i = 20} {j = k - 1} (omega arith) in
        let q : 10 ^ (k - 1) ≤ n = w.2 (omega arith) in
        omega arith

pub decimal-is : (n k : ℕ) → n < 2 ^ 64 → IsDigitCount 10 1 n k → last_digits 10 k n ≡ decimal_of n
unfolding decimal_of
decimal-is n k h w = few-digits 20 k n (few-twenty n k h w) w

-- a number below 10 ^ k has at most k digits
length_digits : (f k n : ℕ) → n < 10 ^ suc k → length (digits_of f n) ≤ suc k
unfolding digits_of
length_digits zero k n h = omega arith
length_digits (suc f) k n h = go k h (λ j. length_digits f j (n / 10)) (ltb n 10) refl
  where
    go : (k : ℕ) → n < 10 ^ suc k → ((j : ℕ) → n / 10 < 10 ^ suc j → length (digits_of f (n / 10)) ≤ suc j) → (t : Bool) → ltb n 10 ≡ t
        → length (cond t ((48 + n) ∷ []) (digits_of f (n / 10) ++ ((48 + n % 10) ∷ []))) ≤ suc k
    go k h ih true e = omega arith
    go zero h ih false e = absurd (omega (arith, ltb-false n 10 e))
    go (suc k) h ih false e = simp length-append (omega (arith, ih k (omega (arith, pow-suc 10 (suc k)))))

pub length-decimal : (k n : ℕ) → n < 10 ^ suc k → length (decimal_of n) ≤ suc k
unfolding decimal_of
length-decimal k n h = length_digits 20 k n h

-- and a sign, where it is negative
pub length-signed : (k : ℕ) (z : ℤ) → nat_abs z < 10 ^ suc k → length (signed_of z) ≤ suc (suc k)
unfolding signed_of
length-signed k (pos n) h = omega (arith, length-decimal k n h)
length-signed k (negsuc n) h = omega (arith, length-decimal k (suc n) h)

pub signed-neg : (z : ℤ) → lt_z z (pos 0) ≡ true → signed_of z ≡ 45 ∷ decimal_of (nat_abs z)
unfolding signed_of
signed-neg (pos n) l = absurd (omega (arith, ltb-true n 0 l))
signed-neg (negsuc n) l = refl

pub signed-pos : (z : ℤ) → lt_z z (pos 0) ≡ false → signed_of z ≡ decimal_of (nat_abs z)
unfolding signed_of
signed-pos (pos n) l = refl
signed-pos (negsuc n) l = let z : ◌≡◌ {A = ℕ} 0 1 = cc in absurd (omega arith)
