-- Four bytes of a number, two's complement and the bytes of coordinates: each way and back. Assumes nothing.
use Prim.Native.Nat.{ℕ, zero, suc, ◌+◌, ◌-◌, ◌*◌, ◌/◌, ◌%◌, ◌≤◌, ◌<◌}
use mathlib.Core.Path.{◌≡◌, refl, sym, ap, ap₂, ◌∙◌}
use mathlib.Core.Bool.{Bool, true, false}
use mathlib.Core.List.{List, [], ◌∷◌, ◌++◌, append_assoc}
use native.Mathlib.Nat.{mod-eq_of_lt, div-div-eq-div-mul}
use native.Mathlib.Omega.{arith}
use lib.Dec.{ltb}
use lib.IntN.{ℤ, pos, negsuc}
use lib.ListN.{length, get_or, take, drop}
use lib.Seq.{get_or-drop}
use mir.Syntax.{w32}
use mir.Val.{Fits, SFits, to_z, of_z}
use mir.Facts.{of_z-to_z}
use borrow.Author.Tests.{lt-ltb, le-ltb, ltb-true, ltb-false}
use Rattle.integers.specs.Integer.{mod_z}
use Rattle.integers.proofs.Zed.{`◌, #◌, ◌⊖◌, eq! }
use Rattle.four_bytes.specs.FourBytes.{four_bytes, of_four, four_at, twos, signed, coordinate_bytes, coordinates_from}

-- ---- four bytes

-- a number below 2^32 from its bytes
pub four-back : (w : ℕ) → w < 4294967296 → of_four (w % 256) (w / 256 % 256) (w / 65536 % 256) (w / 16777216 % 256) ≡ w
four-back w h = rw (twice, thrice) (omega arith)
  where
    twice : w / 65536 ≡ w / 256 / 256
    twice = sym (div-div-eq-div-mul w 256 256)

    thrice : w / 16777216 ≡ w / 256 / 256 / 256
    thrice = sym (div-div-eq-div-mul (w / 256) 256 256 ∙ div-div-eq-div-mul w 256 65536)

-- the bytes of a number from bytes
module _ (a b c d : ℕ) (ha : a < 256) (hb : b < 256) (hc : c < 256) (hd : d < 256) where
  pub four_below : of_four a b c d < 4294967296
  four_below = omega arith

  pub bytes_back : four_bytes (of_four a b c d) ≡ a ∷ b ∷ c ∷ d ∷ []
  unfolding four_bytes
  bytes_back =
      let q₁ : of_four a b c d / 256 ≡ b + 256 * c + 65536 * d = omega arith in
      let q₂ : of_four a b c d / 65536 ≡ c + 256 * d = omega arith in
      let q₃ : of_four a b c d / 16777216 ≡ d = omega arith in
      let e₀ : of_four a b c d % 256 ≡ a = omega arith in
      let e₁ : of_four a b c d / 256 % 256 ≡ b = rw q₁ (omega arith) in
      let e₂ : of_four a b c d / 65536 % 256 ≡ c = rw q₂ (omega arith) in
      let e₃ : of_four a b c d / 16777216 % 256 ≡ d = rw q₃ (omega arith) in
      ap₂ (λ (x : ℕ) (xs : List ℕ). x ∷ xs) e₀ (ap₂ (λ (x : ℕ) (xs : List ℕ). x ∷ xs) e₁ (ap₂ (λ (x y : ℕ). x ∷ y ∷ []) e₂ e₃))

-- ---- two's complement

pub signed_low : (w : ℕ) → w < 2147483648 → signed w ≡ pos w
unfolding signed
signed_low w h = rw (lt-ltb w 2147483648 h)

pub signed_high : (w : ℕ) → 2147483648 ≤ w → w < 4294967296 → signed w ≡ negsuc (4294967295 - w)
unfolding signed
signed_high w h l = rw (le-ltb w 2147483648 h) (eq! (# w ⊖ # 4294967296) (` (negsuc (4294967295 - w))) (omega arith))

twos-go : (w : ℕ) → w < 4294967296 → (t : Bool) → ltb w 2147483648 ≡ t → twos (signed w) ≡ w
unfolding twos
twos-go w h true e = ap (λ (z : ℤ). mod_z z 4294967296) (signed_low w (ltb-true w 2147483648 e)) ∙ mod-eq_of_lt h
twos-go w h false e = ap (λ (z : ℤ). mod_z z 4294967296) (signed_high w (ltb-false w 2147483648 e) h) ∙ omega arith

pub twos-signed : (w : ℕ) → w < 4294967296 → twos (signed w) ≡ w
twos-signed w h = twos-go w h (ltb w 2147483648) refl

pub twos-below : (z : ℤ) → twos z < 4294967296
unfolding twos
twos-below (pos n) = omega arith
twos-below (negsuc n) = omega arith

pub signed-twos : (z : ℤ) → SFits w32 z → signed (twos z) ≡ z
unfolding twos
signed-twos (pos n) f =
    let e : n % 4294967296 ≡ n = omega (arith, f.sfits) in ap signed e ∙ signed_low n (omega (arith, f.sfits))
signed-twos (negsuc n) f =
    let e : 4294967296 - suc (n % 4294967296) ≡ 4294967295 - n = omega (arith, f.sfits) in
    let b : 4294967295 - (4294967295 - n) ≡ n = omega (arith, f.sfits) in
    ap signed e ∙ signed_high (4294967295 - n) (omega (arith, f.sfits)) (omega arith) ∙ ap negsuc b

-- ---- the same as the casts of the library

pub twos-is : (z : ℤ) → SFits w32 z → twos z ≡ of_z w32 z
unfolding twos
twos-is (pos n) f = omega (arith, f.sfits)
twos-is (negsuc n) f = omega (arith, f.sfits)

pub signed-is : {z : ℤ} {w : ℕ} → Fits w32 w → SFits w32 z → z ≡ to_z w32 w → z ≡ signed w
signed-is {z} f g e = sym (signed-twos z g) ∙ ap signed (twos-is z g ∙ ap (of_z w32) e ∙ of_z-to_z f)

-- ---- the bytes of coordinates

pub length-coordinates : (n : ℕ) (s : List ℕ) → length (coordinates_from n s) ≡ n
unfolding coordinates_from
length-coordinates zero s = refl
length-coordinates (suc n) s = ap suc (length-coordinates n (drop 4 s))

pub length-bytes : (f : List ℤ) → length (coordinate_bytes f) ≡ 4 * length f
unfolding coordinate_bytes four_bytes
length-bytes [] = refl
length-bytes (z ∷ zs) = omega (arith, length-bytes zs)

-- the bytes of the coordinates and one more
pub bytes-append : (f g : List ℤ) → coordinate_bytes (f ++ g) ≡ coordinate_bytes f ++ coordinate_bytes g
unfolding coordinate_bytes
bytes-append [] g = refl
bytes-append (z ∷ zs) g = ap (λ (x : List ℕ). four_bytes (twos z) ++ x) (bytes-append zs g) ∙ sym (append_assoc (four_bytes (twos z)) (coordinate_bytes zs) (coordinate_bytes g))

-- coordinate i
pub four-drop : (s : List ℕ) (n p : ℕ) → four_at (drop n s) p ≡ four_at s (n + p)
four-drop s n p =
    ap₂ (λ (x y : ℕ). x + 16777216 * y)
    (ap₂ (λ (x y : ℕ). x + 65536 * y) (ap₂ (λ (x y : ℕ). x + 256 * y) (get_or-drop n s p 0) (further 1)) (further 2)) (further 3)
  where
    further : (i : ℕ) → get_or (drop n s) (p + i) 0 ≡ get_or s (n + p + i) 0
    further i = let e : n + (p + i) ≡ n + p + i = omega arith in get_or-drop n s (p + i) 0 ∙ ap (λ (k : ℕ). get_or s k 0) e

pub coordinate-at : (n : ℕ) (s : List ℕ) (i : ℕ) → i < n → get_or (coordinates_from n s) i (pos 0) ≡ signed (four_at s (4 * i))
unfolding coordinates_from
coordinate-at zero s i h = absurd (omega arith)
coordinate-at (suc n) s zero h = refl
coordinate-at (suc n) s (suc i) h =
    let e : 4 + 4 * i ≡ 4 * suc i = omega arith in
    coordinate-at n (drop 4 s) i (omega arith) ∙ ap signed (four-drop s 4 (4 * i) ∙ ap (four_at s) e)

-- a list of numbers in the range of 32 bits
pub record AllFit (f : List ℤ) : Type 0 where
  pub each : (i : ℕ) → SFits w32 (get_or f i (pos 0))

-- coordinates are read back from their bytes, whatever follows them
pub coordinates-back : (f : List ℤ) → AllFit f → (rest : List ℕ) → coordinates_from (length f) (coordinate_bytes f ++ rest) ≡ f
unfolding coordinates_from coordinate_bytes four_bytes
coordinates-back [] a rest = refl
coordinates-back (z ∷ zs) a rest = ap₂ (λ (x : ℤ) (xs : List ℤ). x ∷ xs)
    (ap signed (four-back (twos z) (twos-below z)) ∙ signed-twos z (a.each 0))
    (coordinates-back zs (record { each = λ i. a.each (suc i) }) rest)

-- and bytes are those of the coordinates that are read from them
pub bytes-again : (n : ℕ) (s : List ℕ) → ((j : ℕ) → get_or s j 0 < 256) → 4 * n ≤ length s → coordinate_bytes (coordinates_from n s) ≡ take (4 * n) s
unfolding coordinates_from coordinate_bytes
bytes-again zero s h l = refl
bytes-again (suc n) [] h l = absurd (omega arith)
bytes-again (suc n) (a ∷ []) h l = absurd (omega arith)
bytes-again (suc n) (a ∷ b ∷ []) h l = absurd (omega arith)
bytes-again (suc n) (a ∷ b ∷ c ∷ []) h l = absurd (omega arith)
bytes-again (suc n) (a ∷ b ∷ c ∷ d ∷ s) h l =
    let e : suc (suc (suc (suc (4 * n)))) ≡ 4 * suc n = omega arith in
    ap₂ (λ (x y : List ℕ). x ++ y)
    (ap four_bytes (twos-signed (of_four a b c d) (four_below a b c d (h 0) (h 1) (h 2) (h 3))) ∙ bytes_back a b c d (h 0) (h 1) (h 2) (h 3))
    (bytes-again n s (λ j. h (suc (suc (suc (suc j))))) (omega arith))
    ∙ ap (λ (m : ℕ). take m (a ∷ b ∷ c ∷ d ∷ s)) e
