-- Samples as f32 (request E6): "each a whole number of 256ths from −128 to 128". A finite value is ± m · 2^e, and 2^e is the fraction up e / down e.
-- Assumes nothing.
use Rattle.std.specs.Prelude.{ℕ, ◌*◌, ◌/◌, ◌%◌, ◌≤◌, ◌≡◌, Bool, true, false, ◌&&◌, cond, List, [], ◌∷◌, map, eqb, leb, ℤ, pos, neg_ℤ, Float}
use Rattle.std.specs.Float.{nan, inf, fin, binary32}
use Rattle.std.specs.Float.Ieee.{up, down, of_int}
use Rattle.std.specs.Float.Ieee.Exact.{HasValue}

-- a number, at most 128 in size, and a whole number of 256ths
unfoldable pub is_fit : Float → Bool
is_fit nan = false
is_fit (inf s) = false
is_fit (fin s m e) = leb (m * up e) (128 * down e) && eqb (256 * (m * up e) % down e) 0

-- n or, with the sign, −n
abbrev pub signed : Bool → ℕ → ℤ
signed s n = cond s (neg_ℤ (pos n)) (pos n)

-- how many 256ths a fit sample is
unfoldable pub sample_in_256ths : Float → ℤ
sample_in_256ths nan = pos 0
sample_in_256ths (inf s) = pos 0
sample_in_256ths (fin s m e) = signed s (256 * (m * up e) / down e)

-- every sample is fit
unfoldable pub all_fit : List Float → Bool
unfolding is_fit
all_fit [] = true
all_fit (x ∷ xs) = is_fit x && all_fit xs

-- all samples, in 256ths
unfoldable pub samples_in_256ths : List Float → List ℤ
unfolding sample_in_256ths
samples_in_256ths xs = map sample_in_256ths xs

-- the coordinates of a frame as f32: the samples of a frame without noise
unfoldable pub samples_of : List ℤ → List Float
samples_of f = map (λ z. of_int binary32 z) f

-- what is_fit and sample_in_256ths say of a sample x, by its value: x is fit exactly where its value is ± t / 256 for some t of at most 32,768, and then it is
-- ± t 256ths
pub record FitByValue (x : Float) : Type 0 where
  pub sign : is_fit x ≡ true → Bool
  pub size : is_fit x ≡ true → ℕ
  pub small : (fit : is_fit x ≡ true) → size fit ≤ 32768
  pub value : (fit : is_fit x ≡ true) → HasValue x (sign fit) (size fit) 256
  pub counted : (fit : is_fit x ≡ true) → sample_in_256ths x ≡ signed (sign fit) (size fit)
  pub fits : (s : Bool) (t : ℕ) → t ≤ 32768 → HasValue x s t 256 → is_fit x ≡ true
