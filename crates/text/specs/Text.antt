-- Text in a lent buffer of bytes, and numbers as decimal text. Clients cite Put, bytes, decimal_of and signed_of. Assumes nothing.
use Rattle.std.specs.Prelude.{ℕ, zero, suc, ◌+◌, ◌/◌, ◌%◌, ◌≡◌, cond, List, [], ◌∷◌, ◌++◌, ltb, ℤ, pos, negsuc, length, take, drop}
use Prim.Native.Char.{code}
use Prim.Native.String.{String, [] as []ˢ, ◌∷◌ as ◌∷ˢ◌}

-- the buffer o with the text s from place a on, every other byte as it was
unfoldable pub written : List ℕ → ℕ → List ℕ → List ℕ
written o a s = take a o ++ s ++ drop (a + length s) o

-- what putting the text s into the buffer o₀ at place a gives: r is the place after the text, o the buffer
pub record Put (o₀ : List ℕ) (a : ℕ) (s : List ℕ) (r : ℕ) (o : List ℕ) : Type 0 where
  pub after : r ≡ a + length s
  pub text : o ≡ written o₀ a s

-- a text as bytes
unfoldable pub bytes : String → List ℕ
bytes []ˢ = []
bytes (c ∷ˢ s) = code c ∷ bytes s

-- the decimal digits of n, of which there are at most f: no leading zeros, and 0 is the digit 0 (byte 48)
unfoldable pub digits_of : ℕ → ℕ → List ℕ
digits_of zero n = []
digits_of (suc f) n = cond (ltb n 10) ((48 + n) ∷ []) (digits_of f (n / 10) ++ ((48 + n % 10) ∷ []))

-- a number below 10 ^ 20, as every u64 is, in decimal
unfoldable pub decimal_of : ℕ → List ℕ
unfolding digits_of
decimal_of n = digits_of 20 n

-- an integer in decimal, with a minus sign (byte 45) where it is negative: negsuc n is −1 − n
unfoldable pub signed_of : ℤ → List ℕ
unfolding decimal_of
signed_of (pos n) = decimal_of n
signed_of (negsuc n) = 45 ∷ decimal_of (suc n)
