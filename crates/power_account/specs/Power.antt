-- Power and the account, as document 01 has them, with the largest block of request E2 and the changeover of request E5. Clients cite power_of, begun,
-- full and grown; Measured and grown_with are cited by `power` and `grow`. Assumes nothing.
use Rattle.std.specs.Prelude.{ℕ, max, ◌+◌, ◌^◌, ◌<◌, ◌≡◌, Bool, false, List, leb, ℤ, pos, length, Float}
use Rattle.std.specs.Float.{fin, binary64}
use Rattle.std.specs.Float.Ieee.{add, div, of_int}
use Rattle.e8.specs.Energy.{energy}
use Rattle.e8.specs.Largest.{largest_block}
use Rattle.power_account.specs.declared.Account.{Account}

-- an energy that f64 holds as a whole number, and a length n that is a power of two, as every frame's is
pub record Measured (energy n : ℕ) : Type 0 where
  pub small : energy < 2 ^ 53
  pub exponent : ℕ
  pub short : exponent < 53
  pub is : n ≡ 2 ^ exponent

-- power: the energy divided by n, as f64
unfoldable pub power_of : ℕ → ℕ → Float
power_of energy n = div binary64 (of_int binary64 (pos energy)) (of_int binary64 (pos n))

-- an account begins at 0 and 0.0, with 0 for the largest block, and with its changeover
abbrev pub begun : ℕ → Account
begun changeover = record { count = 0; sum = fin false 0 (pos 0); largest = 0; changeover = changeover }

-- it is full at 1,000,000 frames
abbrev pub full : Account → Bool
full a = leb 1000000 a.count

-- grown by a frame of an energy, a length n and a largest block energy: one more in the count, one f64 addition of the power to the sum,
-- and the larger of the old figure and the frame's largest block; the changeover stays
abbrev pub grown_with : Account → ℕ → ℕ → ℕ → Account
grown_with a energy n largest = record {
  count = a.count + 1;
  sum = add binary64 a.sum (power_of energy n);
  largest = max a.largest largest;
  changeover = a.changeover;
}

-- grown by a frame
abbrev pub grown : Account → List ℤ → Account
grown a f = grown_with a (energy f) (length f) (largest_block f)
