-- What can be said of bytes that are read from a file, whatever stands there. Assumes nothing.
use Rattle.std.specs.Prelude.{ℕ, ◌≤◌, ◌<◌, ◌≡◌, Bool, true, List, length, drop}

-- the first n of the lent bytes read over: true only where there is room for them; the bytes from n on stay, and without room all do
pub record ReadOver (n : ℕ) (lent : List ℕ) (read : Bool) (left : List ℕ) : Type 0 where
  pub as_long : length left ≡ length lent
  pub behind : drop n left ≡ drop n lent
  pub room : read ≡ true → n ≤ length lent
  pub no_room : length lent < n → left ≡ lent
