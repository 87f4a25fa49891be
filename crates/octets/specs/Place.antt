-- Bytes put at a place of a buffer. Assumes nothing.
use Rattle.std.specs.Prelude.{ℕ, ◌+◌, List, ◌++◌, length, take, drop}

-- the buffer o with the bytes s from place p on, every other byte as it was
unfoldable pub put_at : List ℕ → ℕ → List ℕ → List ℕ
put_at o p s = take p o ++ s ++ drop (p + length s) o
