-- What reads of the system make of a room, by what each of them answered: bytes came (1 or more), the input is at its end (0), or the
-- read failed (below 0). Assumes nothing.
use Rattle.std.specs.Prelude.{ℕ, ◌+◌, ◌-◌, ◌≤◌, min, ◌≡◌, true, false, ◌||◌, List, [], ◌∷◌, eqb, leb, ℤ, pos, negsuc, Option, Some, None}
use Rattle.sheet_input.specs.declared.Input.{Input}

-- what a read that is lent a room of n bytes may answer: -1, or how many bytes came, at most n
abbrev pub Moved : ℕ → ℤ → Type 0
Moved n (pos k) = k ≤ n
Moved n (negsuc k) = k ≡ 0

-- the answer of a read, of which so many bytes came, or none where it failed
abbrev pub answer_of : Option ℕ → ℤ
answer_of (Some n) = pos n
answer_of None = negsuc 0

-- before the first read
abbrev pub nothing : Input
nothing = record { length = 0; over = false; failed = false }

-- after a read with so much room left: a failed read ends the reading, as do the end of the input and a full room
abbrev pub after_read : Input → ℕ → ℤ → Input
after_read i left (pos k) = record { length = i.length + min k left; over = eqb k 0 || leb left k; failed = false }
after_read i left (negsuc k) = record { length = i.length; over = true; failed = true }

-- from what was read so far to what was read at last, by the answers of the reads into a room of n bytes: each is one that a read into what
-- is left of the room may give, and with the last one, and none before it, the reading is over
abbrev pub Reads : ℕ → Input → List ℤ → Input → Type 0
Reads n i [] r = (i.over ≡ true) × (i ≡ r)
Reads n i (a ∷ l) r = (i.over ≡ false) × (Moved (n - i.length) a × Reads n (after_read i (n - i.length) a) l r)

-- WHAT WAS READ into a room of n bytes: what the answers of the reads make of it
pub record ReadBy (n : ℕ) (r : Input) : Type 0 where
  pub answers : List ℤ
  pub reads : Reads n nothing answers r
