-- What the writes of a listing make, by what each of them answered: whether all of its text was written. Assumes nothing.
use Rattle.std.specs.Prelude.{ℕ, ◌+◌, ◌≡◌, Bool, true, false, ◌&&◌, List, [], ◌∷◌, ltb, length}
use Rattle.listing.specs.Places.{beginning, start_of, line_on, next_on}
use Rattle.listing.specs.declared.Place.{Place}
use Rattle.sheet_input.specs.Reading.{ReadBy}
use Rattle.printing.specs.declared.Printed.{Printed}
use Rattle.printing.specs.declared.Listed.{Listed}

-- before a listing begins
abbrev pub nothing : Printed
nothing = record { lines = 0; bytes = 0; place = record { at = 0; number = 0 }; whole = false }

-- the beginning of a sheet's listing handed over, and what its write answered
abbrev pub begun : List ℕ → Bool → Printed
begun s answer = record { lines = 0; bytes = length (beginning s); place = start_of s; whole = answer }

-- one more line handed over, of so many bytes, with the place after it and what its write answered
abbrev pub one_more : Printed → ℕ → Place → Bool → Printed
one_more p bytes next answer = record { lines = p.lines + 1; bytes = p.bytes + bytes; place = next; whole = answer }

-- whether there is a further line: every write went well, and the place is in the sheet
abbrev pub goes_on : Printed → ℕ → Bool
goes_on p bytes = p.whole && ltb p.place.at bytes

-- from what was handed over so far to what was at last, by the answers of the writes: one for each further line, which is that at the place
-- reached, until there is none
abbrev pub Prints : List ℕ → Printed → List Bool → Printed → Type 0
Prints s p [] r = (goes_on p (length s) ≡ false) × (p ≡ r)
Prints s p (a ∷ l) r = (goes_on p (length s) ≡ true) × Prints s (one_more p (length (line_on s p.place)) (next_on s p.place) a) l r

-- WHAT WAS PRINTED of a sheet: what the answers of the writes make, the first of them that of the beginning
pub record PrintedBy (s : List ℕ) (r : Printed) : Type 0 where
  pub first : Bool
  pub answers : List Bool
  pub prints : Prints s (begun s first) answers r

-- WHAT WAS LISTED: what reads into a room of 32,769 bytes made of it, and what was printed of the sheet of so many bytes; nothing where a read failed
pub record ListedBy (r : Listed) : Type 0 where
  pub sheet : List ℕ
  pub reads : ReadBy 32769 r.input
  pub all : length sheet ≡ r.input.length
  pub printed : r.input.failed ≡ false → PrintedBy sheet r.printed
  pub unread : r.input.failed ≡ true → r.printed ≡ nothing
