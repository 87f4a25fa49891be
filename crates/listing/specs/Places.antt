-- The listing from place to place: a place is where the next record of a sheet stands, and its number. Assumes nothing.
use Rattle.std.specs.Prelude.{ℕ, zero, suc, ◌+◌, ◌%◌, ◌^◌, cond, List, [], ◌++◌, length, nat_le, nat_lt}
use Rattle.text.specs.Line.{header_text, refused_text}
use Rattle.listing.specs.Listing.{line_at, next_at, long}
use Rattle.listing.specs.declared.Place.{Place}

-- what the listing begins with, and the first place: of a long sheet its end
unfoldable pub beginning : List ℕ → List ℕ
unfolding header_text refused_text
beginning s = header_text ++ cond (long s) (refused_text 12) []

unfoldable pub start_of : List ℕ → Place
start_of s = record { at = cond (long s) (length s) 0; number = 0 }

-- the line of the record at a place, and the next place, under the next number: after the last of 32 bits, which is odd, comes 0
abbrev pub line_on : List ℕ → Place → List ℕ
line_on s p = line_at s p.at p.number

unfoldable pub next_on : List ℕ → Place → Place
unfolding next_at
next_on s p = record { at = next_at s p.at; number = (p.number + 1) % 2 ^ 32 }

-- the place after the beginning and i lines, and what is listed by then
unfoldable pub place_after : List ℕ → ℕ → Place
unfolding start_of next_on
place_after s zero = start_of s
place_after s (suc i) = next_on s (place_after s i)

unfoldable pub listed_to : List ℕ → ℕ → List ℕ
unfolding beginning line_at place_after
listed_to s zero = beginning s
listed_to s (suc i) = listed_to s i ++ line_on s (place_after s i)

-- ---- what is put into a lent line of `room` bytes, which has to be 1024 at least: where less is lent, nothing is put and the listing ends

-- the end of the listing: the number stays
abbrev pub ended : List ℕ → ℕ → Place
ended s number = record { at = length s; number = number }

-- a long sheet has no line of a record, and from its end on a sheet has none
unfoldable pub line_into : ℕ → List ℕ → Place → List ℕ
unfolding line_at
line_into room s p = cond (nat_lt room 1024) [] (cond (long s) [] (cond (nat_le (length s) p.at) [] (line_on s p)))

unfoldable pub next_into : ℕ → List ℕ → Place → Place
unfolding next_on
next_into room s p =
    cond (nat_lt room 1024) (ended s p.number) (cond (long s) (ended s p.number) (cond (nat_le (length s) p.at) (ended s p.number) (next_on s p)))

unfoldable pub beginning_into : ℕ → List ℕ → List ℕ
unfolding beginning
beginning_into room s = cond (nat_lt room 1024) [] (beginning s)

unfoldable pub start_into : ℕ → List ℕ → Place
unfolding start_of
start_into room s = cond (nat_lt room 1024) (ended s 0) (start_of s)

-- what is put, line after line, each at the place that the one before it gave, to the sheet's end; at most f lines
unfoldable pub put_from : ℕ → ℕ → List ℕ → Place → List ℕ
unfolding line_into next_into
put_from zero room s p = []
put_from (suc f) room s p = cond (nat_lt p.at (length s)) (line_into room s p ++ put_from f room s (next_into room s p)) []
