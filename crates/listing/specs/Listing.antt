-- The listing of a sheet, as bytes (document 01, "The sheet program"; request E5: "a sheet numbers its records from 0"). Assumes nothing.
use Rattle.std.specs.Prelude.{ℕ, zero, suc, ◌+◌, Bool, cond, List, [], ◌++◌, length, ◌==◌, nat_lt}
use Rattle.text.specs.Line.{header_text, refused_text}
use Rattle.sheet_record.specs.Record.{kind_at, grade_at, message_at, end_at, record_number}
use Rattle.sheet_line.specs.Sent.{sent_line}

-- the line of the record at byte p of the sheet, whose frame has the number
unfoldable pub line_at : List ℕ → ℕ → ℕ → List ℕ
unfolding record_number sent_line refused_text
line_at s p number = cond (record_number s p == 0) (sent_line (kind_at s p) (grade_at s p) number (message_at s p)) (refused_text (record_number s p))

-- the byte from which the listing goes on: after the record, or at the sheet's end, since a refused record ends the listing
unfoldable pub next_at : List ℕ → ℕ → ℕ
unfolding record_number
next_at s p = cond (record_number s p == 0) (end_at s p) (length s)

-- the lines of the records from byte p on, of which there are at most f, numbered from `number` on
unfoldable pub lines_from : ℕ → List ℕ → ℕ → ℕ → List ℕ
unfolding line_at next_at
lines_from zero s p number = []
lines_from (suc f) s p number = cond (nat_lt p (length s)) (line_at s p number ++ lines_from f s (next_at s p) (number + 1)) []

-- a long sheet
abbrev pub long : List ℕ → Bool
long s = nat_lt 32768 (length s)

-- THE LISTING: the header, and a line for each record, numbered from 0; a long sheet has the header and `refused 12` only. No sheet has more
-- records than bytes
unfoldable pub listing_of : List ℕ → List ℕ
unfolding lines_from header_text refused_text
listing_of s = header_text ++ cond (long s) (refused_text 12) (lines_from (length s) s 0 0)
