-- A record of a sheet at a place of it (document 01, "The sheet program"): mark 4C 43, kind byte, grade byte, message bytes.
-- Assumes nothing.
use Rattle.std.specs.Prelude.{ℕ, ◌+◌, ◌^◌, Bool, ◌&&◌, cond, List, eqb, leb, length, get_or, take, drop}
use Rattle.frames.specs.Kind.{is_kind, is_grade, message_bytes}
use Rattle.frames.specs.Sending.{unless, send_refusal}

-- the mark stands at place p
unfoldable pub marked : List ℕ → ℕ → Bool
marked s p = leb (p + 2) (length s) && eqb (get_or s p 0) 76 && eqb (get_or s (p + 1) 0) 67

-- the kind byte, the grade byte, the message, and the place after the record
abbrev pub kind_at : List ℕ → ℕ → ℕ
kind_at s p = get_or s (p + 2) 0

abbrev pub grade_at : List ℕ → ℕ → ℕ
grade_at s p = get_or s (p + 3) 0

abbrev pub message_at : List ℕ → ℕ → List ℕ
message_at s p = take (message_bytes (kind_at s p) (grade_at s p)) (drop (p + 4) s)

abbrev pub end_at : List ℕ → ℕ → ℕ
end_at s p = p + 4 + message_bytes (kind_at s p) (grade_at s p)

-- a missing or other mark is 10; a record cut short in its kind, grade or message is 3, but a wrong kind or grade byte that is
-- present comes first. 0 for a whole record
unfoldable pub record_refusal : List ℕ → ℕ → ℕ
unfolding marked is_kind is_grade message_bytes
record_refusal s p =
    unless (marked s p) 10
    (unless (leb (p + 3) (length s)) 3
    (unless (is_kind (kind_at s p)) 1
    (unless (leb (p + 4) (length s)) 3
    (unless (is_grade (grade_at s p)) 2
    (unless (leb (end_at s p) (length s)) 3 0)))))

-- the record's number: its refusal, and for a whole record what sending its message answers
unfoldable pub record_number : List ℕ → ℕ → ℕ
unfolding record_refusal send_refusal
record_number s p = cond (eqb (record_refusal s p) 0) (send_refusal (kind_at s p) (grade_at s p) 0 (message_at s p) (2 ^ kind_at s p)) (record_refusal s p)
