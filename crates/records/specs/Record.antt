-- A RECORDED FRAME (request E11): its bytes, and what stands at a place of a buffer. Assumes nothing.
use Rattle.std.specs.Prelude.{ℕ, ◌+◌, ◌*◌, ◌^◌, Bool, ◌&&◌, cond, List, ◌∷◌, ◌++◌, eqb, leb, ℤ, length, get_or, drop}
use Rattle.frames.specs.Kind.{is_kind}
use Rattle.frames.specs.Free.{quiet_frame}
use Rattle.four_bytes.specs.FourBytes.{four_bytes, four_at, coordinate_bytes, coordinates_from}

-- "A record is mark 4C 46, kind byte, grade byte, the frame number as 4 bytes, then n coordinates of 4 bytes each, all lowest byte first, coordinates in two's
-- complement": the record of a frame
unfoldable pub record_of : ℕ → ℕ → ℕ → List ℤ → List ℕ
unfolding four_bytes coordinate_bytes
record_of k b number frame = 76 ∷ 70 ∷ k ∷ b ∷ (four_bytes number ++ coordinate_bytes frame)

-- "the sent frame's record": of the frame that is sent for a message under the number, "with f at 0"
unfoldable pub sent_record : ℕ → ℕ → ℕ → List ℕ → List ℕ
unfolding record_of quiet_frame
sent_record k b number bytes = record_of k b number (quiet_frame k b 0 number bytes)

-- its length in bytes: 2^k coordinates
abbrev pub record_bytes : ℕ → ℕ
record_bytes k = 8 + 4 * 2 ^ k

-- the same for any kind byte, 0 where there is no such kind
unfoldable pub record_length : ℕ → ℕ
unfolding is_kind
record_length k = cond (is_kind k) (record_bytes k) 0

-- ---- what stands at place p of the buffer s

-- the mark 4C 46: two bytes are there, and they are these
unfoldable pub marked : List ℕ → ℕ → Bool
marked s p = leb (p + 2) (length s) && eqb (get_or s p 0) 76 && eqb (get_or s (p + 1) 0) 70

-- the kind byte, the grade byte, the number, the frame, and the place after the record
abbrev pub kind_at : List ℕ → ℕ → ℕ
kind_at s p = get_or s (p + 2) 0

abbrev pub grade_at : List ℕ → ℕ → ℕ
grade_at s p = get_or s (p + 3) 0

abbrev pub number_at : List ℕ → ℕ → ℕ
number_at s p = four_at s (p + 4)

abbrev pub frame_at : List ℕ → ℕ → List ℤ
frame_at s p = coordinates_from (2 ^ kind_at s p) (drop (p + 8) s)

abbrev pub end_at : List ℕ → ℕ → ℕ
end_at s p = p + record_bytes (kind_at s p)
