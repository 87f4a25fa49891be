-- What a reading takes from a frame: its message, and the number of the first test that is not passed
-- (document 01, "Shaping", last paragraph, and "Numbers"; requests E7 and E10 for free bits, E8 for the range). Assumes nothing.
use Rattle.std.specs.Prelude.{ℕ, zero, suc, ◌-◌, ◌/◌, ◌%◌, ◌^◌, Bool, true, false, ◌&&◌, cond, List, [], ◌∷◌, ◌++◌, map, eqb, length, get_or, ℤ, pos, negsuc}
use Rattle.std.specs.Int.Signed.{shr_z}
use Rattle.bits.specs.Number.{table}
use Rattle.reed_muller.specs.Level.{order, dimension, backwards, belongs}
use Rattle.bits.specs.Message.{bytes_of}
use Rattle.e8.specs.Energy.{energy, is_within}
use Rattle.e8.specs.Lattice.{part}
use Rattle.e8.specs.Rows.{reduced}
use Rattle.frames.specs.Kind.{broken_number, is_kind, is_grade, degrees, levels, blocks, message_bytes}
use Rattle.frames.specs.Message.{widths}
use Rattle.frames.specs.Frame.{level_word}
use Rattle.frames.specs.Free.{is_free_count, filled, quiet_frame}
use Rattle.frames.specs.Sending.{unless}

-- the message bits of a level: backwards, the bits of the first masks of the order
unfoldable pub level_message : ℕ → ℕ → (ℕ → ℕ) → List ℕ
unfolding table
level_message m r word = table (dimension r m) (λ t. backwards m word (get_or (order m) t 0))

-- those of the levels from i on, one behind the other
unfoldable pub level_messages : ℕ → ℕ → List ℕ → List ℤ → List ℕ
unfolding level_message
level_messages m i [] f = []
level_messages m i (r ∷ rs) f = level_message m r (level_word i f) ++ level_messages m (suc i) rs f

-- the frame with the level bits taken off, divided by 2^a: the floor quotient of each coordinate
unfoldable pub quotients : ℕ → List ℤ → List ℤ
quotients a f = map (λ z. shr_z z (2 ^ a)) f

-- the w bits of a number, lowest first
unfoldable pub digits : ℕ → ℕ → List ℕ
unfolding table
digits w s = table w (λ t. s / 2 ^ t % 2)

-- those of numbers of the given widths, one behind the other
unfoldable pub all_digits : List ℕ → List ℕ → List ℕ
unfolding digits
all_digits [] ss = []
all_digits (w ∷ ws) [] = []
all_digits (w ∷ ws) (s ∷ ss) = digits w s ++ all_digits ws ss

-- the bits of the first n blocks, each reduced to its eight numbers by 2^b times the rows of matrix (39)
unfoldable pub block_messages : ℕ → ℕ → List ℤ → List ℕ
unfolding all_digits
block_messages b zero v = []
block_messages b (suc n) v = block_messages b n v ++ all_digits (widths b) (reduced (2 ^ (b - 1)) (part n v))

-- all message bits of a frame, in their order
unfoldable pub read_bits : ℕ → ℕ → List ℤ → List ℕ
unfolding level_messages block_messages quotients degrees levels
read_bits k b f = level_messages k 0 (degrees k) f ++ block_messages b (blocks k) (quotients (levels k) f)

-- THE MESSAGE of a frame of the coding set: its bits as bytes, spare bits 0
unfoldable pub open_message : ℕ → ℕ → List ℤ → List ℕ
unfolding read_bits message_bytes
open_message k b f = bytes_of (message_bytes k b) (λ i. get_or (read_bits k b f) i 0)

-- "Reading with f gives the fixed bits and writes free bits as 0"
unfoldable pub fixed_message : ℕ → ℕ → ℕ → List ℤ → List ℕ
unfolding filled open_message
fixed_message k b f frame = filled k b f 0 (open_message k b frame)

-- ---- the refusals of the readings

-- the whole numbers a and b are the same
abbrev pub same_number : ℤ → ℤ → Bool
same_number (pos a) (pos b) = eqb a b
same_number (pos a) (negsuc b) = false
same_number (negsuc a) (pos b) = false
same_number (negsuc a) (negsuc b) = eqb a b

-- the frames f and g are the same
unfoldable pub same_frame : List ℤ → List ℤ → Bool
same_frame [] [] = true
same_frame [] (y ∷ g) = false
same_frame (x ∷ f) [] = false
same_frame (x ∷ f) (y ∷ g) = same_number x y && same_frame f g

-- request E8: "coordinates up to 16,777,216 in size": the largest that a reading takes
abbrev pub largest_read : ℕ
largest_read = 16777216

-- every coordinate is from −16,777,216 to 16,777,216
unfoldable pub in_range : List ℤ → Bool
unfolding is_within
in_range f = is_within largest_read f

-- the number of the first level from i on that is not a codeword, 0 where each one is
unfoldable pub broken : ℕ → ℕ → List ℕ → List ℤ → ℕ
broken m i [] f = 0
broken m i (r ∷ rs) f = unless (belongs r m (level_word i f)) (broken_number i) (broken m (suc i) rs f)

-- the open reading tests 1, 2, 17, 4, 3, then 6 over all coordinates, then 7, 8 and 13; n message bytes are lent
unfoldable pub open_refusal : ℕ → ℕ → ℕ → List ℤ → ℕ → ℕ
unfolding is_kind is_grade is_free_count message_bytes in_range broken degrees
open_refusal k b f frame n =
    unless (is_kind k) 1
    (unless (is_grade b) 2
    (unless (is_free_count f) 17
    (unless (eqb (length frame) (2 ^ k)) 4
    (unless (eqb n (message_bytes k b)) 3
    (unless (in_range frame) 6
    (broken k 0 (degrees k) frame))))))

-- "strict reading passes only that filling's frame": the frame is the one sent for its message under the number
unfoldable pub is_sent : ℕ → ℕ → ℕ → ℕ → List ℤ → Bool
unfolding same_frame quiet_frame fixed_message
is_sent k b f number frame = same_frame frame (quiet_frame k b f number (fixed_message k b f frame))

-- the strict reading under a number tests what the open reading does, and then 9
unfoldable pub strict_refusal : ℕ → ℕ → ℕ → ℕ → List ℤ → ℕ → ℕ
unfolding open_refusal is_sent
strict_refusal k b f number frame n =
    cond (eqb (open_refusal k b f frame n) 0) (unless (is_sent k b f number frame) 9 0) (open_refusal k b f frame n)

-- ---- what a reading that answers `refusal` leaves: the fixed bits and the frame's energy, or the lent bytes as they were and 0

unfoldable pub message_after : ℕ → ℕ → ℕ → ℕ → List ℤ → List ℕ → List ℕ
unfolding fixed_message
message_after refusal k b f frame bytes = cond (eqb refusal 0) (fixed_message k b f frame) bytes

unfoldable pub energy_read : ℕ → List ℤ → ℕ
unfolding energy
energy_read refusal frame = cond (eqb refusal 0) (energy frame) 0
