-- What the theorems of the demands say beyond the definitions of Frame and Sending: one record for each such sentence. Assumes nothing.
use Rattle.std.specs.Prelude.{ℕ, ◌-◌, ◌*◌, ◌^◌, ◌≤◌, ◌<◌, ◌≡◌, true, false, cond, List, eqb, length, get_or, ℤ, pos, nat_abs}
use Rattle.reed_muller.specs.Level.{belongs}
use Rattle.bits.specs.Message.{message_bit}
use Rattle.e8.specs.Energy.{energy, distance}
use Rattle.e8.specs.Largest.{largest_block}
use Rattle.frames.specs.Kind.{broken_number, is_kind, is_grade, degrees, levels, message_bits, message_bytes, scale}
use Rattle.frames.specs.Message.{Bytes, Message}
use Rattle.frames.specs.Frame.{level_word, SameClass, numbered_frame, least_distance}
use Rattle.frames.specs.Free.{is_free_count, free_from, FreeMessage, filled_frame, Quiet, FirstFilling, quiet_filling, quiet_frame}
use Rattle.frames.specs.Sending.{any_set, unless, send_refusal, Accepts}
use Rattle.frames.specs.Reading.{open_message, fixed_message, same_frame, largest_read, open_refusal, strict_refusal, energy_read}

-- what sending asks: a kind, a grade, a free count, a message of them whose free bits are 0, and as many coordinates as the kind has
pub record Sendable (k b f : ℕ) (bytes : List ℕ) (n : ℕ) : Type 0 where
  pub kind : is_kind k ≡ true
  pub grade : is_grade b ≡ true
  pub few : is_free_count f ≡ true
  pub message : FreeMessage k b f bytes
  pub coordinates : n ≡ 2 ^ k

-- "Sending tests 1, 2, 3, 4, 5", and 17 after 2: it accepts exactly what it asks
pub record AcceptedExactly (k b f : ℕ) (bytes : List ℕ) (n : ℕ) : Type 0 where
  pub sendable : send_refusal k b f bytes n ≡ 0 → Sendable k b f bytes n
  pub accepted : Sendable k b f bytes n → send_refusal k b f bytes n ≡ 0

-- "broken level 0", "broken level 1", "broken level 2": the first level of the frame f that is not a codeword, and the number that is given for it
pub record FirstBroken (k : ℕ) (f : List ℤ) (number : ℕ) : Type 0 where
  pub level : ℕ
  pub inside : level < levels k
  pub earlier : (i : ℕ) → i < level → belongs (get_or (degrees k) i 0) k (level_word i f) ≡ true
  pub broken : belongs (get_or (degrees k) level 0) k (level_word level f) ≡ false
  pub given : number ≡ broken_number level

-- "Each coding-set frame differs so from the sent frame of exactly one message at each grade": the message, for the frame f and any number
pub record OneMessage (k b number : ℕ) (f : List ℤ) : Type 0 where
  pub bytes : List ℕ
  pub message : Message k b bytes
  pub accepted : Accepts k b 0 bytes
  pub class : SameClass k b (numbered_frame k b number bytes) f
  pub only : (other : List ℕ) → Message k b other → SameClass k b (numbered_frame k b number other) f → other ≡ bytes

-- "and at each grade two messages are sent at exactly that": two different messages, and the squared distance of their frames, whatever their numbers
pub record Reached (k b : ℕ) : Type 0 where
  pub x : List ℕ
  pub y : List ℕ
  pub message-x : Message k b x
  pub message-y : Message k b y
  pub accepted-x : Accepts k b 0 x
  pub accepted-y : Accepts k b 0 y
  pub different : x ≡ y → ⊥
  pub exactly : (number other : ℕ) → distance (numbered_frame k b number x) (numbered_frame k b other y) ≡ least_distance k

-- ---- with free bits (requests E7 and E10)

-- "Each frame of the coding set lies in a filling's class of exactly one message whose free bits are 0": the message, for the frame and any number, and the
-- filling, of which there is one too
pub record OneFilling (k b f number : ℕ) (frame : List ℤ) : Type 0 where
  pub bytes : List ℕ
  pub φ : ℕ
  pub message : FreeMessage k b f bytes
  pub accepted : Accepts k b f bytes
  pub below : φ < 2 ^ f
  pub class : SameClass k b (filled_frame k b f number bytes φ) frame
  pub only : (other : List ℕ) (ψ : ℕ) → FreeMessage k b f other → ψ < 2 ^ f → SameClass k b (filled_frame k b f number other ψ) frame
      → (other ≡ bytes) × (ψ ≡ φ)

-- the filling that sending takes (request E10): it is "the smallest" of "the fillings of least energy", and the only one like that
pub record FirstTaken (k b f number : ℕ) (bytes : List ℕ) : Type 0 where
  pub first : FirstFilling k b f number bytes (quiet_filling k b f number bytes)
  pub only : (φ : ℕ) → FirstFilling k b f number bytes φ → φ ≡ quiet_filling k b f number bytes

-- it is the same under every number: both tie rules have one energy
pub record SameTaken (k b f number other : ℕ) (bytes : List ℕ) : Type 0 where
  pub filling : quiet_filling k b f number bytes ≡ quiet_filling k b f other bytes
  pub same-energy : energy (quiet_frame k b f number bytes) ≡ energy (quiet_frame k b f other bytes)
  pub same-largest : largest_block (quiet_frame k b f number bytes) ≡ largest_block (quiet_frame k b f other bytes)

-- what request E7 promised of it: the sent frame is a quiet one, and every quiet frame has its energy and its largest block
pub record QuietSent (k b f number : ℕ) (bytes : List ℕ) : Type 0 where
  pub quiet : Quiet k b f number bytes (quiet_frame k b f number bytes)
  pub energy-alike : (frame : List ℤ) → Quiet k b f number bytes frame → energy frame ≡ energy (quiet_frame k b f number bytes)
  pub largest-alike : (frame : List ℤ) → Quiet k b f number bytes frame → largest_block frame ≡ largest_block (quiet_frame k b f number bytes)

-- "The strict reading gives it only for the sent frame": the frame is the one that is sent under the number for some message of the kind and grade whose
-- free bits are 0, and the reading gives that one
pub record SentFor (k b f number : ℕ) (frame : List ℤ) : Type 0 where
  pub bytes : List ℕ
  pub message : FreeMessage k b f bytes
  pub accepted : Accepts k b f bytes
  pub sent : frame ≡ quiet_frame k b f number bytes
  pub given : fixed_message k b f frame ≡ bytes

-- the strict reading passes exactly what sending gives; n message bytes are lent
pub record PassedExactly (k b f number : ℕ) (frame : List ℤ) (n : ℕ) : Type 0 where
  pub passed : strict_refusal k b f number frame n ≡ 0 → SentFor k b f number frame
  pub long : strict_refusal k b f number frame n ≡ 0 → n ≡ message_bytes k b
  pub sent : (bytes : List ℕ) → Bytes bytes → Accepts k b f bytes → frame ≡ quiet_frame k b f number bytes → n ≡ length bytes
      → strict_refusal k b f number frame n ≡ 0

-- "A frame reads back to its message": both readings take the frame that is sent for the bytes under the number, and give these bytes
pub record ReadBack (k b f number : ℕ) (bytes : List ℕ) : Type 0 where
  pub open-takes : open_refusal k b f (quiet_frame k b f number bytes) (length bytes) ≡ 0
  pub strict-takes : strict_refusal k b f number (quiet_frame k b f number bytes) (length bytes) ≡ 0
  pub given : fixed_message k b f (quiet_frame k b f number bytes) ≡ bytes

-- "strict reading passes only that filling's frame": the frame of every other filling, also of a least one, whatever its own number, is 9 strictly; openly
-- each is read as the message
pub record OthersNine (k b f number : ℕ) (bytes : List ℕ) : Type 0 where
  pub openly : (other φ : ℕ) → open_refusal k b f (filled_frame k b f other bytes φ) (length bytes) ≡ 0
  pub given : (other φ : ℕ) → fixed_message k b f (filled_frame k b f other bytes φ) ≡ bytes
  pub nine : (other φ : ℕ) → φ < 2 ^ f → (φ ≡ quiet_filling k b f number bytes → ⊥)
      → strict_refusal k b f number (filled_frame k b f other bytes φ) (length bytes) ≡ 9

-- "never more energy than without free bits"
pub record Quieter (k b f number : ℕ) (bytes : List ℕ) : Type 0 where
  pub energy-at-most : energy (quiet_frame k b f number bytes) ≤ energy (numbered_frame k b number bytes)

-- "Messages that differ in a fixed bit keep their distance", whatever their fillings, numbers and free counts f and g, where bit i is fixed for both: the
-- frames of any two fillings, and so what is sent
pub record FixedApart (k b f g number other : ℕ) (x y : List ℕ) : Type 0 where
  pub fillings : (i : ℕ) → i < free_from k b f → i < free_from k b g → (message_bit x i ≡ message_bit y i → ⊥)
      → (φ ψ : ℕ) → least_distance k ≤ distance (filled_frame k b f number x φ) (filled_frame k b g other y ψ)
  pub sent : (i : ℕ) → i < free_from k b f → i < free_from k b g → (message_bit x i ≡ message_bit y i → ⊥)
      → least_distance k ≤ distance (quiet_frame k b f number x) (quiet_frame k b g other y)

-- ---- where f is 0, the rule that stood

-- sending: the tests without 17, and 5 for a spare bit alone; what is sent is the frame of the number
pub record NoneFree (k b number : ℕ) (bytes : List ℕ) (n : ℕ) : Type 0 where
  pub tests : send_refusal k b 0 bytes n ≡
      unless (is_kind k) 1
      (unless (is_grade b) 2
      (unless (eqb (length bytes) (message_bytes k b)) 3
      (unless (eqb n (2 ^ k)) 4
      (cond (any_set (message_bit bytes) (message_bits k b) (8 * message_bytes k b - message_bits k b)) 5 0))))
  pub sent : quiet_frame k b 0 number bytes ≡ numbered_frame k b number bytes

-- reading: of a frame that passes the open reading's tests the whole message is given, and strictly the frame of the number for that passes alone
pub record NoneFreeRead (k b number : ℕ) (frame : List ℤ) (n : ℕ) : Type 0 where
  pub given : open_refusal k b 0 frame n ≡ 0 → fixed_message k b 0 frame ≡ open_message k b frame
  pub strict : open_refusal k b 0 frame n ≡ 0
      → strict_refusal k b 0 number frame n ≡ unless (same_frame frame (numbered_frame k b number (open_message k b frame))) 9 0

-- ---- the range (request E8)

-- a coordinate of the frame that is larger in size than a reading takes: 16,777,217 and more
pub record FarOut (frame : List ℤ) : Type 0 where
  pub place : ℕ
  pub inside : place < length frame
  pub larger : largest_read < nat_abs (get_or frame place (pos 0))

-- "6 begins at 16,777,217": a frame with such a coordinate, at any place, is 6 in both readings, whatever else stands in it, where what is tested before is
-- good; and no other frame is. n message bytes are lent
pub record SixExactly (k b f : ℕ) (frame : List ℤ) (n : ℕ) : Type 0 where
  pub openly : is_kind k ≡ true → is_grade b ≡ true → is_free_count f ≡ true → length frame ≡ 2 ^ k → n ≡ message_bytes k b
      → FarOut frame → open_refusal k b f frame n ≡ 6
  pub strictly : is_kind k ≡ true → is_grade b ≡ true → is_free_count f ≡ true → length frame ≡ 2 ^ k → n ≡ message_bytes k b
      → (number : ℕ) → FarOut frame → strict_refusal k b f number frame n ≡ 6
  pub only-openly : open_refusal k b f frame n ≡ 6 → FarOut frame
  pub only-strictly : (number : ℕ) → strict_refusal k b f number frame n ≡ 6 → FarOut frame

-- every coordinate of the frame is 16,777,216 or −16,777,216
pub record AtEnds (k : ℕ) (frame : List ℤ) : Type 0 where
  pub long : length frame ≡ 2 ^ k
  pub each : (p : ℕ) → p < 2 ^ k → nat_abs (get_or frame p (pos 0)) ≡ largest_read

-- "The energy stays exact": the frames of the largest energy are read, and it is reported, 64 · 2^48 at kind 6; no reading reports more
pub record LargestEnergy (k b f n : ℕ) : Type 0 where
  pub read : (frame : List ℤ) → AtEnds k frame → open_refusal k b f frame n ≡ 0
  pub reported : (frame : List ℤ) → AtEnds k frame → energy_read (open_refusal k b f frame n) frame ≡ 2 ^ k * (largest_read * largest_read)
  pub most : (frame : List ℤ) → energy_read (open_refusal k b f frame n) frame ≤ 2 ^ k * (largest_read * largest_read)
  pub most-strictly : (number : ℕ) (frame : List ℤ) → energy_read (strict_refusal k b f number frame n) frame ≤ 2 ^ k * (largest_read * largest_read)

-- "The strict reading gives it only for the sent frame", whose coordinates are at most M in size: a frame that is read openly and has a larger one is 9
pub record LargeUnshaped (k b f : ℕ) (frame : List ℤ) (n : ℕ) : Type 0 where
  pub nine : open_refusal k b f frame n ≡ 0 → (number p : ℕ) → scale k b < nat_abs (get_or frame p (pos 0)) → strict_refusal k b f number frame n ≡ 9
