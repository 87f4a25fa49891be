-- At each kind and grade two messages are sent at exactly the least distance: all zeros, and the message with the bit of mask 1 at level 0.
-- Assumes nothing.
use Prim.Native.Nat.{ℕ, zero, suc, ◌-◌, ◌*◌, ◌/◌, ◌%◌, ◌^◌, ◌≤◌, ◌<◌}
use mathlib.Core.Path.{◌≡◌, refl, ap, ap₂, ◌∙◌}
use mathlib.Core.Bool.{Bool, true, false, ◌&&◌}
use mathlib.Core.List.{List, [], ◌∷◌, ◌++◌}
use native.Mathlib.Nat.{zero-div}
use native.Mathlib.Omega.{arith}
use lib.Count.{ones}
use lib.ListN.{length, get_or, replicate, length-replicate}
use lib.IntN.{ℤ}
use Rattle.bits.specs.Number.{sum_to, table}
use Rattle.reed_muller.specs.Level.{of_weight, masks, order, dimension, codeword}
use Rattle.bits.specs.Message.{message_bit}
use Rattle.e8.specs.Energy.{sq, energy, distance}
use Rattle.e8.specs.Order.{before}
use Rattle.e8.specs.Least.{cent, better, best, least_block}
use Rattle.e8.specs.Ties.{least_block_by, least_frame_by}
use Rattle.e8.specs.Rows.{ints}
use Rattle.e8.proofs.Within.{and_both}
use Rattle.e8.proofs.Ties.{least_frame_by-none, least_frame_by-cons}
use Rattle.frames.specs.Kind.{kinds, is_kind, is_grade, degrees, levels, blocks, level_bits, message_bits, message_bytes}
use Rattle.frames.specs.Message.{Message, numbers, block_numbers, stacked, coordinate, leader}
use Rattle.frames.specs.Frame.{half, is_odd, numbered_frame, least_distance}
use Rattle.frames.specs.Reading.{same_frame}
use Rattle.frames.specs.Demands.{Reached}
use Rattle.frames.proofs.Rows.{each-row-and-grade, row-eq}
use Rattle.frames.proofs.Limits.{some_bits}
use Rattle.frames.proofs.Accepted.{message-accepted}
use Rattle.frames.proofs.Refusals.{same-frame}

-- the message whose first byte is x and whose other bytes are 0
abbrev pub first_byte : ℕ → ℕ → ℕ → List ℕ
first_byte x k b = x ∷ replicate (message_bytes k b - 1) 0

zeros-at : (n j : ℕ) → get_or {A = ℕ} (replicate n 0) j 0 ≡ 0
zeros-at zero zero = refl
zeros-at zero (suc j) = refl
zeros-at (suc n) zero = refl
zeros-at (suc n) (suc j) = zeros-at n j

module _ (x k b : ℕ) (small : x < 256) (bits : 8 ≤ message_bits k b) where
  each-byte : (n j : ℕ) → get_or (x ∷ replicate n 0) j 0 < 256
  each-byte n zero = small
  each-byte n (suc j) = omega (arith, zeros-at n j)

  later : (n i j : ℕ) → i / 8 ≡ j → 8 ≤ i → message_bit (x ∷ replicate n 0) i ≡ 0
  unfolding message_bit
  later n i zero e l = absurd (omega arith)
  later n i (suc j) e l = ap (λ (q : ℕ). get_or (x ∷ replicate n 0) q 0 / 2 ^ (i % 8) % 2) e ∙ ap (λ (y : ℕ). y / 2 ^ (i % 8) % 2) (zeros-at n j) ∙ none (i % 8)
    where
      none : (s : ℕ) → 0 / 2 ^ s % 2 ≡ 0
      none s = omega (arith, zero-div (2 ^ s))

  byte-message : Message k b (first_byte x k b)
  unfolding message_bytes
  byte-message = record {
    long = ap suc (length-replicate (message_bytes k b - 1) 0) ∙ omega arith;
    each = each-byte (message_bytes k b - 1);
    spare = λ i h. later (message_bytes k b - 1) i (i / 8) refl (omega arith);
  }

-- ---- the frames of the two messages: they have no tie, and so are the same under every number

-- n blocks that are the same
abbrev repeated : ℕ → List ℤ → List ℤ
repeated zero block = []
repeated (suc n) block = block ++ repeated n block

-- where the block is the least of its class, so is the frame
repeated-least : (last : Bool) (H n : ℕ) (block : List ℤ) → length block ≡ 8 → least_block_by last H block ≡ block
    → least_frame_by last H n (repeated n block) ≡ repeated n block
repeated-least last H zero block l e = least_frame_by-none last H []
repeated-least last H (suc n) block l e =
    least_frame_by-cons last H n block (repeated n block) l ∙ ap₂ ◌++◌ e (repeated-least last H n block l e)

-- 0 v 0 v 0 v 0 v, of the message whose first byte is 2v
abbrev alternating : ℕ → List ℤ
alternating v = ints (0 ∷ v ∷ 0 ∷ v ∷ 0 ∷ v ∷ 0 ∷ v ∷ [])

-- the leader is such blocks, and by either rule each is the least of its class
abbrev alternates : ℕ → ℕ → ℕ → Bool
alternates v k b =
    same_frame (leader k b (first_byte (2 * v) k b)) (repeated (blocks k) (alternating v))
    && (same_frame (least_block_by false (half k b) (alternating v)) (alternating v)
    && same_frame (least_block_by true (half k b) (alternating v)) (alternating v))

-- of each kind and grade, computed, for v = 0 and v = 1
each-alternates : (k b : ℕ) → is_kind k ≡ true → is_grade b ≡ true → (alternates 0 k b && alternates 1 k b) ≡ true
unfolding same_frame half least_block_by least_block best better cent before energy sq leader coordinate stacked block_numbers numbers
    message_bytes message_bits degrees kinds levels level_bits sum_to codeword order dimension masks of_weight table message_bit ones
each-alternates = each-row-and-grade (λ k b. alternates 0 k b && alternates 1 k b) refl

-- and so the frame is such blocks, whatever its number
frame_is : (v k b : ℕ) → alternates v k b ≡ true → (number : ℕ)
    → numbered_frame k b number (first_byte (2 * v) k b) ≡ repeated (blocks k) (alternating v)
unfolding numbered_frame
frame_is v k b e number =
    ap (least_frame_by (is_odd number) (half k b) (blocks k)) (same-frame L F t.0)
    ∙ repeated-least (is_odd number) (half k b) (blocks k) (alternating v) refl (by-rule (is_odd number))
  where
    L : List ℤ
    L = leader k b (first_byte (2 * v) k b)

    F : List ℤ
    F = repeated (blocks k) (alternating v)

    least : Bool → Bool
    least last = same_frame (least_block_by last (half k b) (alternating v)) (alternating v)

    t : (same_frame L F ≡ true) × ((least false && least true) ≡ true)
    t = and_both (same_frame L F) (least false && least true) e

    by-rule : (last : Bool) → least_block_by last (half k b) (alternating v) ≡ alternating v
    by-rule false = same-frame (least_block_by false (half k b) (alternating v)) (alternating v) (and_both (least false) (least true) t.1).0
    by-rule true = same-frame (least_block_by true (half k b) (alternating v)) (alternating v) (and_both (least false) (least true) t.1).1

-- the distance of such frames
exactly-at : (k : ℕ) → is_kind k ≡ true → distance (repeated (blocks k) (alternating 0)) (repeated (blocks k) (alternating 1)) ≡ least_distance k
unfolding distance sq kinds
exactly-at = row-eq (λ k. distance (repeated (blocks k) (alternating 0)) (repeated (blocks k) (alternating 1))) least_distance refl

-- "at each grade two messages are sent at exactly that", whatever their numbers
pub reached : (k b : ℕ) → is_kind k ≡ true → is_grade b ≡ true → Reached k b
reached k b kind grade = record {
  x = first_byte 0 k b;
  y = first_byte 2 k b;
  message-x = message-x;
  message-y = message-y;
  accepted-x = message-accepted k b (first_byte 0 k b) kind grade message-x;
  accepted-y = message-accepted k b (first_byte 2 k b) kind grade message-y;
  different = λ e. omega (arith, ap (λ (l : List ℕ). get_or l 0 0) e);
  exactly = λ number other.
      ap₂ distance (frame_is 0 k b both.0 number) (frame_is 1 k b both.1 other) ∙ exactly-at k kind;
}
  where
    both : (alternates 0 k b ≡ true) × (alternates 1 k b ≡ true)
    both = and_both (alternates 0 k b) (alternates 1 k b) (each-alternates k b kind grade)

    message-x : Message k b (first_byte 0 k b)
    message-x = byte-message 0 k b (omega arith) (some_bits k b kind grade)

    message-y : Message k b (first_byte 2 k b)
    message-y = byte-message 2 k b (omega arith) (some_bits k b kind grade)
