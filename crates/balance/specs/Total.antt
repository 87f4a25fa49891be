-- Request E5: "over all messages of a kind and grade, the frames for one even and one odd number add up to zero in every coordinate".
-- The sum is over the numbers below 2 ^ message_bits, each with the message that its bits make, and that is each message once. Assumes nothing.
use Rattle.std.specs.Prelude.{◌≡◌, List, ℕ, zero, suc, ◌/◌, ◌%◌, ◌^◌, ◌<◌, get_or, ℤ, pos, ◌+ℤ◌}
use Rattle.bits.specs.Message.{bytes_of}
use Rattle.frames.specs.Kind.{message_bits, message_bytes}
use Rattle.frames.specs.Message.{Message}
use Rattle.frames.specs.Frame.{numbered_frame}

-- f 0 + f 1 + .. + f (n − 1)
unfoldable pub sum_z : ℕ → (ℕ → ℤ) → ℤ
sum_z zero f = pos 0
sum_z (suc n) f = sum_z n f +ℤ f n

-- message i of a kind and grade: its bit j is the bit of weight 2^j of i
unfoldable pub message_of : ℕ → ℕ → ℕ → List ℕ
unfolding message_bytes bytes_of
message_of k b i = bytes_of (message_bytes k b) (λ j. i / 2 ^ j % 2)

-- how many messages a kind and grade have
abbrev pub messages : ℕ → ℕ → ℕ
messages k b = 2 ^ message_bits k b

-- the message `bytes` is message i for exactly one i
pub record Once (k b : ℕ) (bytes : List ℕ) : Type 0 where
  pub i : ℕ
  pub below : i < messages k b
  pub is : message_of k b i ≡ bytes
  pub only : (j : ℕ) → j < messages k b → message_of k b j ≡ bytes → j ≡ i

-- these are all messages, and nothing else
pub record EachOnce (k b : ℕ) : Type 0 where
  pub message : (i : ℕ) → i < messages k b → Message k b (message_of k b i)
  pub once : (bytes : List ℕ) → Message k b bytes → Once k b bytes

-- THE SUM over all messages of coordinate p of the frame sent under the number
unfoldable pub total : ℕ → ℕ → ℕ → ℕ → ℤ
unfolding sum_z message_bits message_of numbered_frame
total k b number p = sum_z (messages k b) (λ i. get_or (numbered_frame k b number (message_of k b i)) p (pos 0))

-- the frames for one even and one odd number add up to zero in every coordinate
pub record AddUpToZero (k b even odd : ℕ) : Type 0 where
  pub each : (p : ℕ) → total k b even p +ℤ total k b odd p ≡ pos 0
