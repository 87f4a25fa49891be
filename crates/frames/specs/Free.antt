-- Free bits (requests E7 and E10): the last bits of a message are left to the sender. Fillings, which of them is taken, and the frame that is sent.
-- Assumes nothing.
use Rattle.std.specs.Prelude.{ℕ, zero, suc, ◌+◌, ◌-◌, ◌/◌, ◌%◌, ◌^◌, ◌≤◌, ◌<◌, ◌≡◌, Bool, cond, List, leb, ltb, length, ℤ}
use Rattle.bits.specs.Number.{number as number_of}
use Rattle.bits.specs.Message.{message_bit, bytes_of, with_bits}
use Rattle.e8.specs.Energy.{energy}
use Rattle.frames.specs.Kind.{message_bits}
use Rattle.frames.specs.Message.{Message}
use Rattle.frames.specs.Frame.{numbered_frame}

-- "f from 0 to 4"
unfoldable pub is_free_count : ℕ → Bool
is_free_count f = leb f 4

-- "The last f bits of a message": the place of the first of them
unfoldable pub free_from : ℕ → ℕ → ℕ → ℕ
unfolding message_bits
free_from k b f = message_bits k b - f

-- "may be left to the sender": the filling φ of a message. Its free bits hold the number φ, lowest bit first; every other bit is as it was
unfoldable pub filled : ℕ → ℕ → ℕ → ℕ → List ℕ → List ℕ
unfolding free_from bytes_of with_bits message_bit
filled k b f φ bytes = bytes_of (length bytes) (with_bits (free_from k b f) f (λ t. φ / 2 ^ t % 2) (message_bit bytes))

-- "the free bits read as a number, lowest bit first": the filling that a message is
unfoldable pub filling : ℕ → ℕ → ℕ → List ℕ → ℕ
unfolding free_from message_bit
filling k b f bytes = number_of f (λ t. message_bit bytes (free_from k b f + t))

-- "who must be given them as 0": a message whose free bits are 0
pub record FreeMessage (k b f : ℕ) (bytes : List ℕ) : Type 0 where
  pub message : Message k b bytes
  pub free : (t : ℕ) → t < f → message_bit bytes (free_from k b f + t) ≡ 0

-- the frame of the filling φ, under a number
unfoldable pub filled_frame : ℕ → ℕ → ℕ → ℕ → List ℕ → ℕ → List ℤ
unfolding filled numbered_frame
filled_frame k b f number bytes φ = numbered_frame k b number (filled k b f φ bytes)

-- a filling "whose frame has the least energy of all fillings": φ, one of the 2^f, is one
pub record LeastFilling (k b f number : ℕ) (bytes : List ℕ) (φ : ℕ) : Type 0 where
  pub below : φ < 2 ^ f
  pub least : (ψ : ℕ) → ψ < 2 ^ f → energy (filled_frame k b f number bytes φ) ≤ energy (filled_frame k b f number bytes ψ)

-- request E7's relation, which leaves the filling open. A QUIET FRAME: "some filling whose frame has the least energy of all fillings"
pub record Quiet (k b f number : ℕ) (bytes : List ℕ) (frame : List ℤ) : Type 0 where
  pub φ : ℕ
  pub least : LeastFilling k b f number bytes φ
  pub sent : frame ≡ filled_frame k b f number bytes φ

-- request E10's rule. THE FIRST QUIET FILLING: "Among the fillings of least energy the sender now takes the smallest, the free bits read as a number, lowest
-- bit first": φ is that one
pub record FirstFilling (k b f number : ℕ) (bytes : List ℕ) (φ : ℕ) : Type 0 where
  pub least : LeastFilling k b f number bytes φ
  pub smallest : (ψ : ℕ) → LeastFilling k b f number bytes ψ → φ ≤ ψ

-- ---- the same computed

-- the smallest of the numbers below n at which e is least, by a search from 0 up: a later number takes the place where e is less there
unfoldable pub first_least : (ℕ → ℕ) → ℕ → ℕ
first_least e zero = 0
first_least e (suc n) = cond (ltb (e n) (e (first_least e n))) n (first_least e n)

-- the filling that is taken
unfoldable pub quiet_filling : ℕ → ℕ → ℕ → ℕ → List ℕ → ℕ
unfolding first_least filled_frame energy
quiet_filling k b f number bytes = first_least (λ φ. energy (filled_frame k b f number bytes φ)) (2 ^ f)

-- THE FRAME THAT IS SENT for a message whose free bits are 0: that filling's
unfoldable pub quiet_frame : ℕ → ℕ → ℕ → ℕ → List ℕ → List ℤ
unfolding quiet_filling filled_frame
quiet_frame k b f number bytes = filled_frame k b f number bytes (quiet_filling k b f number bytes)
