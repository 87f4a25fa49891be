-- What sending answers: the number of the first test that is not passed, the frame and the energy (document 01, "Numbers"; requests E7 and E10 for free bits).
-- Assumes nothing.
use Rattle.std.specs.Prelude.{ℕ, zero, suc, ◌+◌, ◌-◌, ◌*◌, ◌^◌, ◌≤◌, ◌<◌, ◌≡◌, Bool, false, ◌||◌, cond, List, eqb, length, ℤ}
use Rattle.bits.specs.Message.{message_bit}
use Rattle.e8.specs.Energy.{energy, Within}
use Rattle.frames.specs.Kind.{is_kind, is_grade, message_bytes, scale}
use Rattle.frames.specs.Frame.{SameClass}
use Rattle.frames.specs.Free.{is_free_count, free_from, filled_frame, quiet_frame}

-- one of the n bits from `from` on is set
unfoldable pub any_set : (ℕ → ℕ) → ℕ → ℕ → Bool
any_set bit from zero = false
any_set bit from (suc n) = any_set bit from n || eqb (bit (from + n)) 1

-- "A free bit given as 1 is 5", and so is a spare bit: one is set past the fixed bits
unfoldable pub free_set : ℕ → ℕ → ℕ → List ℕ → Bool
unfolding any_set free_from message_bytes
free_set k b f bytes = any_set (message_bit bytes) (free_from k b f) (8 * message_bytes k b - free_from k b f)

-- a test that refuses by its number where it is not passed, and else goes on
abbrev pub unless : Bool → ℕ → ℕ → ℕ
unless passed number next = cond passed next number

-- sending tests 1, 2, 17 ("free count, f above 4, tested after 2"), 3, 4, 5; n coordinates are lent. 0 is success
unfoldable pub send_refusal : ℕ → ℕ → ℕ → List ℕ → ℕ → ℕ
unfolding is_kind is_grade is_free_count message_bytes free_set
send_refusal k b f bytes n =
    unless (is_kind k) 1
    (unless (is_grade b) 2
    (unless (is_free_count f) 17
    (unless (eqb (length bytes) (message_bytes k b)) 3
    (unless (eqb n (2 ^ k)) 4
    (cond (free_set k b f bytes) 5 0)))))

-- the bytes are SENT at kind k and grade b, with f free bits: sending accepts them, where as many coordinates are lent as the kind has
abbrev pub Accepts : ℕ → ℕ → ℕ → List ℕ → Type 0
Accepts k b f bytes = send_refusal k b f bytes (2 ^ k) ≡ 0

-- ---- what sending under a number leaves, where it answers `refusal`: the sent frame and its energy, or the lent frame as it was and 0

unfoldable pub frame_after : ℕ → ℕ → ℕ → ℕ → ℕ → List ℕ → List ℤ → List ℤ
unfolding quiet_frame
frame_after refusal k b f number bytes frame = cond (eqb refusal 0) (quiet_frame k b f number bytes) frame

unfoldable pub energy_sent : ℕ → ℕ → ℕ → ℕ → ℕ → List ℕ → ℕ
unfolding quiet_frame energy
energy_sent refusal k b f number bytes = cond (eqb refusal 0) (energy (quiet_frame k b f number bytes)) 0

-- what sending promises of the frame that it wrote and of the energy e that it reports: e is the frame's energy, every integer frame
-- that differs from it by a point of the shaping lattice has at least that, and no coordinate is larger than M in size
pub record LeastEnergy (k b : ℕ) (f : List ℤ) (e : ℕ) : Type 0 where
  pub reported : e ≡ energy f
  pub least : (g : List ℤ) → SameClass k b f g → e ≤ energy g
  pub small : Within (scale k b) f

-- "energy is least over all fillings' classes": the same, and every integer frame that differs by a lattice point from the frame of any filling has at
-- least that energy too
pub record LeastOfFillings (k b f number : ℕ) (bytes : List ℕ) (frame : List ℤ) (e : ℕ) : Type 0 where
  pub own : LeastEnergy k b frame e
  pub all : (φ : ℕ) → φ < 2 ^ f → (g : List ℤ) → SameClass k b (filled_frame k b f number bytes φ) g → e ≤ energy g
