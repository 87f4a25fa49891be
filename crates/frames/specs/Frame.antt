-- Frames: the coding set, the shaping lattice of a kind and grade, and the sent frame (document 01, "Message to coset leader", "Shaping"; request E5
-- for the number of a frame). Assumes nothing.
use Rattle.std.specs.Prelude.{ℕ, suc, ◌+◌, ◌-◌, ◌/◌, ◌%◌, ◌^◌, ◌<◌, ◌≡◌, Bool, true, List, eqb, length, get_or, ℤ, pos}
use Rattle.integers.specs.Integer.{mod_z}
use Rattle.reed_muller.specs.Level.{belongs}
use Rattle.e8.specs.Lattice.{Differ}
use Rattle.e8.specs.Least.{IsLeast, least_frame}
use Rattle.e8.specs.Ties.{least_frame_by}
use Rattle.frames.specs.Kind.{degrees, levels, blocks}
use Rattle.frames.specs.Message.{leader}

-- the bit of weight 2^i of a whole number, from its remainder modulo 2^(i+1), which is never negative
unfoldable pub weight_bit : ℕ → ℤ → ℕ
weight_bit i z = mod_z z (2 ^ suc i) / 2 ^ i

-- level i of a frame: its bits of weight 2^i, by position
abbrev pub level_word : ℕ → List ℤ → ℕ → ℕ
level_word i f p = weight_bit i (get_or f p (pos 0))

-- the frame is in the coding set of kind k
pub record InCodingSet (k : ℕ) (f : List ℤ) : Type 0 where
  pub long : length f ≡ 2 ^ k
  pub codewords : (i : ℕ) → i < levels k → belongs (get_or (degrees k) i 0) k (level_word i f) ≡ true

-- half the scale: M is twice this
unfoldable pub half : ℕ → ℕ → ℕ
unfolding levels
half k b = 2 ^ (levels k + b - 1)

-- two frames differ by a point of the shaping lattice
abbrev pub SameClass : ℕ → ℕ → List ℤ → List ℤ → Type 0
SameClass k b f g = Differ (half k b) (blocks k) f g

-- the tie rule of a frame's number: an odd one is sent as the last in reading order among the least (true), an even one as the first (false)
unfoldable pub is_odd : ℕ → Bool
is_odd number = eqb (number % 2) 1

-- f is sent for the message under a number: in the class of its leader, of least energy there, and among equals the one of the number's tie rule
abbrev pub Sent : ℕ → ℕ → ℕ → List ℕ → List ℤ → Type 0
Sent k b number bytes f = IsLeast (is_odd number) (half k b) (blocks k) (leader k b bytes) f

-- THE FRAME OF A NUMBER, computed: the one frame that is sent for the message under it
unfoldable pub numbered_frame : ℕ → ℕ → ℕ → List ℕ → List ℤ
unfolding half leader least_frame_by
numbered_frame k b number bytes = least_frame_by (is_odd number) (half k b) (blocks k) (leader k b bytes)

-- THE SENT FRAME of document 01, computed: the frame of number 0
unfoldable pub sent_frame : ℕ → ℕ → List ℕ → List ℤ
unfolding half leader least_frame
sent_frame k b bytes = least_frame (half k b) (blocks k) (leader k b bytes)

-- the least squared distance of a kind's coding set: 4, 8, 16, 32 for kinds 3, 4, 5, 6
abbrev pub least_distance : ℕ → ℕ
least_distance k = 2 ^ (k - 1)
