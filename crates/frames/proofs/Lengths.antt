-- How long the pieces of a message read from a frame are: the levels, the blocks, and all of it. Assumes nothing.
use Prim.Native.Nat.{ℕ, zero, suc, ◌+◌, ◌*◌, ◌-◌, ◌^◌, ◌≤◌, ◌<◌}
use mathlib.Core.Path.{◌≡◌, refl, ap, ap₂, ◌∙◌}
use mathlib.Core.List.{List, [], ◌∷◌}
use native.Mathlib.Numerals.{add-one}
use native.Mathlib.Omega.{arith}
use lib.ListN.{length, get_or, take, length-append, length-take, length-drop}
use lib.IntN.{ℤ}
use Rattle.reed_muller.specs.Level.{dimension}
use Rattle.e8.specs.Lattice.{part}
use Rattle.e8.specs.Rows.{reduced}
use Rattle.e8.proofs.Rows.{reduced-length}
use Rattle.frames.specs.Kind.{degrees, levels, blocks, dimensions, level_bits, message_bits}
use Rattle.frames.specs.Message.{widths}
use Rattle.frames.specs.Frame.{level_word}
use Rattle.frames.specs.Reading.{level_message, level_messages, quotients, all_digits, block_messages, read_bits}
use Rattle.frames.proofs.Stacked.{level-length}
use Rattle.frames.proofs.Numbers.{all-length, total-widths}
use Rattle.frames.proofs.Frame.{quotients-length}

-- ---- the levels, each of which begins where the one before ends

pub dimensions-more : (m : ℕ) (rs : List ℕ) (i : ℕ) → i < length rs → dimensions m (take (i + 1) rs) ≡ dimensions m (take i rs) + dimension (get_or rs i 0) m
dimensions-more m rs i h = rw (add-one i) (next m rs i h)
  where
    next : (m : ℕ) (rs : List ℕ) (i : ℕ) → i < length rs → dimensions m (take (suc i) rs) ≡ dimensions m (take i rs) + dimension (get_or rs i 0) m
    next m [] i h = absurd (omega arith)
    next m (r ∷ rs) zero h = omega arith
    next m (r ∷ rs) (suc i) h = omega (arith, next m rs i (omega arith))

pub dimensions-le : (m : ℕ) (rs : List ℕ) (i : ℕ) → dimensions m (take i rs) ≤ dimensions m rs
dimensions-le m rs zero = omega arith
dimensions-le m [] (suc i) = omega arith
dimensions-le m (r ∷ rs) (suc i) = omega (arith, dimensions-le m rs i)

-- where the next level of a kind begins
pub level-end : (k i : ℕ) → i < levels k → dimensions k (take (i + 1) (degrees k)) ≡ dimensions k (take i (degrees k)) + dimension (get_or (degrees k) i 0) k
unfolding levels
level-end k i h = dimensions-more k (degrees k) i h

-- ---- what is read

pub levels-length : (m i : ℕ) (rs : List ℕ) (f : List ℤ) → length (level_messages m i rs f) ≡ dimensions m rs
unfolding level_messages
levels-length m i [] f = refl
levels-length m i (r ∷ rs) f =
    length-append (level_message m r (level_word i f)) (level_messages m (suc i) rs f) ∙ ap₂ ◌+◌ (level-length m r (level_word i f)) (levels-length m (suc i) rs f)

-- the bits of block j
pub block-bits : (b j : ℕ) (v : List ℤ) → 1 ≤ b → 8 * j + 8 ≤ length v → length (all_digits (widths b) (reduced (2 ^ (b - 1)) (part j v))) ≡ 8 * b
block-bits b j v h l =
    all-length (widths b) (reduced (2 ^ (b - 1)) (part j v)) (omega (arith, reduced-length (2 ^ (b - 1)) (part j v), eight)) ∙ total-widths b h
  where
    eight : length (part j v) ≡ 8
    eight = simp (length-take, length-drop) (omega arith)

pub blocks-length : (b j : ℕ) (v : List ℤ) → 1 ≤ b → 8 * j ≤ length v → length (block_messages b j v) ≡ 8 * b * j
unfolding block_messages
blocks-length b zero v h l = omega arith
blocks-length b (suc j) v h l =
    length-append (block_messages b j v) (all_digits (widths b) (reduced (2 ^ (b - 1)) (part j v)))
    ∙ omega (arith, blocks-length b j v h (omega arith), block-bits b j v h (omega arith))

-- the bits read from a frame are as many as a message has
pub read_length : (k b : ℕ) (f : List ℤ) → 8 * blocks k ≡ 2 ^ k → 1 ≤ b → length f ≡ 2 ^ k → length (read_bits k b f) ≡ message_bits k b
unfolding read_bits message_bits level_bits
read_length k b f whole h l =
    length-append (level_messages k 0 (degrees k) f) (block_messages b (blocks k) (quotients (levels k) f))
    ∙ omega (
      arith,
      levels-length k 0 (degrees k) f,
      blocks-length b (blocks k) (quotients (levels k) f) h (omega (arith, quotients-length (levels k) f)),
      ap (λ (n : ℕ). n * b) whole,
    )
