-- The message of a frame whose levels are held in numbers, taken backwards. Contracts below the entry points cite it. Assumes nothing.
use Rattle.std.specs.Prelude.{ℕ, suc, ◌/◌, ◌%◌, ◌^◌, List, [], ◌∷◌, ◌++◌, get_or, ℤ}
use Rattle.bits.specs.Number.{table}
use Rattle.bits.specs.Message.{bytes_of}
use Rattle.reed_muller.specs.Level.{order, dimension}
use Rattle.frames.specs.Kind.{degrees, levels, blocks, message_bytes}
use Rattle.frames.specs.Reading.{quotients, block_messages}

-- the message bits of the levels from i on, one behind the other: the bits of the first masks of the order
unfoldable pub held_messages : ℕ → ℕ → List ℕ → List ℕ → List ℕ
unfolding table
held_messages m i [] words = []
held_messages m i (r ∷ rs) words = table (dimension r m) (λ t. get_or words i 0 / 2 ^ get_or (order m) t 0 % 2) ++ held_messages m (suc i) rs words

-- all message bits, those of the levels from the words and those of the blocks from the frame
unfoldable pub held_bits : ℕ → ℕ → List ℤ → List ℕ → List ℕ
unfolding held_messages block_messages quotients degrees levels
held_bits k b f words = held_messages k 0 (degrees k) words ++ block_messages b (blocks k) (quotients (levels k) f)

-- and these as bytes, spare bits 0
unfoldable pub held_message : ℕ → ℕ → List ℤ → List ℕ → List ℕ
unfolding held_bits message_bytes
held_message k b f words = bytes_of (message_bytes k b) (λ i. get_or (held_bits k b f words) i 0)
