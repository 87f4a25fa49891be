-- The message that the levels of a frame hold. Assumes nothing.
use Prim.Native.Nat.{ℕ, suc, ◌+◌, ◌≤◌}
use mathlib.Core.Path.{◌≡◌, refl, ap, ap₂}
use mathlib.Core.Bool.{true}
use mathlib.Core.List.{List, [], ◌∷◌, ◌++◌}
use native.Mathlib.Omega.{arith}
use lib.ListN.{length, get_or}
use lib.IntN.{ℤ}
use Rattle.bits.specs.Message.{bytes_of}
use Rattle.bits.proofs.Table.{table-ext}
use Rattle.reed_muller.specs.Level.{order, dimension}
use Rattle.reed_muller.proofs.Order.{order_below, dimension-small}
use Rattle.frames.specs.Kind.{is_kind, degrees, levels, blocks, message_bytes}
use Rattle.frames.specs.Reading.{level_message, level_messages, quotients, block_messages, read_bits, open_message}
use Rattle.frames.proofs.Levels.{Fit}
use Rattle.frames.proofs.Limits.{shape}
use Rattle.frame_levels.specs.Words.{backward_words}
use Rattle.frame_levels.proofs.Words.{word-bit}
use Rattle.frame_message.specs.Held.{held_messages, held_bits, held_message}

module _ (k : ℕ) (kind : is_kind k ≡ true) (f : List ℤ) where
  messages-from : (i : ℕ) (rs : List ℕ) → i + length rs ≤ levels k → Fit k rs → held_messages k i rs (backward_words k f) ≡ level_messages k i rs f
  unfolding held_messages level_messages level_message
  messages-from i [] h fit = refl
  messages-from i (r ∷ rs) h fit =
      ap₂ ◌++◌
      (table-ext (dimension r k) (λ t l. word-bit k kind f i (omega arith) (get_or (order k) t 0) (order_below k t (omega (arith, dimension-small r k fit.0)))))
      (messages-from (suc i) rs (omega arith) fit.1)

  -- THE MESSAGE that the words of a frame hold is the frame's
  pub held-message : (b : ℕ) → held_message k b f (backward_words k f) ≡ open_message k b f
  unfolding held_message held_bits open_message read_bits levels
  held-message b =
      ap (λ (row : List ℕ). bytes_of (message_bytes k b) (λ i. get_or (row ++ block_messages b (blocks k) (quotients (levels k) f)) i 0))
      (messages-from 0 (degrees k) (omega arith) (shape k kind).fit)
