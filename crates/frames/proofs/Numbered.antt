-- The number of a frame: its tie rule, document 01's frame as that of number 0, and what is the same under every number. Assumes nothing.
use Prim.Native.Nat.{ℕ, ◌%◌}
use mathlib.Core.Path.{◌≡◌, refl, ap}
use mathlib.Core.Bool.{true, false}
use mathlib.Core.List.{List}
use native.Mathlib.Omega.{arith}
use borrow.Author.Tests.{eq-eqb, ne_eqb}
use Rattle.e8.specs.Energy.{energy}
use Rattle.e8.specs.Largest.{largest_block}
use Rattle.e8.specs.Ties.{least_frame_by}
use Rattle.e8.proofs.Ties.{same-energy, same-largest}
use Rattle.frames.specs.Kind.{is_kind, blocks}
use Rattle.frames.specs.Message.{leader}
use Rattle.frames.specs.Frame.{half, is_odd, numbered_frame, sent_frame}
use Rattle.frames.proofs.Demands.{half_pos, leader-blocks}

-- ---- the tie rule

pub even-number : (number : ℕ) → number % 2 ≡ 0 → is_odd number ≡ false
unfolding is_odd
even-number number h = ne_eqb (number % 2) 1 (omega arith)

pub odd_number : (number : ℕ) → number % 2 ≡ 1 → is_odd number ≡ true
unfolding is_odd
odd_number number h = eq-eqb (number % 2) 1 h

-- DOCUMENT 01'S SENT FRAME is the frame of number 0
pub number-zero : (k b : ℕ) (bytes : List ℕ) → numbered_frame k b 0 bytes ≡ sent_frame k b bytes
unfolding numbered_frame is_odd least_frame_by sent_frame
number-zero k b bytes = refl

-- numbers of one tie rule have one frame
pub same-rule : (k b number other : ℕ) (bytes : List ℕ) → is_odd number ≡ is_odd other → numbered_frame k b number bytes ≡ numbered_frame k b other bytes
unfolding numbered_frame
same-rule k b number other bytes e = ap (λ last. least_frame_by last (half k b) (blocks k) (leader k b bytes)) e

-- ---- the same under every number

module _ (k b : ℕ) (kind : is_kind k ≡ true) (number other : ℕ) (bytes : List ℕ) where
  pub same-energy-sent : energy (numbered_frame k b number bytes) ≡ energy (numbered_frame k b other bytes)
  unfolding numbered_frame
  same-energy-sent =
      same-energy (half k b) (half_pos k b) (blocks k) (is_odd number) (is_odd other) (leader k b bytes) (leader-blocks k b kind bytes)

  -- also of the largest block
  pub same-largest-sent : largest_block (numbered_frame k b number bytes) ≡ largest_block (numbered_frame k b other bytes)
  unfolding numbered_frame
  same-largest-sent =
      same-largest (half k b) (half_pos k b) (is_odd number) (is_odd other) (blocks k) (leader k b bytes) (leader-blocks k b kind bytes)
