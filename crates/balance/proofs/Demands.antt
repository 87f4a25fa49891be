-- REQUEST E5 as theorems: over all messages of a kind and grade the frames for one even and one odd number add up to zero in every coordinate.
-- For every kind of the table and every grade. Assumes nothing.
use Prim.Native.Nat.{ℕ, ◌%◌, ◌<◌}
use mathlib.Core.Path.{◌≡◌, sym, ap, ◌∙◌}
use mathlib.Core.Bool.{true}
use mathlib.Core.List.{List}
use native.Mathlib.Omega.{arith}
use lib.IntN.{ℤ, neg_ℤ}
use Rattle.integers.proofs.Zed.{`◌, #◌, ◌⊕◌, ⊝◌, eq!, eq?}
use Rattle.e8.proofs.Negation.{negated-at}
use Rattle.frames.specs.Kind.{is_kind, is_grade}
use Rattle.frames.specs.Frame.{numbered_frame}
use Rattle.frames.proofs.Frame.{at}
use Rattle.balance.specs.Total.{message_of, messages, total, AddUpToZero}
use Rattle.balance.proofs.Sums.{sum_z-ext, sum_z-negated, sum-turned}
use Rattle.balance.proofs.Each.{index_of, index_below, index_back, message-back, each-once}
use Rattle.balance.proofs.Mirrored.{mirror, mirror-message, mirror-twice, odd-frame}

module _ (k b : ℕ) (kind : is_kind k ≡ true) (grade : is_grade b ≡ true) where
  -- the number of the mirror
  turn : ℕ → ℕ
  turn i = index_of k b (mirror k b (message_of k b i))

  -- its message is the mirror
  turn-message : (i : ℕ) → message_of k b (turn i) ≡ mirror k b (message_of k b i)
  unfolding turn
  turn-message i = message-back k b (mirror k b (message_of k b i)) (mirror-message k b kind grade (message_of k b i))

  -- it is one of the numbers
  turn_below : (i : ℕ) → turn i < messages k b
  unfolding turn
  turn_below i = index_below k b (mirror k b (message_of k b i))

  -- turned twice, a number is itself again
  turn_twice : (i : ℕ) → i < messages k b → turn (turn i) ≡ i
  unfolding turn
  turn_twice i h =
      ap (λ (x : List ℕ). index_of k b (mirror k b x)) (turn-message i)
      ∙ ap (index_of k b) (mirror-twice k b kind grade (message_of k b i) ((each-once k b).message i h)) ∙ index_back k b i h

  module _ (even odd : ℕ) (is-even : even % 2 ≡ 0) (is_odd : odd % 2 ≡ 1) where
    module _ (p : ℕ) where
      -- coordinate p of the frame of message i under a number
      abbrev at-message : ℕ → ℕ → ℤ
      at-message number i = at (numbered_frame k b number (message_of k b i)) p

      -- under the odd number it is the opposite of the mirror's under the even one
      odd-at : (i : ℕ) → at-message odd i ≡ neg_ℤ (at-message even (turn i))
      odd-at i =
          ap (λ (f : List ℤ). at f p) (odd-frame k b kind grade even odd is-even is_odd (message_of k b i))
          ∙ negated-at (numbered_frame k b even (mirror k b (message_of k b i))) p
          ∙ ap (λ (x : List ℕ). neg_ℤ (at (numbered_frame k b even x) p)) (sym (turn-message i))

      -- the frames of the odd number add up to the opposite of what those of the even one do
      pub odd-opposite : total k b odd p ≡ neg_ℤ (total k b even p)
      unfolding total
      odd-opposite =
          sum_z-ext (messages k b) (at-message odd) (λ i. neg_ℤ (at-message even (turn i))) (λ i h. odd-at i)
          ∙ sum_z-negated (messages k b) (λ i. at-message even (turn i))
          ∙ ap neg_ℤ (sum-turned (messages k b) turn (λ i h. turn_below i) turn_twice (at-message even))

    -- THE ZERO SUM: "over all messages of a kind and grade, the frames for one even and one odd number add up to zero in every coordinate"
    pub zero-sum : AddUpToZero k b even odd
    zero-sum = record {
      each = λ p. eq! (` (total k b even p) ⊕ ` (total k b odd p)) (# 0)
          (omega (arith, eq? (` (total k b odd p)) (⊝ ` (total k b even p)) (odd-opposite p)));
    }
