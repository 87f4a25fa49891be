-- The mirror of a message: the message of the negated leader. It is its own inverse, and its frame under an even number is, negated, the message's
-- own under an odd one. For every kind of the table and every grade. Assumes nothing.
use Prim.Native.Nat.{ℕ, ◌%◌}
use mathlib.Core.Path.{◌≡◌, sym, ap, ◌∙◌, subst}
use mathlib.Core.Bool.{true, false}
use mathlib.Core.List.{List}
use lib.IntN.{ℤ}
use Rattle.e8.specs.Ties.{negated, least_frame_by}
use Rattle.e8.proofs.Frame.{differ-trans}
use Rattle.e8.proofs.Negation.{negated-twice, negated-length, differ-negated}
use Rattle.e8.proofs.Ties.{least_frame_by-class, last-is}
use Rattle.frames.specs.Kind.{is_kind, is_grade, blocks}
use Rattle.frames.specs.Message.{Message, leader}
use Rattle.frames.specs.Frame.{InCodingSet, half, SameClass, numbered_frame}
use Rattle.frames.specs.Reading.{open_message}
use Rattle.frames.proofs.Demands.{half_pos, leader-blocks, leader-in-set, read-message, leader-class, same-leaders}
use Rattle.frames.proofs.Closure.{set-negated}
use Rattle.frames.proofs.Numbered.{even-number, odd_number}

-- the message of the negated class
abbrev pub mirror : ℕ → ℕ → List ℕ → List ℕ
mirror k b bytes = open_message k b (negated (leader k b bytes))

module _ (k b : ℕ) (kind : is_kind k ≡ true) (grade : is_grade b ≡ true) where
  -- the negated leader is in the coding set
  in-set : (bytes : List ℕ) → InCodingSet k (negated (leader k b bytes))
  in-set bytes = set-negated k kind (leader k b bytes) (leader-in-set k b kind bytes)

  -- and so the mirror is a message
  pub mirror-message : (bytes : List ℕ) → Message k b (mirror k b bytes)
  mirror-message bytes = read-message k b kind grade (negated (leader k b bytes)) (in-set bytes)

  -- the negated leader is in the class of the mirror's leader
  leaders : (bytes : List ℕ) → SameClass k b (negated (leader k b bytes)) (leader k b (mirror k b bytes))
  leaders bytes = leader-class k b kind grade (negated (leader k b bytes)) (in-set bytes)

  -- and so, negated twice, the leader in that of the mirror's mirror
  pub mirror-twice : (bytes : List ℕ) → Message k b bytes → mirror k b (mirror k b bytes) ≡ bytes
  mirror-twice bytes m = sym (same-leaders k b kind grade bytes (mirror k b (mirror k b bytes)) m (mirror-message (mirror k b bytes))
      (differ-trans (half k b) (blocks k) (leader k b bytes) (negated (leader k b (mirror k b bytes))) (leader k b (mirror k b (mirror k b bytes)))
      (subst (λ (x : List ℤ). SameClass k b x (negated (leader k b (mirror k b bytes)))) (negated-twice (leader k b bytes))
      (differ-negated (half k b) (blocks k) (negated (leader k b bytes)) (leader k b (mirror k b bytes)) (leaders bytes)))
      (leaders (mirror k b bytes))))

  -- THE FRAME of a message under an odd number is that of its mirror under an even one, negated
  pub odd-frame : (even odd : ℕ) → even % 2 ≡ 0 → odd % 2 ≡ 1 → (bytes : List ℕ)
      → numbered_frame k b odd bytes ≡ negated (numbered_frame k b even (mirror k b bytes))
  unfolding numbered_frame
  odd-frame even odd he ho bytes =
      ap (λ last. least_frame_by last (half k b) (blocks k) (leader k b bytes)) (odd_number odd ho)
      ∙ last-is (half k b) (blocks k) (leader k b bytes)
      ∙ ap negated (least_frame_by-class (half k b) (half_pos k b) (blocks k) false (negated (leader k b bytes)) (leader k b (mirror k b bytes))
      (negated-length (leader k b bytes) ∙ leader-blocks k b kind bytes) (leaders bytes)
      ∙ ap (λ last. least_frame_by last (half k b) (blocks k) (leader k b (mirror k b bytes))) (sym (even-number even he)))
