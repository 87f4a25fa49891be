-- THE TWO READINGS as theorems, sentence by sentence: which frames each one takes, by which number the others are refused, and the message that is given.
-- For every kind of the table, every grade and every number of a frame. Assumes nothing.
use Prim.Native.Nat.{ℕ, ◌^◌}
use mathlib.Core.Path.{◌≡◌, sym, ◌∙◌, subst}
use mathlib.Core.Logic.{◌⊎◌, inl, inr}
use mathlib.Core.Bool.{true}
use mathlib.Core.List.{List}
use native.Mathlib.Omega.{arith}
use lib.ListN.{length}
use lib.IntN.{ℤ}
use Rattle.e8.specs.Ties.{least_frame_by}
use Rattle.e8.proofs.Frame.{differ-refl, differ-sym, differ-trans}
use Rattle.e8.proofs.Ties.{least_frame_by-class}
use Rattle.e8.proofs.Within.{within-to}
use Rattle.frames.specs.Kind.{is_kind, is_grade, degrees, blocks, message_bytes, scale}
use Rattle.frames.specs.Message.{Message, leader}
use Rattle.frames.specs.Frame.{InCodingSet, half, SameClass, is_odd, numbered_frame}
use Rattle.frames.specs.Free.{is_free_count}
use Rattle.frames.specs.Reading.{open_message, largest_read, in_range, broken, open_refusal}
use Rattle.frames.specs.Demands.{FirstBroken}
use Rattle.frames.proofs.Rows.{grade-low}
use Rattle.frames.proofs.Limits.{shape, scale-128}
use Rattle.frames.proofs.Demands.{half_pos, sent-within, sent-in-set, read-message, leader-class, read-class, same-leaders, exactly-one}
use Rattle.frames.proofs.Refusals.{within-range, Accepted, accepted}
use Rattle.frames.proofs.Refusals.{levels-decide, levels-answer, set-passes, broken-refuses, seven-eight-thirteen}

module _ (k b : ℕ) (kind : is_kind k ≡ true) (grade : is_grade b ≡ true) where
  -- ---- the message that the open reading gives

  -- "The open reading gives the message of any frame of the coding set": the one of demand 3
  pub open-gives-the-one : (number : ℕ) (f : List ℤ) (set : InCodingSet k f) → open_message k b f ≡ (exactly-one k b kind grade number f set).bytes
  open-gives-the-one number f set =
      (exactly-one k b kind grade number f set).only (open_message k b f) (read-message k b kind grade f set) (read-class k b kind grade number f set)

  -- two frames of the coding set that are given the same message differ by a lattice point
  pub same-message-same-class : (f g : List ℤ) → InCodingSet k f → InCodingSet k g → open_message k b f ≡ open_message k b g → SameClass k b f g
  same-message-same-class f g sf sg e =
      differ-trans (half k b) (blocks k) f (leader k b (open_message k b f)) g (leader-class k b kind grade f sf)
      (subst (λ (x : List ℕ). SameClass k b (leader k b x) g) (sym e)
      (differ-sym (half k b) (blocks k) g (leader k b (open_message k b g)) (leader-class k b kind grade g sg)))

  -- and the other way round
  pub same-class-same-message : (f g : List ℤ) → InCodingSet k f → InCodingSet k g → SameClass k b f g → open_message k b f ≡ open_message k b g
  same-class-same-message f g sf sg d =
      same-leaders k b kind grade (open_message k b f) (open_message k b g) (read-message k b kind grade f sf) (read-message k b kind grade g sg)
      (differ-trans (half k b) (blocks k) (leader k b (open_message k b f)) g (leader k b (open_message k b g))
      (differ-trans (half k b) (blocks k) (leader k b (open_message k b f)) f g
      (differ-sym (half k b) (blocks k) f (leader k b (open_message k b f)) (leader-class k b kind grade f sf)) d)
      (leader-class k b kind grade g sg))

  -- ---- the sent frame of what is read

  -- THE FRAME OF A NUMBER for a frame's message is the least member of the frame's own class: no message is needed to find it
  pub sent-is-least : (number : ℕ) (f : List ℤ) → InCodingSet k f
      → numbered_frame k b number (open_message k b f) ≡ least_frame_by (is_odd number) (half k b) (blocks k) f
  unfolding numbered_frame
  sent-is-least number f set = sym (least_frame_by-class (half k b) (half_pos k b) (blocks k) (is_odd number) f (leader k b (open_message k b f))
      (set.long ∙ sym (shape k kind).whole) (leader-class k b kind grade f set))

  -- ---- reading what sending writes gives the message back

  pub read-sent : (number : ℕ) (bytes : List ℕ) → Message k b bytes → open_message k b (numbered_frame k b number bytes) ≡ bytes
  read-sent number bytes m =
      open-gives-the-one number f set ∙ sym ((exactly-one k b kind grade number f set).only bytes m (differ-refl (half k b) (blocks k) f (set.long ∙ sym (shape k kind).whole)))
    where
      f : List ℤ
      f = numbered_frame k b number bytes

      set : InCodingSet k f
      set = sent-in-set k b kind grade number bytes

  -- a sent frame passes the test of the range, since M is at most 128
  pub sent-in-range : (number : ℕ) (bytes : List ℕ) → in_range (numbered_frame k b number bytes) ≡ true
  sent-in-range number bytes = within-range (numbered_frame k b number bytes)
      (within-to (scale k b) largest_read (numbered_frame k b number bytes) (omega (arith, scale-128 k b kind grade))
      (sent-within k b kind (grade-low b grade) number bytes))

  -- ---- which frames the open reading takes; n message bytes are lent

  module _ (c : ℕ) (few : is_free_count c ≡ true) (f : List ℤ) (n : ℕ) (bytes : n ≡ message_bytes k b) where
    -- a frame of the coding set is refused by none
    pub inside-taken : InCodingSet k f → in_range f ≡ true → open_refusal k b c f n ≡ 0
    inside-taken set range = levels-decide k b c f n kind grade few set.long bytes range ∙ set-passes k f set

    -- one outside is refused by the number of the first level that is not a codeword
    pub outside-broken : length f ≡ 2 ^ k → in_range f ≡ true → (InCodingSet k f → ⊥) → FirstBroken k f (open_refusal k b c f n)
    outside-broken l range out = subst (FirstBroken k f) (sym (levels-decide k b c f n kind grade few l bytes range)) (go (levels-answer k f l))
      where
        go : InCodingSet k f ⊎ FirstBroken k f (broken k 0 (degrees k) f) → FirstBroken k f (broken k 0 (degrees k) f)
        go (inl set) = absurd (out set)
        go (inr first) = first

    -- which is 7, 8 or 13, and no other
    pub outside-refused : length f ≡ 2 ^ k → in_range f ≡ true → (InCodingSet k f → ⊥)
        → (open_refusal k b c f n ≡ 7) ⊎ ((open_refusal k b c f n ≡ 8) ⊎ (open_refusal k b c f n ≡ 13))
    outside-refused l range out = seven-eight-thirteen k f (open_refusal k b c f n) kind (outside-broken l range out)

-- a frame that the open reading takes is of the coding set
pub taken-in-set : (k b c : ℕ) (f : List ℤ) (n : ℕ) → open_refusal k b c f n ≡ 0 → InCodingSet k f
taken-in-set k b c f n e = go (levels-answer k f a.coordinates)
  where
    a : Accepted k b c f n
    a = accepted k b c f n e

    go : InCodingSet k f ⊎ FirstBroken k f (broken k 0 (degrees k) f) → InCodingSet k f
    go (inl set) = set
    go (inr first) = absurd (omega (arith, broken-refuses k f (broken k 0 (degrees k) f) a.kind first, a.words))
