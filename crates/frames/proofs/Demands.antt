-- THE DEMANDS as theorems, sentence by sentence: what is sent, that its energy is least, one message for each class, and the distance (that it is reached
-- stands in long_frames).
-- For every kind of the table, every grade and every number of a frame. Assumes nothing.
use Prim.Native.Nat.{ℕ, zero, suc, ◌+◌, ◌-◌, ◌*◌, ◌/◌, ◌%◌, ◌^◌, ◌≤◌, ◌<◌}
use mathlib.Core.Path.{◌≡◌, refl, sym, ap, ◌∙◌, subst}
use mathlib.Core.Bool.{true}
use mathlib.Core.List.{List}
use native.Mathlib.Omega.{arith}
use lib.ListN.{length, get_or}
use lib.Pow.{pow_pos}
use lib.IntN.{ℤ, pos, ◌+ℤ◌, ◌-ℤ◌, ◌*ℤ◌}
use Rattle.integers.proofs.Zed.{#◌, ◌⊕◌, ◌⊗◌, eq! }
use Rattle.bits.specs.Number.{sum_to}
use Rattle.bits.specs.Message.{message_bit}
use Rattle.e8.specs.Energy.{sq, energy, distance, Within}
use Rattle.e8.proofs.Frame.{differ-refl, differ-sym, differ-trans}
use Rattle.e8.proofs.Ties.{least_frame_by-is, least_frame_by-only, least_frame_by-within}
use Rattle.frames.specs.Kind.{is_kind, is_grade, degrees, levels, blocks, scale}
use Rattle.frames.specs.Message.{Bytes, Message, block_numbers, coordinate, leader}
use Rattle.frames.specs.Frame.{InCodingSet, half, SameClass, is_odd, Sent, numbered_frame, least_distance}
use Rattle.frames.specs.Sending.{Accepts, LeastEnergy}
use Rattle.frames.specs.Reading.{open_message}
use Rattle.frames.specs.Demands.{Sendable, OneMessage}
use Rattle.frames.proofs.Levels.{Codes, apart_by, apart}
use Rattle.frames.proofs.Stacked.{stacked-codes, codes-plus}
use Rattle.frames.proofs.Frame.{at, codes-of, of-codes}
use Rattle.frames.proofs.Class.{Shape, scale-is, class-codes}
use Rattle.frames.proofs.One.{leader-length, leader-at, open-message, open-class, one-message}
use Rattle.frames.proofs.Rows.{grade-low}
use Rattle.frames.proofs.Limits.{shape, distances}
use Rattle.frames.proofs.Distance.{distance-sum, Apart, somewhere}
use Rattle.frames.proofs.Accepted.{message-accepted, accepted-exactly}

pub half_pos : (k b : ℕ) → 0 < half k b
unfolding half
half_pos k b = pow_pos (levels k + b - 1)

-- a grade is one more than some number
pub record Above (b : ℕ) : Type 0 where
  pub less : ℕ
  pub is : b ≡ suc less

pub grade-above : (b : ℕ) → 1 ≤ b → Above b
grade-above zero h = absurd (omega arith)
grade-above (suc c) h = record { less = c; is = refl }

-- ---- what is sent: for any bytes at all, under any number

pub leader-blocks : (k b : ℕ) → is_kind k ≡ true → (bytes : List ℕ) → length (leader k b bytes) ≡ 8 * blocks k
leader-blocks k b kind bytes = leader-length k b bytes ∙ sym (shape k kind).whole

module _ (k b : ℕ) (kind : is_kind k ≡ true) (grade : 1 ≤ b) (number : ℕ) where
  -- "The frame that sending gives is the sent frame": it is in the class of the leader, no member has less energy,
  -- and among the members of that energy it is the first in reading order under an even number, the last under an odd one
  pub sent-frame : (bytes : List ℕ) → Sent k b number bytes (numbered_frame k b number bytes)
  unfolding numbered_frame
  sent-frame bytes = least_frame_by-is (half k b) (half_pos k b) (blocks k) (is_odd number) (leader k b bytes) (leader-blocks k b kind bytes)

  -- and it is the only frame like that
  pub sent-only : (bytes : List ℕ) (f : List ℤ) → Sent k b number bytes f → f ≡ numbered_frame k b number bytes
  unfolding numbered_frame
  sent-only bytes f s = least_frame_by-only (half k b) (half_pos k b) (blocks k) (is_odd number) (leader k b bytes) f (leader-blocks k b kind bytes) s

  -- "every other integer frame, however large, that differs by a lattice point has at least as much"
  pub sent-least : (bytes : List ℕ) (f : List ℤ) → SameClass k b (numbered_frame k b number bytes) f → energy (numbered_frame k b number bytes) ≤ energy f
  sent-least bytes f d = (sent-frame bytes).least f
      (differ-trans (half k b) (blocks k) (leader k b bytes) (numbered_frame k b number bytes) f (sent-frame bytes).member d)

  pub sent-length : (bytes : List ℕ) → length (numbered_frame k b number bytes) ≡ 2 ^ k
  sent-length bytes = (sent-frame bytes).member.long ∙ leader-length k b bytes

  -- every coordinate of it is at most M in size
  pub sent-within : (bytes : List ℕ) → Within (scale k b) (numbered_frame k b number bytes)
  unfolding numbered_frame
  sent-within bytes =
      subst (λ (m : ℕ). Within m (numbered_frame k b number bytes)) (sym scale-half)
      (least_frame_by-within (half k b) (half_pos k b) (is_odd number) (blocks k) (leader k b bytes))
    where
      above : Above b
      above = grade-above b grade

      scale-half : scale k b ≡ 2 * half k b
      scale-half = subst (λ (d : ℕ). scale k d ≡ 2 * half k d) (sym above.is) (scale-is k above.less)

  -- what sending promises of the frame that it wrote, and of the energy that it reports
  pub least-energy : (bytes : List ℕ) (f : List ℤ) (e : ℕ) → f ≡ numbered_frame k b number bytes → e ≡ energy (numbered_frame k b number bytes)
      → LeastEnergy k b f e
  least-energy bytes f e q w = subst (λ (x : List ℤ). LeastEnergy k b x e) (sym q) (record {
    reported = w;
    least = λ g d. subst (λ (n : ℕ). n ≤ energy g) (sym w) (sent-least bytes g d);
    small = sent-within bytes;
  })

-- ---- the distance

-- "Any two different coding-set frames are at least the kind's squared distance apart": 4, 8, 16, 32
pub set_apart : (k : ℕ) → is_kind k ≡ true → (f g : List ℤ) → InCodingSet k f → InCodingSet k g → (f ≡ g → ⊥) → least_distance k ≤ distance f g
unfolding levels
set_apart k kind f g sf sg ne =
    subst (λ (d : ℕ). d ≤ distance f g) (distances k kind)
    (subst (λ (d : ℕ). apart_by k (degrees k) ≤ d) (sym (distance-sum f g same ∙ ap (λ (m : ℕ). sum_to m (λ p. sq (at f p -ℤ at g p))) sf.long))
    (apart k (degrees k) (shape k kind).fit (at f) (at g) (codes-of k (degrees k) f sf.codewords) (codes-of k (degrees k) g sg.codewords)
    a.position (omega (arith, a.inside, sf.long)) a.differ))
  where
    same : length f ≡ length g
    same = sf.long ∙ sym sg.long

    a : Apart f g
    a = somewhere f g same ne

-- ---- one message for each class

leader-codes : (k b : ℕ) → Shape k → (bytes : List ℕ) → Codes k (degrees k) (at (leader k b bytes))
unfolding coordinate
leader-codes k b s bytes =
    codes-plus k (degrees k) (at (leader k b bytes)) (λ p. pos (coordinate k b bytes p))
    (λ p h. record { w = pos 0; is = leader-at k b bytes p h ∙ none (2 ^ length (degrees k)) (coordinate k b bytes p) })
    (stacked-codes k (degrees k) s.fit (message_bit bytes) 0 (λ p. get_or (block_numbers k b bytes (p / 8)) (p % 8) 0))
  where
    none : (c n : ℕ) → pos n ≡ pos n +ℤ pos c *ℤ pos 0
    none c n = eq! (# n) (# n ⊕ # c ⊗ # 0) (omega arith)

-- what differs from a leader by a lattice point, at grade c + 1, is in the coding set
leader-class-in-set : (k c : ℕ) → is_kind k ≡ true → (bytes : List ℕ) (f : List ℤ) → SameClass k (suc c) (leader k (suc c) bytes) f → InCodingSet k f
unfolding levels
leader-class-in-set k c kind bytes f d = record {
  long = d.long ∙ leader-length k (suc c) bytes;
  codewords = of-codes k (degrees k) f
      (class-codes k c (shape k kind) (leader k (suc c) bytes) f (leader-length k (suc c) bytes) d (leader-codes k (suc c) (shape k kind) bytes));
}

-- and so is the leader
pub leader-in-set : (k b : ℕ) → is_kind k ≡ true → (bytes : List ℕ) → InCodingSet k (leader k b bytes)
unfolding levels
leader-in-set k b kind bytes = record {
  long = leader-length k b bytes;
  codewords = of-codes k (degrees k) (leader k b bytes) (leader-codes k b (shape k kind) bytes);
}

module _ (k b : ℕ) (kind : is_kind k ≡ true) (grade : is_grade b ≡ true) where
  low : 1 ≤ b
  low = grade-low b grade

  above : Above b
  above = grade-above b low

  -- the leader of a message and what is sent for it under a number
  sent-class : (number : ℕ) (bytes : List ℕ) → SameClass k b (leader k b bytes) (numbered_frame k b number bytes)
  sent-class number bytes = (sent-frame k b kind low number bytes).member

  -- a sent frame differs from itself by all zeros
  sent-same : (number : ℕ) (bytes : List ℕ) → SameClass k b (numbered_frame k b number bytes) (numbered_frame k b number bytes)
  sent-same number bytes =
      differ-refl (half k b) (blocks k) (numbered_frame k b number bytes) (sent-length k b kind low number bytes ∙ sym (shape k kind).whole)

  -- every frame that differs from a sent frame by a lattice point is in the coding set: with `exactly-one`, these are all of its frames
  pub class-in-set : (number : ℕ) (bytes : List ℕ) (f : List ℤ) → SameClass k b (numbered_frame k b number bytes) f → InCodingSet k f
  class-in-set number bytes f d =
      subst (λ (e : ℕ). SameClass k e (leader k e bytes) f → InCodingSet k f) (sym above.is) (leader-class-in-set k above.less kind bytes f)
      (differ-trans (half k b) (blocks k) (leader k b bytes) (numbered_frame k b number bytes) f (sent-class number bytes) d)

  -- the sent frame is in the coding set
  pub sent-in-set : (number : ℕ) (bytes : List ℕ) → InCodingSet k (numbered_frame k b number bytes)
  sent-in-set number bytes =
      class-in-set number bytes (numbered_frame k b number bytes) (sent-same number bytes)

  -- what the open reading gives is a message of the kind and grade
  pub read-message : (f : List ℤ) → InCodingSet k f → Message k b (open_message k b f)
  read-message f set = subst (λ (d : ℕ). Message k d (open_message k d f)) (sym above.is) (open-message k above.less (shape k kind) f set)

  -- the frame differs by a lattice point from its leader
  pub leader-class : (f : List ℤ) → InCodingSet k f → SameClass k b f (leader k b (open_message k b f))
  leader-class f set = subst (λ (d : ℕ). SameClass k d f (leader k d (open_message k d f))) (sym above.is) (open-class k above.less (shape k kind) f set)

  -- and from the frame that is sent for it
  pub read-class : (number : ℕ) (f : List ℤ) → InCodingSet k f → SameClass k b (numbered_frame k b number (open_message k b f)) f
  read-class number f set =
      differ-sym (half k b) (blocks k) f (numbered_frame k b number (open_message k b f))
      (differ-trans (half k b) (blocks k) f (leader k b (open_message k b f)) (numbered_frame k b number (open_message k b f))
      (leader-class f set) (sent-class number (open_message k b f)))

  -- messages whose leaders differ by a lattice point are the same
  pub same-leaders : (x y : List ℕ) → Message k b x → Message k b y → SameClass k b (leader k b x) (leader k b y) → x ≡ y
  same-leaders =
      subst (λ (d : ℕ). (x y : List ℕ) → Message k d x → Message k d y → SameClass k d (leader k d x) (leader k d y) → x ≡ y) (sym above.is)
      (one-message k above.less (shape k kind))

  -- a frame that differs by lattice points from what is sent for two messages, each under its number: they are the same
  one_only : (number other : ℕ) (x y : List ℕ) (f : List ℤ) → Message k b x → Message k b y
      → SameClass k b (numbered_frame k b number x) f → SameClass k b (numbered_frame k b other y) f → x ≡ y
  one_only number other x y f mx my dx dy = same-leaders x y mx my
      (differ-trans (half k b) (blocks k) (leader k b x) f (leader k b y) (to-frame number x dx)
      (differ-sym (half k b) (blocks k) (leader k b y) f (to-frame other y dy)))
    where
      to-frame : (number : ℕ) (bytes : List ℕ) → SameClass k b (numbered_frame k b number bytes) f → SameClass k b (leader k b bytes) f
      to-frame number bytes d = differ-trans (half k b) (blocks k) (leader k b bytes) (numbered_frame k b number bytes) f (sent-class number bytes) d

  -- "Each coding-set frame differs so from the sent frame of exactly one message at each grade"
  pub exactly-one : (number : ℕ) (f : List ℤ) → InCodingSet k f → OneMessage k b number f
  exactly-one number f set = record {
    bytes = open_message k b f;
    message = read-message f set;
    accepted = message-accepted k b (open_message k b f) kind grade (read-message f set);
    class = read-class number f set;
    only = λ other m d. one_only number number other (open_message k b f) f m (read-message f set) d (read-class number f set);
  }

  -- different messages have different frames, whatever their two numbers
  pub messages-differ : (number other : ℕ) (x y : List ℕ) → Message k b x → Message k b y
      → numbered_frame k b number x ≡ numbered_frame k b other y → x ≡ y
  messages-differ number other x y mx my e = one_only number other x y (numbered_frame k b other y) mx my
      (subst (SameClass k b (numbered_frame k b number x)) e (sent-same number x))
      (sent-same other y)

  -- "two different messages of one kind and grade keep their distance whatever their numbers"
  pub sent-apart : (number other : ℕ) (x y : List ℕ) → Message k b x → Message k b y → (x ≡ y → ⊥)
      → least_distance k ≤ distance (numbered_frame k b number x) (numbered_frame k b other y)
  sent-apart number other x y mx my ne = set_apart k kind (numbered_frame k b number x) (numbered_frame k b other y) (sent-in-set number x) (sent-in-set other y)
      (λ e. ne (messages-differ number other x y mx my e))

-- ---- the same of what is SENT: of bytes that sending accepts, whatever kind and grade they are sent at

-- bytes that sending accepts are a message of a kind and grade of the table
pub sent-sendable : (k b : ℕ) (bytes : List ℕ) → Bytes bytes → Accepts k b 0 bytes → Sendable k b 0 bytes (2 ^ k)
sent-sendable k b bytes each e = (accepted-exactly k b 0 bytes (2 ^ k) each).sendable e

-- two different byte strings that sending accepts at one kind and grade are sent at least the distance apart, whatever their numbers
pub accepted-apart : (k b number other : ℕ) (x y : List ℕ) → Bytes x → Bytes y → Accepts k b 0 x → Accepts k b 0 y → (x ≡ y → ⊥)
    → least_distance k ≤ distance (numbered_frame k b number x) (numbered_frame k b other y)
accepted-apart k b number other x y bx by ax ay ne =
    let s = sent-sendable k b x bx ax in
    sent-apart k b s.kind s.grade number other x y s.message.message (sent-sendable k b y by ay).message.message ne

-- and no two of them differ from one frame by a lattice point
pub accepted-only : (k b number other : ℕ) (f : List ℤ) (x y : List ℕ) → Bytes x → Bytes y → Accepts k b 0 x → Accepts k b 0 y
    → SameClass k b (numbered_frame k b number x) f → SameClass k b (numbered_frame k b other y) f → x ≡ y
accepted-only k b number other f x y bx by ax ay dx dy =
    let s = sent-sendable k b x bx ax in
    one_only k b s.kind s.grade number other x y f s.message.message (sent-sendable k b y by ay).message.message dx dy
