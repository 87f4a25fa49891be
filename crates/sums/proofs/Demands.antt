-- REQUEST E8 as theorems: sums of frames of kinds 3, 4 and 5 stay in the coding set; of kind 6 the levels 0 and 1 stay codewords, so that a sum is read
-- or is 13; 131,072 sent frames add up to a sum in range, and more need not. For every grade and free count. Assumes nothing.
use Prim.Native.Nat.{ℕ, zero, suc, ◌-◌, ◌*◌, ◌^◌, ◌≤◌, ◌<◌}
use mathlib.Core.Path.{◌≡◌, refl, sym, ap, ◌∙◌, subst}
use mathlib.Core.Logic.{◌⊎◌, inl, inr}
use mathlib.Core.Bool.{Bool, true, false, cond, true≢false}
use mathlib.Core.List.{List, [], ◌∷◌, ◌++◌}
use native.Mathlib.Decide.{ℕ_discrete}
use native.Mathlib.Omega.{arith}
use lib.Dec.{leb}
use lib.Count.{ones}
use borrow.Author.Tests.{leb-true, le-leb}
use lib.ListN.{length, get_or, take, replicate, length-take, length-replicate}
use lib.Seq.{get_or-take}
use lib.IntN.{ℤ, pos, nat_abs}
use Rattle.bits.specs.Number.{table}
use Rattle.reed_muller.specs.Level.{of_weight, masks, dimension, belongs}
use Rattle.e8.specs.Energy.{Within}
use Rattle.e8.proofs.Negation.{abs_neg}
use Rattle.e8.proofs.Within.{within-to}
use Rattle.frames.specs.Kind.{kinds, is_kind, is_grade, degrees, levels, level_bits, message_bits, message_bytes, scale}
use Rattle.frames.specs.Frame.{level_word, InCodingSet, numbered_frame}
use Rattle.frames.specs.Free.{is_free_count}
use Rattle.frames.specs.Sending.{unless, Accepts}
use Rattle.frames.specs.Reading.{largest_read, in_range, open_refusal, is_sent, strict_refusal}
use Rattle.frames.specs.Demands.{FirstBroken, Sendable, FarOut}
use Rattle.frames.proofs.Accepted.{accepted-exactly}
use Rattle.frames.proofs.Closure.{set-negated}
use Rattle.frames.proofs.Range.{sent-frame-within}
use Rattle.frames.proofs.Frame.{at, of-codes}
use Rattle.frames.proofs.Limits.{scale-128}
use Rattle.frames.proofs.Range.{six-exactly}
use Rattle.frames.proofs.Reading.{inside-taken, outside-broken, taken-in-set}
use Rattle.frames.proofs.Refusals.{within-range}
use Rattle.frames.proofs.Rows.{each_row}
use Rattle.free_bits.proofs.Fillings.{none-quiet}
use Rattle.free_bits.proofs.ReadBack.{quiet-in-set}
use Rattle.free_bits.proofs.Strict.{strict-decides, strict-as-open}
use Rattle.long_frames.specs.Cases.{one_byte}
use Rattle.sums.specs.Sum.{added, sum_of, Each, SentAt, IsSent}
use Rattle.sums.specs.Claims.{Closed, IsLattice, KindsClosed, LowLevels, SumsRead, ReadOrThirteen, SumsOfSix, TwoSent, ManyInRange, SentInSet}
use Rattle.sums.specs.Claims.{ManyOfOneGrade, MoreMayLeave}
use Rattle.sums.specs.Cases.{low_three, high_three, other_three, farthest}
use Rattle.sums.proofs.Sum.{added-zeros, each_to, sum-within, sum-length, copies_at, two-codes}
use Rattle.sums.proofs.Cases.{sent-four, sums-of-two}

-- THE LEVELS 0 AND 1 of a sum are codewords, of every kind
pub low-levels : (k : ℕ) → is_kind k ≡ true → (fs : List (List ℤ)) → Each (InCodingSet k) fs → LowLevels k (sum_of k fs)
unfolding levels
low-levels k kind fs set = record {
  long = sum-length k fs set;
  codewords = λ i h l.
      ap (λ (r : ℕ). belongs r k (level_word i (sum_of k fs))) (sym (get_or-take 2 (degrees k) i 0 (omega arith)))
      ∙ of-codes k (take 2 (degrees k)) (sum_of k fs) (two-codes k kind fs set) i (omega (arith, length-take 2 (degrees k)));
}

-- ---- kinds 3, 4 and 5

-- they have no other levels
two-levels : (k : ℕ) → is_kind k ≡ true → k ≤ 5 → levels k ≤ 2
unfolding levels degrees kinds
two-levels k kind h = leb-true (levels k) 2
    (rw (le-leb k 5 h) at (each_row (λ k. cond (leb k 5) (leb (levels k) 2) true) refl k kind))

-- so that a sum is in the coding set
closed : (k : ℕ) → is_kind k ≡ true → k ≤ 5 → Closed k
closed k kind h fs set = let low = low-levels k kind fs set in
    record { long = low.long; codewords = λ i l. low.codewords i (omega (arith, two-levels k kind h)) l }

lattice : (k : ℕ) → is_kind k ≡ true → k ≤ 5 → IsLattice k
unfolding sum_of
lattice k kind h = record {
  zeros = closed k kind h [] tt;
  sums = λ f g sf sg. subst (InCodingSet k)
      (ap (added f) (ap (λ (n : ℕ). added g (replicate n (pos 0))) (sym sg.long) ∙ added-zeros g))
      (closed k kind h (f ∷ g ∷ []) (sf, (sg, tt)));
  negatives = set-negated k kind;
}

-- ---- the readings

-- what is read openly is read strictly, or 9
read-or-nine : (k b f number : ℕ) (s : List ℤ) (n : ℕ) → open_refusal k b f s n ≡ 0
    → (strict_refusal k b f number s n ≡ 0) ⊎ (strict_refusal k b f number s n ≡ 9)
read-or-nine k b f number s n e = go (is_sent k b f number s) (strict-decides k b f number s n e)
  where
    go : (t : Bool) → strict_refusal k b f number s n ≡ unless t 9 0 → (strict_refusal k b f number s n ≡ 0) ⊎ (strict_refusal k b f number s n ≡ 9)
    go true e = inl e
    go false e = inr e

-- sums of kinds 3, 4 and 5 in range are read
pub sums-read : SumsRead
sums-read k b f n kind h grade few bytes fs set range =
    let e = inside-taken k b kind grade f few (sum_of k fs) n bytes (closed k kind h fs set) range in
    record { openly = e; strictly = λ number. read-or-nine k b f number (sum_of k fs) n e }

six : is_kind 6 ≡ true
unfolding is_kind kinds
six = refl

module _ (b f n : ℕ) (grade : is_grade b ≡ true) (few : is_free_count f ≡ true) (bytes : n ≡ message_bytes 6 b)
    (fs : List (List ℤ)) (set : Each (InCodingSet 6) fs) (range : in_range (sum_of 6 fs) ≡ true)
  where
    abbrev s : List ℤ
    s = sum_of 6 fs

    -- the first broken level of a sum of kind 6 is the third
    third : FirstBroken 6 s (open_refusal 6 b f s n) → open_refusal 6 b f s n ≡ 13
    unfolding levels degrees kinds
    third first = go first.level first.inside first.broken first.given
      where
        go : (i : ℕ) → i < 3 → belongs (get_or (1 ∷ 3 ∷ 5 ∷ []) i 0) 6 (level_word i s) ≡ false
            → open_refusal 6 b f s n ≡ get_or (7 ∷ 8 ∷ 13 ∷ []) i 0 → open_refusal 6 b f s n ≡ 13
        go zero h e given = absurd (true≢false (sym ((low-levels 6 six fs set).codewords 0 (omega arith) (omega arith)) ∙ e))
        go (suc zero) h e given = absurd (true≢false (sym ((low-levels 6 six fs set).codewords 1 (omega arith) (omega arith)) ∙ e))
        go (suc (suc zero)) h e given = given
        go (suc (suc (suc i))) h e given = absurd (omega arith)

    inside : InCodingSet 6 s → open_refusal 6 b f s n ≡ 0
    inside i = inside-taken 6 b six grade f few s n bytes i range

    outside : (InCodingSet 6 s → ⊥) → open_refusal 6 b f s n ≡ 13
    outside out = third (outside-broken 6 b six grade f few s n bytes (sum-length 6 fs set) range out)

    sum-of-six : ReadOrThirteen b f s n
    sum-of-six = record {
      answers = either (ℕ_discrete (open_refusal 6 b f s n) 0);
      inside-read = inside;
      read-inside = taken-in-set 6 b f s n;
      outside-refused = outside;
      refused-outside = λ e i. omega (arith, inside i);
      inside-strictly = λ number i. read-or-nine 6 b f number s n (inside i);
      outside-strictly = λ number out. strict-as-open 6 b f number s n (λ e. omega (arith, outside out)) ∙ outside out;
    }
      where
        either : Dec (open_refusal 6 b f s n ≡ 0) → (open_refusal 6 b f s n ≡ 0) ⊎ (open_refusal 6 b f s n ≡ 13)
        either (yes e) = inl e
        either (no k) = inr (outside (λ i. k (inside i)))

-- "Sums of kind 6 frames may leave the coding set, and are then 13"
pub sums-of-six : SumsOfSix
sums-of-six = sum-of-six

-- ---- frames that are sent

-- bytes that are 0 but for one
zero-bytes : (m j : ℕ) → get_or (replicate m 0) j 0 < 256
zero-bytes zero zero = omega arith
zero-bytes zero (suc j) = omega arith
zero-bytes (suc m) zero = omega arith
zero-bytes (suc m) (suc j) = zero-bytes m j

one_byte_lem : (p m x : ℕ) → x < 256 → (j : ℕ) → get_or (replicate p 0 ++ (x ∷ replicate m 0)) j 0 < 256
one_byte_lem zero m x h zero = h
one_byte_lem zero m x h (suc j) = zero-bytes m j
one_byte_lem (suc p) m x h zero = omega arith
one_byte_lem (suc p) m x h (suc j) = one_byte_lem p m x h j

-- the frame of such a message under number 0, no bit free
by_hand : (b n p x : ℕ) → x < 256 → Accepts 6 b 0 (one_byte n p x) → (frame : List ℤ) → numbered_frame 6 b 0 (one_byte n p x) ≡ frame → IsSent 6 frame
by_hand b n p x h accepted frame e = record {
  grade = b;
  at-grade = record {
    free = 0;
    number = 0;
    bytes = one_byte n p x;
    each = one_byte_lem p (n - p - 1) x h;
    accepted = accepted;
    sent = sym (none-quiet 6 b 0 (one_byte n p x) ∙ e);
  };
}

module _ (k b : ℕ) (frame : List ℤ) (t : SentAt k b frame) where
  asked : Sendable k b t.free t.bytes (2 ^ k)
  asked = (accepted-exactly k b t.free t.bytes (2 ^ k) t.each).sendable t.accepted

  in-set : InCodingSet k frame
  in-set = rw t.sent (quiet-in-set k b t.free asked.kind asked.grade asked.few t.number t.bytes)

  within-scale : Within (scale k b) frame
  within-scale = rw t.sent (sent-frame-within k b t.free t.number asked.kind asked.grade t.bytes)

  within-128 : Within 128 frame
  within-128 = within-to (scale k b) 128 frame (scale-128 k b asked.kind asked.grade) within-scale

pub sent-in-set-all : SentInSet
sent-in-set-all k = each_to (λ f t. in-set k t.grade f t.at-grade)

-- a sum of frames within B
sum-in-range : (B k : ℕ) (fs : List (List ℤ)) → Each (Within B) fs → length fs * B ≤ largest_read → in_range (sum_of k fs) ≡ true
sum-in-range B k fs h room = within-range (sum_of k fs) (within-to (length fs * B) largest_read (sum_of k fs) room (sum-within B k fs h))

-- 131,072 · 128 is 16,777,216
pub many-in-range : ManyInRange
many-in-range k fs many sent = sum-in-range 128 k fs (each_to (λ f t. within-128 k t.grade f t.at-grade) fs sent) (omega arith)

pub many-of-one-grade : ManyOfOneGrade
many-of-one-grade k b fs room sent = sum-in-range (scale k b) k fs (each_to (within-scale k b) fs sent) (omega (arith, room))

-- ---- two frames of kind 6

low-sent : IsSent 6 low_three
low-sent = by_hand 1 22 3 32 (omega arith) sent-four.low-accepted low_three sent-four.low

low-and-high : Each (IsSent 6) (low_three ∷ high_three ∷ [])
low-and-high = (low-sent, (by_hand 1 22 6 1 (omega arith) sent-four.high-accepted high_three sent-four.high, tt))

-- a sum that is 13
pub two-refused : TwoSent 13
two-refused = record { x = low_three; y = high_three; sent = low-and-high; answered = sums-of-two.refused }

-- a sum that is read
pub two-read : TwoSent 0
two-read = record {
  x = low_three;
  y = other_three;
  sent = (low-sent, (by_hand 1 22 3 64 (omega arith) sent-four.other-accepted other_three sent-four.other, tt));
  answered = sums-of-two.read;
}

-- "Sums of kind 6 frames may leave the coding set": of the other kinds they never do
pub kinds-closed : KindsClosed
unfolding is_grade is_free_count message_bytes message_bits level_bits degrees kinds dimension masks of_weight table ones
kinds-closed = record {
  up-to-5 = λ k kind h. closed k kind (omega arith);
  lattices = λ k kind h. lattice k kind (omega arith);
  kind-6 = λ all.
      let fs : List (List ℤ) = low_three ∷ high_three ∷ [] in
      let set : Each (InCodingSet 6) fs = sent-in-set-all 6 fs low-and-high in
      (sums-of-six 1 0 22 refl refl refl fs set (many-in-range 6 fs (omega arith) low-and-high)).refused-outside sums-of-two.refused (all fs set);
}

-- ---- more than 131,072

many-sent : (m : ℕ) (f : List ℤ) → IsSent 6 f → Each (IsSent 6) (replicate m f)
many-sent zero f s = tt
many-sent (suc m) f s = (s, many-sent m f s)

-- −128 m times
far-out : (m : ℕ) → Each (InCodingSet 6) (replicate m farthest) → 131072 < m → FarOut (sum_of 6 (replicate m farthest))
far-out m set h = record {
  place = 0;
  inside = omega (arith, sum-length 6 (replicate m farthest) set);
  larger = omega (arith, ap nat_abs (copies_at 6 m farthest set 0) ∙ abs_neg (pos (m * 128)));
}

-- "6 begins at 16,777,217"
pub more-may-leave : MoreMayLeave
unfolding is_grade is_free_count message_bytes message_bits level_bits degrees kinds dimension masks of_weight table ones
more-may-leave m h =
    let fs = replicate m farthest in
    let sent = many-sent m farthest (by_hand 4 46 17 128 (omega arith) sent-four.far-accepted farthest sent-four.far) in
    let set = sent-in-set-all 6 fs sent in
    let exactly = six-exactly 6 4 0 (sum_of 6 fs) 46 in
    let long = sum-length 6 fs set in
    let far = far-out m set (omega arith) in
    record {
      frames = fs;
      many = length-replicate m farthest;
      sent = sent;
      openly = exactly.openly six refl refl long refl far;
      strictly = λ number. exactly.strictly six refl refl long refl number far;
    }
