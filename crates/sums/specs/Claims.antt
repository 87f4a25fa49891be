-- Request E8, sentence by sentence: what a sum of frames is to the two readings. Assumes nothing.
use Rattle.std.specs.Prelude.{ℕ, ◌*◌, ◌^◌, ◌<◌, ◌≤◌, ◌≡◌, ◌⊎◌, true, List, [], ◌∷◌, length, get_or, replicate, ℤ, pos}
use Rattle.reed_muller.specs.Level.{belongs}
use Rattle.e8.specs.Ties.{negated}
use Rattle.frames.specs.Kind.{is_kind, is_grade, degrees, levels, message_bytes, scale}
use Rattle.frames.specs.Frame.{level_word, InCodingSet}
use Rattle.frames.specs.Free.{is_free_count}
use Rattle.frames.specs.Reading.{largest_read, in_range, open_refusal, strict_refusal}
use Rattle.sums.specs.Sum.{added, sum_of, Each, SentAt, IsSent}

-- the sum of any number of frames of the coding set of kind k is in the coding set
abbrev pub Closed : ℕ → Type 0
Closed k = (fs : List (List ℤ)) → Each (InCodingSet k) fs → InCodingSet k (sum_of k fs)

-- the coding set of kind k is a lattice: all zeros, the sum of two of its frames and each frame negated are in it
pub record IsLattice (k : ℕ) : Type 0 where
  pub zeros : InCodingSet k (replicate (2 ^ k) (pos 0))
  pub sums : (f g : List ℤ) → InCodingSet k f → InCodingSet k g → InCodingSet k (added f g)
  pub negatives : (f : List ℤ) → InCodingSet k f → InCodingSet k (negated f)

-- "Sums of kind 6 frames may leave the coding set": those of the kinds 3, 4 and 5 never do
pub record KindsClosed : Type 0 where
  pub up-to-5 : (k : ℕ) → is_kind k ≡ true → k ≤ 5 → Closed k
  pub lattices : (k : ℕ) → is_kind k ≡ true → k ≤ 5 → IsLattice k
  pub kind-6 : Closed 6 → ⊥

-- the levels 0 and 1 of s are codewords, as far as the kind has them
pub record LowLevels (k : ℕ) (s : List ℤ) : Type 0 where
  pub long : length s ≡ 2 ^ k
  pub codewords : (i : ℕ) → i < 2 → i < levels k → belongs (get_or (degrees k) i 0) k (level_word i s) ≡ true

-- at kinds 3, 4 and 5: the sum s is read by the open reading; by the strict one, under any number, it is read or 9. The reading is at grade b with f free
-- bits, and n message bytes are lent
pub record SumRead (k b f : ℕ) (s : List ℤ) (n : ℕ) : Type 0 where
  pub openly : open_refusal k b f s n ≡ 0
  pub strictly : (number : ℕ) → (strict_refusal k b f number s n ≡ 0) ⊎ (strict_refusal k b f number s n ≡ 9)

-- "Sums of kind 6 frames may leave the coding set, and are then 13": the sum s is answered 0 or 13, never 7 or 8. It is read exactly where it is in the
-- coding set, and 13 exactly where it is not; so it is by the strict reading under any number, where one that is in the coding set may be 9 too
pub record ReadOrThirteen (b f : ℕ) (s : List ℤ) (n : ℕ) : Type 0 where
  pub answers : (open_refusal 6 b f s n ≡ 0) ⊎ (open_refusal 6 b f s n ≡ 13)
  pub inside-read : InCodingSet 6 s → open_refusal 6 b f s n ≡ 0
  pub read-inside : open_refusal 6 b f s n ≡ 0 → InCodingSet 6 s
  pub outside-refused : (InCodingSet 6 s → ⊥) → open_refusal 6 b f s n ≡ 13
  pub refused-outside : open_refusal 6 b f s n ≡ 13 → InCodingSet 6 s → ⊥
  pub inside-strictly : (number : ℕ) → InCodingSet 6 s → (strict_refusal 6 b f number s n ≡ 0) ⊎ (strict_refusal 6 b f number s n ≡ 9)
  pub outside-strictly : (number : ℕ) → (InCodingSet 6 s → ⊥) → strict_refusal 6 b f number s n ≡ 13

-- sums of frames of the coding set that are in range, read at any grade, with any free count: of kinds 3, 4 and 5, and of kind 6
abbrev pub SumsRead : Type 0
SumsRead = (k b f n : ℕ) → is_kind k ≡ true → k ≤ 5 → is_grade b ≡ true → is_free_count f ≡ true → n ≡ message_bytes k b
    → (fs : List (List ℤ)) → Each (InCodingSet k) fs → in_range (sum_of k fs) ≡ true → SumRead k b f (sum_of k fs) n

abbrev pub SumsOfSix : Type 0
SumsOfSix = (b f n : ℕ) → is_grade b ≡ true → is_free_count f ≡ true → n ≡ message_bytes 6 b
    → (fs : List (List ℤ)) → Each (InCodingSet 6) fs → in_range (sum_of 6 fs) ≡ true → ReadOrThirteen b f (sum_of 6 fs) n

-- "may leave the coding set, and are then 13": two sent frames of kind 6 whose sum is answered so, by the open reading at grade 1, whose messages have 22
-- bytes
pub record TwoSent (answer : ℕ) : Type 0 where
  pub x : List ℤ
  pub y : List ℤ
  pub sent : Each (IsSent 6) (x ∷ y ∷ [])
  pub answered : open_refusal 6 1 0 (sum_of 6 (x ∷ y ∷ [])) 22 ≡ answer

-- "A repeater that adds many frames brings coordinates up to 16,777,216 in size, in kinds 3 to 6": the sum of 131,072 sent frames and less, whose
-- coordinates are at most 128 in size, is in range
abbrev pub ManyInRange : Type 0
ManyInRange = (k : ℕ) (fs : List (List ℤ)) → length fs ≤ 131072 → Each (IsSent k) fs → in_range (sum_of k fs) ≡ true

-- and of one grade as many as 16,777,216 has room for, their coordinates being at most M in size
abbrev pub ManyOfOneGrade : Type 0
ManyOfOneGrade = (k b : ℕ) (fs : List (List ℤ)) → length fs * scale k b ≤ largest_read → Each (SentAt k b) fs → in_range (sum_of k fs) ≡ true

-- what is sent is in the coding set, so that such a sum is answered as any other
abbrev pub SentInSet : Type 0
SentInSet = (k : ℕ) (fs : List (List ℤ)) → Each (IsSent k) fs → Each (InCodingSet k) fs

-- and of more it need not be in range: m sent frames whose sum is 6 in both readings, at kind 6 and grade 4, whose messages have 46 bytes
pub record TooMany (m : ℕ) : Type 0 where
  pub frames : List (List ℤ)
  pub many : length frames ≡ m
  pub sent : Each (IsSent 6) frames
  pub openly : open_refusal 6 4 0 (sum_of 6 frames) 46 ≡ 6
  pub strictly : (number : ℕ) → strict_refusal 6 4 0 number (sum_of 6 frames) 46 ≡ 6

abbrev pub MoreMayLeave : Type 0
MoreMayLeave = (m : ℕ) → 131072 < m → TooMany m
