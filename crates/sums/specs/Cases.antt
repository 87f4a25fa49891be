-- Sums of two sent frames of kind 6, by hand. Assumes nothing.
use Rattle.std.specs.Prelude.{ℕ, zero, suc, ◌≡◌, List, [], ◌∷◌, ◌++◌, replicate, ℤ, pos}
use Rattle.e8.specs.Rows.{ints}
use Rattle.frames.specs.Frame.{numbered_frame}
use Rattle.frames.specs.Sending.{Accepts}
use Rattle.frames.specs.Reading.{open_refusal, open_message, strict_refusal}
use Rattle.frames.specs.Exam.{minus}
use Rattle.long_frames.specs.Cases.{one_byte}
use Rattle.sums.specs.Sum.{sum_of}

-- a part n times
abbrev pub times : ℕ → List ℤ → List ℤ
times zero f = []
times (suc n) f = f ++ times n f

-- 2 at the places whose bits 0, 1 and 2 are set: the message with bit 22 of level 1 alone, that of the mask 7
abbrev pub low_three : List ℤ
low_three = times 8 (ints (0 ∷ 0 ∷ 0 ∷ 0 ∷ 0 ∷ 0 ∷ 0 ∷ 2 ∷ []))

-- 2 at the places whose bits 3, 4 and 5 are set: bit 41 of level 1, that of the mask 56
abbrev pub high_three : List ℤ
high_three = replicate 56 (pos 0) ++ replicate 8 (pos 2)

-- 2 at the places whose bits 0, 1 and 3 are set: bit 23 of level 1, that of the mask 11
abbrev pub other_three : List ℤ
other_three = times 4 (replicate 8 (pos 0) ++ ints (0 ∷ 0 ∷ 0 ∷ 2 ∷ 0 ∷ 0 ∷ 0 ∷ 2 ∷ []))

-- −128 at the first place: the largest coordinate that is sent, in size
abbrev pub farthest : List ℤ
farthest = minus 128 ∷ replicate 63 (pos 0)

-- four frames that are sent at kind 6, under number 0: three of grade 1, and one of grade 4
pub record SentFour : Type 0 where
  pub low : numbered_frame 6 1 0 (one_byte 22 3 32) ≡ low_three
  pub high : numbered_frame 6 1 0 (one_byte 22 6 1) ≡ high_three
  pub other : numbered_frame 6 1 0 (one_byte 22 3 64) ≡ other_three
  pub far : numbered_frame 6 4 0 (one_byte 46 17 128) ≡ farthest
  pub low-accepted : Accepts 6 1 0 (one_byte 22 3 32)
  pub high-accepted : Accepts 6 1 0 (one_byte 22 6 1)
  pub other-accepted : Accepts 6 1 0 (one_byte 22 3 64)
  pub far-accepted : Accepts 6 4 0 (one_byte 46 17 128)

-- "Sums of kind 6 frames may leave the coding set, and are then 13": of the first two the carry into level 2 is a 1 at the last place alone, which is no
-- codeword of RM(5,6). "may": of the first and the third it is a 1 where the bits 0 to 3 are set, a codeword, and the sum is read: level 1 is that of
-- both, and level 2 has bit 42, that of the mask 15
pub record SumsOfTwo : Type 0 where
  pub refused : open_refusal 6 1 0 (sum_of 6 (low_three ∷ high_three ∷ [])) 22 ≡ 13
  pub refused-strictly : strict_refusal 6 1 0 0 (sum_of 6 (low_three ∷ high_three ∷ [])) 22 ≡ 13
  pub read : open_refusal 6 1 0 (sum_of 6 (low_three ∷ other_three ∷ [])) 22 ≡ 0
  pub message : open_message 6 1 (sum_of 6 (low_three ∷ other_three ∷ [])) ≡ 0 ∷ 0 ∷ 0 ∷ 96 ∷ replicate 7 0 ++ (8 ∷ replicate 10 0)
  pub none : open_refusal 6 1 0 (sum_of 6 []) 22 ≡ 0
