-- Frames of 32 and 64 coordinates by hand, the order of tests of kind 6 (request E1), and frames of large coordinates (request E8), to be met by the
-- definitions of frames. Assumes nothing.
use Rattle.std.specs.Prelude.{ℕ, ◌-◌, ◌≡◌, List, [], ◌∷◌, ◌++◌, ℤ, pos, replicate}
use Rattle.frames.specs.Sending.{send_refusal}
use Rattle.frames.specs.Reading.{open_message, open_refusal, strict_refusal, energy_read}
use Rattle.frames.specs.Exam.{Exam, minus, one_at, Numbered}

-- n bytes, 0 but for the one at p, which is x
abbrev pub one_byte : ℕ → ℕ → ℕ → List ℕ
one_byte n p x = replicate p 0 ++ (x ∷ replicate (n - p - 1) 0)

-- document 01, "Message to coset leader": where a bit stands, seen by setting it alone. Kind 5, grade 1: s2 of the last block. Kind 6, grade 1:
-- level 2's first bit (a tie: all 4 or all −4 in a block) and its last, s2 of the last block; grade 4: the last bit of s8 of the first block
-- (a tie: 128 or −128, at any coordinate of the block)
abbrev pub layout : List Exam
layout =
    record { kind = 5; grade = 1; message = replicate 7 0 ++ (1 ∷ []); frame = one_at 32 25 4; energy = 16 }
    ∷ record { kind = 6; grade = 1; message = one_byte 22 6 2; frame = replicate 64 (minus 4); energy = 1024 }
    ∷ record { kind = 6; grade = 1; message = one_byte 22 13 128; frame = replicate 62 (pos 0) ++ replicate 2 (pos 4); energy = 32 }
    ∷ record { kind = 6; grade = 1; message = one_byte 22 21 1; frame = one_at 64 57 8; energy = 64 }
    ∷ record { kind = 6; grade = 4; message = one_byte 46 17 128; frame = minus 128 ∷ replicate 63 (pos 0); energy = 16384 }
    ∷ []

-- the last of them under an odd number: 128, and not −128
abbrev pub numbered : List Numbered
numbered =
    record { kind = 6; grade = 4; number = 999999; message = one_byte 46 17 128; frame = pos 128 ∷ replicate 63 (pos 0) }
    ∷ []

-- request E1: "1 now means not 3 to 6"; "13: broken level 2, when the third level isn't a codeword, tested after 8", and so before 9. Each frame
-- but the last three is wrong in that test and in all later ones: 16,777,223 is over range, and its bits of weight 1, 2 and 4 are set
pub record KindSixTests : Type 0 where
  pub kind : send_refusal 7 1 0 (replicate 22 255) 64 ≡ 1
  pub bytes : send_refusal 6 1 0 (replicate 23 255) 63 ≡ 3
  pub coordinates : send_refusal 6 1 0 (replicate 22 255) 63 ≡ 4
  pub none-spare : send_refusal 6 1 0 (replicate 22 255) 64 ≡ 0
  pub range : strict_refusal 6 1 0 0 (pos 16777223 ∷ replicate 63 (pos 0)) 22 ≡ 6
  pub level-0 : strict_refusal 6 1 0 0 (pos 7 ∷ replicate 63 (pos 0)) 22 ≡ 7
  pub level-1 : strict_refusal 6 1 0 0 (pos 6 ∷ replicate 63 (pos 0)) 22 ≡ 8
  pub level-2 : strict_refusal 6 1 0 0 (pos 4 ∷ replicate 63 (pos 0)) 22 ≡ 13
  pub level-2-openly : open_refusal 6 1 0 (pos 4 ∷ replicate 63 (pos 0)) 22 ≡ 13
  pub unshaped : strict_refusal 6 1 0 0 (replicate 64 (pos 4)) 22 ≡ 9
  pub openly : open_message 6 1 (replicate 64 (pos 4)) ≡ one_byte 22 6 2
  pub none : strict_refusal 6 1 0 0 (replicate 64 (minus 4)) 22 ≡ 0

-- n coordinates, 0 but for the last, which is z
abbrev pub last_of : ℕ → ℤ → List ℤ
last_of n z = replicate (n - 1) (pos 0) ++ (z ∷ [])

-- request E8: "coordinates up to 16,777,216 in size, in kinds 3 to 6 .. 6 begins at 16,777,217", here at the last coordinate, and strictly too; the message
-- of a frame next to an end; "The energy stays exact": 64 · 2^48; "A coordinate of 1,048,577 is now read like any other": eight of them are all 1 and
-- twice 524,288, and alone it is no codeword of level 0
pub record WideCases : Type 0 where
  pub kind-3-strictly : strict_refusal 3 1 0 0 (last_of 8 (pos 16777216)) 2 ≡ 9
  pub kind-3-past : strict_refusal 3 1 0 0 (last_of 8 (pos 16777217)) 2 ≡ 6
  pub kind-4 : open_refusal 4 2 0 (last_of 16 (minus 16777216)) 7 ≡ 0
  pub kind-4-past : open_refusal 4 2 0 (last_of 16 (minus 16777217)) 7 ≡ 6
  pub kind-5 : open_refusal 5 3 0 (last_of 32 (pos 16777216)) 16 ≡ 0
  pub kind-5-past : open_refusal 5 3 0 (last_of 32 (pos 16777217)) 16 ≡ 6
  pub kind-6 : open_refusal 6 4 0 (last_of 64 (minus 16777216)) 46 ≡ 0
  pub kind-6-past : open_refusal 6 4 0 (last_of 64 (minus 16777217)) 46 ≡ 6
  pub below-largest : open_message 3 1 (pos 16777212 ∷ replicate 7 (pos 0)) ≡ 0 ∷ 8 ∷ []
  pub above-least : open_message 3 1 (minus 16777212 ∷ replicate 7 (pos 0)) ≡ 0 ∷ 8 ∷ []
  pub most-energy : energy_read (open_refusal 6 1 0 (replicate 64 (minus 16777216)) 22) (replicate 64 (minus 16777216)) ≡ 18014398509481984
  pub like-any-other : open_refusal 3 1 0 (replicate 8 (pos 1048577)) 2 ≡ 0
  pub its-message : open_message 3 1 (replicate 8 (pos 1048577)) ≡ 1 ∷ 0 ∷ []
  pub alone : open_refusal 3 1 0 (pos 1048577 ∷ replicate 7 (pos 0)) 2 ≡ 7
