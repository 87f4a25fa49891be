-- What document 01, and request E1 for kind 6, print, to be met by the definitions: the table of kinds, the leader's terms, the
-- coding set, the exam frames, the further cases, the order of tests. Cases of longer frames stand in long_frames. Assumes nothing.
use Rattle.std.specs.Prelude.{ℕ, ◌+◌, ◌-◌, ◌*◌, ◌/◌, ◌%◌, ◌^◌, ◌≡◌, true, List, [], ◌∷◌, ◌++◌, map, ℤ, pos, neg_ℤ, length, get_or, replicate}
use Rattle.integers.specs.Integer.{mod_z}
use Rattle.bits.specs.Message.{message_bit}
use Rattle.reed_muller.specs.Level.{codeword, belongs}
use Rattle.e8.specs.Energy.{energy}
use Rattle.e8.specs.Rows.{ints}
use Rattle.frames.specs.Kind.{degrees, levels, message_bits, message_bytes}
use Rattle.frames.specs.Message.{widths, numbers, coordinate}
use Rattle.frames.specs.Frame.{InCodingSet, numbered_frame, sent_frame, least_distance}
use Rattle.frames.specs.Free.{filling, filled_frame, quiet_filling, quiet_frame}
use Rattle.frames.specs.Sending.{send_refusal}
use Rattle.frames.specs.Reading.{open_message, fixed_message, open_refusal, strict_refusal}

-- ---- the table of kinds

-- a printed row: the kind, the length n, the levels a, the degrees of the level codes, message bits and message bytes by the grade b;
-- and the squared distance that demand 3 says of the kind
pub record Printed : Type 0 where
  pub kind : ℕ
  pub n : ℕ
  pub a : ℕ
  pub codes : List ℕ
  pub bits : ℕ → ℕ
  pub bytes : ℕ → ℕ
  pub apart : ℕ

-- document 01, "Kinds and grades"; the row of kind 6 is request E1's
abbrev pub printed : List Printed
printed =
    record { kind = 3; n = 8; a = 1; codes = 1 ∷ []; bits = λ b. 4 + 8 * b; bytes = λ b. b + 1; apart = 4 }
    ∷ record { kind = 4; n = 16; a = 2; codes = 1 ∷ 3 ∷ []; bits = λ b. 20 + 16 * b; bytes = λ b. 2 * b + 3; apart = 8 }
    ∷ record { kind = 5; n = 32; a = 2; codes = 1 ∷ 3 ∷ []; bits = λ b. 32 + 32 * b; bytes = λ b. 4 * b + 4; apart = 16 }
    ∷ record { kind = 6; n = 64; a = 3; codes = 1 ∷ 3 ∷ 5 ∷ []; bits = λ b. 112 + 64 * b; bytes = λ b. 8 * b + 14; apart = 32 }
    ∷ []

-- the definitions give what the row says
pub record AsPrinted (row : Printed) : Type 0 where
  pub n : 2 ^ row.kind ≡ row.n
  pub a : levels row.kind ≡ row.a
  pub codes : degrees row.kind ≡ row.codes
  pub bits : (b : ℕ) → message_bits row.kind b ≡ row.bits b
  pub bytes : (b : ℕ) → message_bytes row.kind b ≡ row.bytes b
  pub apart : least_distance row.kind ≡ row.apart

-- and so each row of the table
abbrev pub AllPrinted : List Printed → Type 0
AllPrinted [] = Unit {0}
AllPrinted (row ∷ rows) = AsPrinted row × AllPrinted rows

-- ---- the leader's terms

-- the value at p of a level: the codeword of RM(r,m) of the message bits from bit `from` on
abbrev pub level_at : ℕ → ℕ → ℕ → List ℕ → ℕ → ℕ
level_at m r from bytes p = codeword r m (λ i. message_bit bytes (from + i)) p

-- s at p: the blocks' bits, 8b for each, stand behind those of the levels, of which there are `bits`
abbrev pub block_number_at : ℕ → ℕ → List ℕ → ℕ → ℕ
block_number_at bits b bytes p = get_or (numbers (message_bit bytes) (bits + 8 * b * (p / 8)) (widths b)) (p % 8) 0

-- "c0 + 2 times c1 + 2^a times s; with one level the middle term is absent"; and for kind 6 "a third term, 4 times c2", whose message
-- bits "follow the second's": the levels of kind 6 have 7, 42 and 63
pub record Leader (b : ℕ) (bytes : List ℕ) (p : ℕ) : Type 0 where
  pub kind_3 : coordinate 3 b bytes p ≡ level_at 3 1 0 bytes p + 2 * block_number_at 4 b bytes p
  pub kind-4 : coordinate 4 b bytes p ≡ level_at 4 1 0 bytes p + 2 * level_at 4 3 5 bytes p + 4 * block_number_at 20 b bytes p
  pub kind-5 : coordinate 5 b bytes p ≡ level_at 5 1 0 bytes p + 2 * level_at 5 3 6 bytes p + 4 * block_number_at 32 b bytes p
  pub kind-6 : coordinate 6 b bytes p ≡ level_at 6 1 0 bytes p + 2 * level_at 6 3 7 bytes p + 4 * level_at 6 5 49 bytes p + 8 * block_number_at 112 b bytes p

-- ---- the coding set

-- the bits of a weight, 1, 2 or 4, of a frame's coordinates, by position: from remainders modulo 2, 4 or 8, which are never negative
abbrev pub bits_of : ℕ → List ℤ → ℕ → ℕ
bits_of weight f p = mod_z (get_or f p (pos 0)) (2 * weight) / weight

-- the bits of this weight, of twice the weight and so on form codewords of the codes RM(r,m) of the degrees r, one after the other
abbrev pub Codewords : ℕ → ℕ → List ℕ → List ℤ → Type 0
Codewords m weight [] f = Unit {0}
Codewords m weight (r ∷ rs) f = (belongs r m (bits_of weight f) ≡ true) × Codewords m (2 * weight) rs f

-- "The coding set of a kind is every integer frame of length n whose bits of weight 1 (and, with two levels, of weight 2) form codewords of
-- their levels", and of kind 6 "its bits of weight 4": by the length and the codes of the kind's row, exactly such frames
pub record SetAsPrinted (row : Printed) (f : List ℤ) : Type 0 where
  pub long : InCodingSet row.kind f → length f ≡ row.n
  pub codewords : InCodingSet row.kind f → Codewords row.kind 1 row.codes f
  pub inside : length f ≡ row.n → Codewords row.kind 1 row.codes f → InCodingSet row.kind f

-- and so of each row of the table
abbrev pub AllSets : List Printed → List ℤ → Type 0
AllSets [] f = Unit {0}
AllSets (row ∷ rows) f = SetAsPrinted row f × AllSets rows f

-- ---- the exam frames

-- a kind, a grade and a message, and the frame and the energy that it is sent with
pub record Exam : Type 0 where
  pub kind : ℕ
  pub grade : ℕ
  pub message : List ℕ
  pub frame : List ℤ
  pub energy : ℕ

-- −n
abbrev pub minus : ℕ → ℤ
minus n = neg_ℤ (pos n)

-- document 01, "Exam frames"; bytes in decimal: F0 07 is 240 7
abbrev pub exams : List Exam
exams =
    record { kind = 3; grade = 1; message = 0 ∷ 0 ∷ []; frame = replicate 8 (pos 0); energy = 0 }
    ∷ record { kind = 3; grade = 1; message = 1 ∷ 0 ∷ []; frame = replicate 8 (minus 1); energy = 8 }
    ∷ record { kind = 3; grade = 1; message = 2 ∷ 0 ∷ []; frame = ints (0 ∷ 1 ∷ 0 ∷ 1 ∷ 0 ∷ 1 ∷ 0 ∷ 1 ∷ []); energy = 4 }
    ∷ record { kind = 3; grade = 1; message = 16 ∷ 0 ∷ []; frame = ints (0 ∷ 2 ∷ 0 ∷ 0 ∷ 0 ∷ 0 ∷ 0 ∷ 0 ∷ []); energy = 4 }
    ∷ record { kind = 3; grade = 1; message = 0 ∷ 4 ∷ []; frame = ints (0 ∷ 0 ∷ 0 ∷ 0 ∷ 0 ∷ 0 ∷ 0 ∷ 2 ∷ []); energy = 4 }
    ∷ record {
      kind = 3;
      grade = 1;
      message = 16 ∷ 4 ∷ [];
      frame = pos 0 ∷ minus 2 ∷ pos 0 ∷ pos 0 ∷ pos 0 ∷ pos 0 ∷ pos 0 ∷ minus 2 ∷ [];
      energy = 8;
    }
    ∷ record { kind = 3; grade = 1; message = 0 ∷ 8 ∷ []; frame = minus 4 ∷ replicate 7 (pos 0); energy = 16 }
    ∷ record { kind = 3; grade = 1; message = 240 ∷ 7 ∷ []; frame = minus 2 ∷ replicate 7 (pos 0); energy = 4 }
    ∷ record { kind = 4; grade = 1; message = 1 ∷ replicate 4 0; frame = replicate 16 (pos 1); energy = 16 }
    ∷ record { kind = 4; grade = 1; message = 32 ∷ replicate 4 0; frame = replicate 16 (minus 2); energy = 64 }
    ∷ []

-- the frame and the energy that the definitions give, and those that the table says
abbrev pub sent_as : Exam → List ℤ × ℕ
sent_as e = (sent_frame e.kind e.grade e.message, energy (sent_frame e.kind e.grade e.message))

abbrev pub examined : Exam → List ℤ × ℕ
examined e = (e.frame, e.energy)

-- n coordinates, 0 but for the one at p, which is z
abbrev pub one_at : ℕ → ℕ → ℕ → List ℤ
one_at n p z = replicate p (pos 0) ++ (pos z ∷ replicate (n - p - 1) (pos 0))

-- document 01, "Message to coset leader": where a bit stands, seen by setting it alone; frames by hand.
-- Kind 3, grade 2: s1 (1 bit), s2 (both bits), s7, s8 (its first two bits). Kind 4, grade 1: level 1's second and last bit, s2 of either block.
-- Kinds 5 and 6 stand in long_frames
abbrev pub layout : List Exam
layout =
    record { kind = 3; grade = 2; message = 16 ∷ 0 ∷ 0 ∷ []; frame = one_at 8 0 2; energy = 4 }
    ∷ record { kind = 3; grade = 2; message = 32 ∷ 0 ∷ 0 ∷ []; frame = one_at 8 1 2; energy = 4 }
    ∷ record { kind = 3; grade = 2; message = 64 ∷ 0 ∷ 0 ∷ []; frame = one_at 8 1 4; energy = 16 }
    ∷ record { kind = 3; grade = 2; message = 0 ∷ 128 ∷ 0 ∷ []; frame = one_at 8 6 2; energy = 4 }
    ∷ record { kind = 3; grade = 2; message = 0 ∷ 0 ∷ 2 ∷ []; frame = one_at 8 7 2; energy = 4 }
    ∷ record { kind = 3; grade = 2; message = 0 ∷ 0 ∷ 4 ∷ []; frame = one_at 8 7 4; energy = 16 }
    ∷ record {
      kind = 4;
      grade = 1;
      message = 64 ∷ replicate 4 0;
      frame = ints (0 ∷ 2 ∷ 0 ∷ 2 ∷ 0 ∷ 2 ∷ 0 ∷ 2 ∷ 0 ∷ 2 ∷ 0 ∷ 2 ∷ 0 ∷ 2 ∷ 0 ∷ 2 ∷ []);
      energy = 32;
    }
    ∷ record { kind = 4; grade = 1; message = 0 ∷ 0 ∷ 8 ∷ 0 ∷ 0 ∷ []; frame = replicate 14 (pos 0) ++ replicate 2 (pos 2); energy = 8 }
    ∷ record { kind = 4; grade = 1; message = 0 ∷ 0 ∷ 16 ∷ 0 ∷ 0 ∷ []; frame = one_at 16 1 4; energy = 16 }
    ∷ record { kind = 4; grade = 1; message = 0 ∷ 0 ∷ 0 ∷ 16 ∷ 0 ∷ []; frame = one_at 16 9 4; energy = 16 }
    ∷ []

-- ---- the two tie rules

-- a message and a number, and the frame that it is sent as
pub record Numbered : Type 0 where
  pub kind : ℕ
  pub grade : ℕ
  pub number : ℕ
  pub message : List ℕ
  pub frame : List ℤ

-- request E5, by hand, under an even and under an odd number. 00 08: 4 or −4 at any coordinate. 01 00: all 1 or all −1. 02 08: one of four coordinates
-- is −3, where 1 + 4 would be more, and the frames of the two rules are not each other's negative. 02 00: no tie, the same frame under both.
-- Kind 4, all 2 or all −2 in either block, and so under an odd number all 2 in both
abbrev pub numbered : List Numbered
numbered =
    record { kind = 3; grade = 1; number = 0; message = 0 ∷ 8 ∷ []; frame = minus 4 ∷ replicate 7 (pos 0) }
    ∷ record { kind = 3; grade = 1; number = 1; message = 0 ∷ 8 ∷ []; frame = pos 4 ∷ replicate 7 (pos 0) }
    ∷ record { kind = 3; grade = 1; number = 4294967294; message = 0 ∷ 8 ∷ []; frame = minus 4 ∷ replicate 7 (pos 0) }
    ∷ record { kind = 3; grade = 1; number = 4294967295; message = 0 ∷ 8 ∷ []; frame = pos 4 ∷ replicate 7 (pos 0) }
    ∷ record { kind = 3; grade = 1; number = 2; message = 1 ∷ 0 ∷ []; frame = replicate 8 (minus 1) }
    ∷ record { kind = 3; grade = 1; number = 3; message = 1 ∷ 0 ∷ []; frame = replicate 8 (pos 1) }
    ∷ record {
      kind = 3;
      grade = 1;
      number = 10;
      message = 2 ∷ 8 ∷ [];
      frame = pos 0 ∷ minus 3 ∷ pos 0 ∷ pos 1 ∷ pos 0 ∷ pos 1 ∷ pos 0 ∷ pos 1 ∷ [];
    }
    ∷ record {
      kind = 3;
      grade = 1;
      number = 11;
      message = 2 ∷ 8 ∷ [];
      frame = pos 0 ∷ pos 1 ∷ pos 0 ∷ pos 1 ∷ pos 0 ∷ pos 1 ∷ pos 0 ∷ minus 3 ∷ [];
    }
    ∷ record { kind = 3; grade = 1; number = 12; message = 2 ∷ 0 ∷ []; frame = ints (0 ∷ 1 ∷ 0 ∷ 1 ∷ 0 ∷ 1 ∷ 0 ∷ 1 ∷ []) }
    ∷ record { kind = 3; grade = 1; number = 13; message = 2 ∷ 0 ∷ []; frame = ints (0 ∷ 1 ∷ 0 ∷ 1 ∷ 0 ∷ 1 ∷ 0 ∷ 1 ∷ []) }
    ∷ record { kind = 4; grade = 1; number = 1; message = 32 ∷ replicate 4 0; frame = replicate 16 (pos 2) }
    ∷ []

-- the frame that the definitions give
abbrev pub sent_under : Numbered → List ℤ
sent_under e = numbered_frame e.kind e.grade e.number e.message

-- the strict reading under both rules: a tied frame passes under one of them alone, and a frame that takes one rule in the first block and the other
-- in the second under neither; where there is no tie, under both
pub record NumberedTests : Type 0 where
  pub all-2-odd : strict_refusal 4 1 0 1 (replicate 16 (pos 2)) 5 ≡ 0
  pub all-minus-2-odd : strict_refusal 4 1 0 1 (replicate 16 (minus 2)) 5 ≡ 9
  pub all-minus-2-even : strict_refusal 4 1 0 4294967294 (replicate 16 (minus 2)) 5 ≡ 0
  pub mixed-openly : open_refusal 4 1 0 (replicate 8 (pos 2) ++ replicate 8 (minus 2)) 5 ≡ 0
  pub mixed-odd : strict_refusal 4 1 0 1 (replicate 8 (pos 2) ++ replicate 8 (minus 2)) 5 ≡ 9
  pub mixed-even : strict_refusal 4 1 0 0 (replicate 8 (pos 2) ++ replicate 8 (minus 2)) 5 ≡ 9
  pub turned-even : strict_refusal 4 1 0 0 (replicate 8 (minus 2) ++ replicate 8 (pos 2)) 5 ≡ 9
  pub no-tie-even : strict_refusal 3 1 0 0 (ints (0 ∷ 1 ∷ 0 ∷ 1 ∷ 0 ∷ 1 ∷ 0 ∷ 1 ∷ [])) 2 ≡ 0
  pub no-tie-odd : strict_refusal 3 1 0 4294967295 (ints (0 ∷ 1 ∷ 0 ∷ 1 ∷ 0 ∷ 1 ∷ 0 ∷ 1 ∷ [])) 2 ≡ 0

-- ---- free bits

-- requests E7 and E10, by hand: 12 00 of kind 3, grade 1 with 2 free bits, which are bits 10 and 11, the values 4 and 8 of its last byte
abbrev pub free_message : List ℕ
free_message = 18 ∷ 0 ∷ []

-- the frames of the fillings 1, whose first free bit is set, and 2, whose last is
abbrev pub frame_of1 : List ℤ
frame_of1 = pos 0 ∷ minus 1 ∷ pos 0 ∷ pos 1 ∷ pos 0 ∷ pos 1 ∷ pos 0 ∷ minus 1 ∷ []

abbrev pub frame_of2 : List ℤ
frame_of2 = pos 0 ∷ minus 1 ∷ pos 0 ∷ pos 1 ∷ pos 0 ∷ pos 1 ∷ pos 0 ∷ pos 1 ∷ []

-- the fillings' energies are 12, 4, 4, 12: filling 1 is taken, the same under every number, and its frame passes strictly alone; openly every filling's
-- frame gives the message. Of 01 00 they are 8, 8, 16, 8, and filling 0 is taken
pub record FreeCases : Type 0 where
  pub energies : map (λ (φ : ℕ). energy (filled_frame 3 1 2 0 free_message φ)) (0 ∷ 1 ∷ 2 ∷ 3 ∷ []) ≡ 12 ∷ 4 ∷ 4 ∷ 12 ∷ []
  pub even : map (filled_frame 3 1 2 0 free_message) (1 ∷ 2 ∷ []) ≡ frame_of1 ∷ frame_of2 ∷ []
  pub odd : map (filled_frame 3 1 2 1 free_message) (1 ∷ 2 ∷ []) ≡ frame_of1 ∷ frame_of2 ∷ []
  pub taken : quiet_filling 3 1 2 0 free_message ≡ 1
  pub taken-odd : quiet_filling 3 1 2 1 free_message ≡ 1
  pub sent : quiet_frame 3 1 2 0 free_message ≡ frame_of1
  pub passes-1 : strict_refusal 3 1 2 0 frame_of1 2 ≡ 0
  pub passes-1-odd : strict_refusal 3 1 2 1 frame_of1 2 ≡ 0
  pub nine-0 : strict_refusal 3 1 2 0 (filled_frame 3 1 2 0 free_message 0) 2 ≡ 9
  pub nine-2 : strict_refusal 3 1 2 0 frame_of2 2 ≡ 9
  pub nine-2-odd : strict_refusal 3 1 2 1 frame_of2 2 ≡ 9
  pub nine-3 : strict_refusal 3 1 2 0 (filled_frame 3 1 2 0 free_message 3) 2 ≡ 9
  pub whole-1 : open_message 3 1 frame_of1 ≡ 18 ∷ 4 ∷ []
  pub whole-2 : open_message 3 1 frame_of2 ≡ 18 ∷ 8 ∷ []
  pub filling-1 : filling 3 1 2 (open_message 3 1 frame_of1) ≡ 1
  pub filling-2 : filling 3 1 2 (open_message 3 1 frame_of2) ≡ 2
  pub fixed-1 : fixed_message 3 1 2 frame_of1 ≡ free_message
  pub fixed-2 : fixed_message 3 1 2 frame_of2 ≡ free_message
  pub three-least : map (λ (φ : ℕ). energy (filled_frame 3 1 2 0 (1 ∷ 0 ∷ []) φ)) (0 ∷ 1 ∷ 2 ∷ 3 ∷ []) ≡ 8 ∷ 8 ∷ 16 ∷ 8 ∷ []
  pub first-of-three : quiet_filling 3 1 2 0 (1 ∷ 0 ∷ []) ≡ 0

-- ---- further cases

-- document 01, "Exam frames", after the table, with the ends of request E8; by number 0, as all cases here but those of request E5
pub record FurtherCases : Type 0 where
  pub all-2-openly : open_refusal 4 1 0 (replicate 16 (pos 2)) 5 ≡ 0
  pub all-2-message : open_message 4 1 (replicate 16 (pos 2)) ≡ 32 ∷ replicate 4 0
  pub all-2-strictly : strict_refusal 4 1 0 0 (replicate 16 (pos 2)) 5 ≡ 9
  pub broken-level-0 : open_refusal 3 1 0 (pos 1 ∷ replicate 7 (pos 0)) 2 ≡ 7
  pub spare-bit : send_refusal 3 1 0 (0 ∷ 16 ∷ []) 8 ≡ 5
  pub largest : open_refusal 3 1 0 (pos 16777216 ∷ replicate 7 (pos 0)) 2 ≡ 0
  pub past-largest : open_refusal 3 1 0 (pos 16777217 ∷ replicate 7 (pos 0)) 2 ≡ 6
  pub least : open_refusal 3 1 0 (minus 16777216 ∷ replicate 7 (pos 0)) 2 ≡ 0
  pub past-least : open_refusal 3 1 0 (minus 16777217 ∷ replicate 7 (pos 0)) 2 ≡ 6

-- ---- the order of tests

-- "Sending tests 1, 2, 3, 4, 5", with 17 "tested after 2": each call is wrong in that test and in all later ones
pub record SendingTests : Type 0 where
  pub kind : send_refusal 2 5 5 (0 ∷ 16 ∷ 0 ∷ []) 7 ≡ 1
  pub grade : send_refusal 3 5 5 (0 ∷ 16 ∷ 0 ∷ []) 7 ≡ 2
  pub count : send_refusal 3 1 5 (0 ∷ 16 ∷ 0 ∷ []) 7 ≡ 17
  pub bytes : send_refusal 3 1 0 (0 ∷ 16 ∷ 0 ∷ []) 7 ≡ 3
  pub coordinates : send_refusal 3 1 0 (0 ∷ 16 ∷ []) 7 ≡ 4
  pub spare : send_refusal 3 1 0 (0 ∷ 16 ∷ []) 8 ≡ 5
  pub none : send_refusal 3 1 0 (255 ∷ 15 ∷ []) 8 ≡ 0

-- "A free bit given as 1 is 5": kind 3, grade 1 has 12 message bits, the last four of them in its last byte
pub record FreeTests : Type 0 where
  pub most : send_refusal 3 1 4 (255 ∷ 0 ∷ []) 8 ≡ 0
  pub first-of-4 : send_refusal 3 1 4 (255 ∷ 1 ∷ []) 8 ≡ 5
  pub last-of-4 : send_refusal 3 1 4 (255 ∷ 8 ∷ []) 8 ≡ 5
  pub one : send_refusal 3 1 1 (255 ∷ 7 ∷ []) 8 ≡ 0
  pub first-of-1 : send_refusal 3 1 1 (255 ∷ 8 ∷ []) 8 ≡ 5
  pub spare : send_refusal 3 1 1 (255 ∷ 16 ∷ []) 8 ≡ 5

-- "Reading tests 1, 2, 4, 3, then 6 over all coordinates, then 7, 8, 9", with 17 after 2: 16,777,219 is over range, and its bits of weight 1 and 2 are set
pub record ReadingTests : Type 0 where
  pub kind : strict_refusal 2 5 5 0 (pos 16777219 ∷ replicate 14 (pos 0)) 4 ≡ 1
  pub grade : strict_refusal 4 5 5 0 (pos 16777219 ∷ replicate 14 (pos 0)) 4 ≡ 2
  pub count : strict_refusal 4 1 5 0 (pos 16777219 ∷ replicate 14 (pos 0)) 4 ≡ 17
  pub coordinates : strict_refusal 4 1 0 0 (pos 16777219 ∷ replicate 14 (pos 0)) 4 ≡ 4
  pub bytes : strict_refusal 4 1 0 0 (pos 16777219 ∷ replicate 15 (pos 0)) 4 ≡ 3
  pub range : strict_refusal 4 1 0 0 (pos 16777219 ∷ replicate 15 (pos 0)) 5 ≡ 6
  pub level-0 : strict_refusal 4 1 0 0 (pos 3 ∷ replicate 15 (pos 0)) 5 ≡ 7
  pub level-1 : strict_refusal 4 1 0 0 (pos 2 ∷ replicate 15 (pos 0)) 5 ≡ 8
  pub unshaped : strict_refusal 4 1 0 0 (replicate 16 (pos 2)) 5 ≡ 9
  pub none : strict_refusal 4 1 0 0 (replicate 16 (minus 2)) 5 ≡ 0
