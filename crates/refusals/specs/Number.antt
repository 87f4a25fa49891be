-- The numbers of the refusals, as the rules have them, and of an answer. Assumes nothing.
use Rattle.std.specs.Prelude.{ℕ, Result, Ok, Err}
use Rattle.refusals.specs.declared.Refusal.{Refusal}
use Rattle.refusals.specs.declared.Refusal.TheVariants.{Kind, Grade, MessageLength, FrameLength, SpareBits, OverRange, BrokenLevel0, BrokenLevel1, Unshaped, Mark, AccountFull, SheetTooLong, BrokenLevel2, Changeover, UnfitSample, TooFar, FreeCount, AtOdds, RecordEnd}

-- the number of a refusal
abbrev pub code : Refusal → ℕ
code Kind = 1
code Grade = 2
code MessageLength = 3
code FrameLength = 4
code SpareBits = 5
code OverRange = 6
code BrokenLevel0 = 7
code BrokenLevel1 = 8
code Unshaped = 9
code Mark = 10
code AccountFull = 11
code SheetTooLong = 12
code BrokenLevel2 = 13
code Changeover = 14
code UnfitSample = 15
code TooFar = 16
code FreeCount = 17
code AtOdds = 18
code RecordEnd = 19

-- THE NUMBER of an answer: 0 for success, and else that of the refusal
abbrev pub number_of : {A : Type 0} → Result A Refusal → ℕ
number_of (Ok a) = 0
number_of (Err r) = code r

-- the figure that an answer carries, as an energy or a place: 0 where it refuses
abbrev pub figure_of : Result ℕ Refusal → ℕ
figure_of (Ok n) = n
figure_of (Err r) = 0
