-- The laws of specs/Laws.
use Rattle.std.proofs.Common.{ℕ, ◌-◌, ◌≡◌, List, [], ◌∷◌, get_or, refl, sym, ap, ◌∙◌}
use Rattle.refusals.specs.declared.Refusal.{Refusal}
use Rattle.refusals.specs.declared.Refusal.TheVariants.{Kind, Grade, MessageLength, FrameLength, SpareBits, OverRange, BrokenLevel0, BrokenLevel1, Unshaped, Mark, AccountFull, SheetTooLong, BrokenLevel2, Changeover, UnfitSample, TooFar, FreeCount, AtOdds, RecordEnd}
use Rattle.refusals.specs.Number.{code}
use Rattle.refusals.specs.Laws.{NoneIsZero, EachItsOwn}

none-is-zero : NoneIsZero
none-is-zero Kind e = cc
none-is-zero Grade e = cc
none-is-zero MessageLength e = cc
none-is-zero FrameLength e = cc
none-is-zero SpareBits e = cc
none-is-zero OverRange e = cc
none-is-zero BrokenLevel0 e = cc
none-is-zero BrokenLevel1 e = cc
none-is-zero Unshaped e = cc
none-is-zero Mark e = cc
none-is-zero AccountFull e = cc
none-is-zero SheetTooLong e = cc
none-is-zero BrokenLevel2 e = cc
none-is-zero Changeover e = cc
none-is-zero UnfitSample e = cc
none-is-zero TooFar e = cc
none-is-zero FreeCount e = cc
none-is-zero AtOdds e = cc
none-is-zero RecordEnd e = cc

-- the refusals in the order of their numbers
abbrev all : List Refusal
all = Kind ∷ Grade ∷ MessageLength ∷ FrameLength ∷ SpareBits ∷ OverRange ∷ BrokenLevel0 ∷ BrokenLevel1 ∷ Unshaped ∷ Mark ∷ AccountFull ∷ SheetTooLong ∷ BrokenLevel2 ∷ Changeover ∷ UnfitSample ∷ TooFar ∷ FreeCount ∷ AtOdds ∷ RecordEnd ∷ []

-- the refusal of a number; past the last, that
abbrev by-number : ℕ → Refusal
by-number n = get_or all (n - 1) RecordEnd

comes-back : (r : Refusal) → by-number (code r) ≡ r
comes-back Kind = refl
comes-back Grade = refl
comes-back MessageLength = refl
comes-back FrameLength = refl
comes-back SpareBits = refl
comes-back OverRange = refl
comes-back BrokenLevel0 = refl
comes-back BrokenLevel1 = refl
comes-back Unshaped = refl
comes-back Mark = refl
comes-back AccountFull = refl
comes-back SheetTooLong = refl
comes-back BrokenLevel2 = refl
comes-back Changeover = refl
comes-back UnfitSample = refl
comes-back TooFar = refl
comes-back FreeCount = refl
comes-back AtOdds = refl
comes-back RecordEnd = refl

each-its-own : EachItsOwn
each-its-own r s e = sym (comes-back r) ∙ ap by-number e ∙ comes-back s
