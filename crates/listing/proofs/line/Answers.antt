-- `line` meets its contract: where nothing is put, the sheet has no line at the place. Assumes nothing.
use Rattle.std.proofs.Common.{◌<◌, ◌≤◌, ◌⊎◌, inl, inr, length, arith}
use Rattle.listing.proofs.Room.{none-at}
use Rattle.listing.proofs.line.Goals as goal

pub returns-then-out-lt-ROOM-clause-line : goal.returns-then-out-lt-ROOM-clause-line
returns-then-out-lt-ROOM-clause-line c =
    let o = c.args.out.now in
    let s = c.args.sheet.now in
    let why : (length o < 1024) ⊎ ((32768 < length s) ⊎ (length s ≤ c.args.place.at)) =
    elim c.then-out-lt-ROOM.either [
      | inl h ↦ inl h
      | inr h ↦ elim h [
        | inl t ↦ inr (inl (omega arith))
        | inr t ↦ inr (inr (omega arith))
      ]
    ] in
    none-at o s c.args.place why c.nothing.ensures.0
