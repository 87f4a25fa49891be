-- `begin` meets its contract: where there is too little room, nothing is put. Assumes nothing.
use Rattle.std.proofs.Common.{length, arith}
use Rattle.listing.proofs.Room.{no-beginning, nothing_put}
use Rattle.listing.proofs.begin.Goals as goal

pub returns-then-out-lt-ROOM-clause-line : goal.returns-then-out-lt-ROOM-clause-line
returns-then-out-lt-ROOM-clause-line c =
    let o = c.args.out.now in
    nothing_put o (no-beginning (length o) c.args.sheet.now (omega arith)).0 c.nothing.ensures.0
