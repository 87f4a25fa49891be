use Rattle.std.proofs.Common.{◌≡◌, take}
use Rattle.coordinates.proofs.store.Given as goal

-- the first places are those of the block
abbrev pub invariant-loop-i : goal.invariant-loop-i
invariant-loop-i l = take l.i l.part ≡ take l.i l.x
