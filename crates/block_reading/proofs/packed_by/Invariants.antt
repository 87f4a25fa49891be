use Rattle.std.proofs.Common.{◌≡◌}
use Rattle.block_reading.proofs.Packing.{packed_from}
use Rattle.block_reading.proofs.packed_by.Given as goal

abbrev pub invariant-loop-i : goal.invariant-loop-i
invariant-loop-i l = l.bits ≡ packed_from l.fn.grade l.fn.s l.i
