use Rattle.std.proofs.Common.{◌^◌}
use Rattle.reduction.proofs.Reducing.{Rows}
use Rattle.reduction.proofs.later_rows.Given as goal

abbrev pub invariant-loop-i : goal.invariant-loop-i
invariant-loop-i l = Rows (2 ^ l.k) l.y l.r l.q l.i
