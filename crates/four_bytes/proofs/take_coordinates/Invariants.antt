use Rattle.std.proofs.Common.{◌*◌, length, drop}
use Rattle.coordinates.proofs.Filled.{Filled}
use Rattle.four_bytes.specs.FourBytes.{coordinates_from}
use Rattle.four_bytes.proofs.take_coordinates.Given as goal

-- 2·i coordinates are taken
abbrev pub invariant-loop-i : goal.invariant-loop-i
invariant-loop-i l = Filled (coordinates_from (length l.initial.frame) (drop l.p l.s)) l.frame (2 * l.i)
