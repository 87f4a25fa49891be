use Rattle.std.proofs.Common.{◌≡◌, ◌^◌, drop, length}
use Rattle.mending.proofs.Figures.{Summed}
use Rattle.rounding.proofs.round.Given as goal

-- the places from i on are rounded, and the sums are those of the coordinates from i on
abbrev pub invariant-loop-i : goal.invariant-loop-i
invariant-loop-i l = record { long : length l.r ≡ 8; so_far : Summed (2 ^ l.k) (drop l.i l.x) (drop l.i l.r) l.sum l.halves l.sizes }
