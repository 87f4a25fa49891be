use Rattle.std.proofs.Common.{◌≡◌, ◌+◌, ◌*◌, ◌^◌, ◌≤◌, drop, length}
use Rattle.e8.specs.Energy.{energy}
use Rattle.frame_energy.proofs.energy_by_blocks.Given as goal

-- the sum and the energy of the blocks left make the energy
abbrev pub invariant-loop-j : goal.invariant-loop-j
invariant-loop-j l = record { inside : 8 * l.j ≤ length l.frame; left : l.sum + energy (drop (8 * l.j) l.frame) ≡ energy l.frame; low : l.sum ≤ 2 ^ 51 * l.j }
