-- `shaped_energies`: the energy of the blocks passed so far, and the largest of theirs.
use Rattle.std.proofs.Common.{◌≡◌, ◌*◌, ◌≤◌, take}
use Rattle.e8.specs.Energy.{energy}
use Rattle.e8.specs.Largest.{largest_to}
use Rattle.sending.proofs.shaped_energies.Given as goal

abbrev pub invariant-loop-j : goal.invariant-loop-j
invariant-loop-j l = record {
  sum : l.energy ≡ energy (take (8 * l.j) l.frame);
  small : l.energy ≤ 8388608 * l.j;
  most : l.largest ≡ largest_to l.j l.frame;
}
