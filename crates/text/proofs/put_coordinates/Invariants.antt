use Rattle.std.proofs.Common.{◌≤◌, ◌+◌, ◌*◌, take}
use Rattle.text.specs.Text.{Put}
use Rattle.text.specs.Line.{coordinates_of}
use Rattle.text.proofs.put_coordinates.Given as goal

-- the text of the coordinates passed so far is put
abbrev pub invariant-loop-z : goal.invariant-loop-z
invariant-loop-z l = (l.a ≤ l.at + 12 * l.z-index) × Put l.initial.out l.at (coordinates_of (take l.z-index l.frame)) l.a l.out
