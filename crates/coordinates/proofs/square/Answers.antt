use Rattle.std.proofs.Common.{arith}
use Rattle.std.proofs.lemmas.Int.{to_z-of_z}
use Rattle.e8.specs.Energy.{sq}
use Rattle.coordinates.proofs.square.Goals as goal

pub returns : goal.returns
unfolding sq
returns c = grind (arith, to_z-of_z)
