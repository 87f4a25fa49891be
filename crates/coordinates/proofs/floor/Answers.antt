use Rattle.std.proofs.Common.{arith}
use Rattle.std.proofs.lemmas.Int.{to_z-of_z}
use Rattle.coordinates.proofs.Rest.{shifted-quotient}
use Rattle.coordinates.proofs.floor.Goals as goal

pub returns : goal.returns
returns c = grind (arith, to_z-of_z, shifted-quotient)
