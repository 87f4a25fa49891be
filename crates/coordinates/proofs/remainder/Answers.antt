use Rattle.std.proofs.Common.{arith}
use Rattle.std.proofs.lemmas.Int.{to_z-of_z}
use Rattle.coordinates.proofs.Rest.{remainder_is, fits-remainder}
use Rattle.coordinates.proofs.remainder.Goals as goal

pub returns : goal.returns
returns c = grind (arith, to_z-of_z, remainder_is, fits-remainder)
