use Rattle.std.proofs.Common.{arith}
use Rattle.std.proofs.lemmas.Int.{to_z-of_z}
use Rattle.frame_energy.proofs.Whole.{whole-square}
use Rattle.frame_energy.proofs.square.Goals as goal

pub returns : goal.returns
returns c = grind (arith, to_z-of_z, whole-square c.args.z c.requires)
