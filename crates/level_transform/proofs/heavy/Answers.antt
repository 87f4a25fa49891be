use Rattle.std.proofs.Common.{arith}
use Rattle.level_transform.proofs.Clear.{heavy-word}
use Rattle.level_transform.proofs.heavy.Goals as goal

pub returns : goal.returns
returns c = heavy-word c.args.r (omega arith)
