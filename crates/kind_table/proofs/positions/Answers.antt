-- `positions` meets its contract. Assumes nothing.
use Rattle.std.proofs.Common.{arith}
use Rattle.frames.proofs.Limits.{kind-high, few-positions}
use Rattle.kind_table.proofs.positions.Goals as goal

pub overflow_shl-result : goal.overflow_shl-result
overflow_shl-result c = omega (arith, kind-high c.args.kind c.requires)

pub returns : goal.returns
returns c = omega (arith, few-positions c.args.kind c.requires)
