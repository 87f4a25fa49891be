-- `message_bytes` meets its contract. Assumes nothing.
use Rattle.std.proofs.Common.{arith}
use Rattle.frames.specs.Kind.{message_bytes}
use Rattle.frames.proofs.Limits.{few-message-bits}
use Rattle.kind_table.proofs.message_bytes.Goals as goal

pub overflow_add-result : goal.overflow_add-result
overflow_add-result c = omega (arith, few-message-bits c.args.kind c.args.grade c.requires.0 c.requires.1)

pub returns : goal.returns
unfolding message_bytes
returns c = omega arith
