-- `level_bits` meets its contract. Assumes nothing.
use Rattle.std.proofs.Common.{arith}
use Rattle.kind_table.proofs.Entry.{entry-bits}
use Rattle.kind_table.proofs.level_bits.Goals as goal

pub returns : goal.returns
returns c = omega (arith, entry-bits c.args.kind c.row.result c.row.ensures)
