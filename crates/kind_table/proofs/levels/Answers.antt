-- `levels` meets its contract. Assumes nothing.
use Rattle.std.proofs.Common.{arith}
use Rattle.kind_table.proofs.Entry.{entry-levels}
use Rattle.kind_table.proofs.levels.Goals as goal

pub returns : goal.returns
returns c = omega (arith, entry-levels c.args.kind c.row.result c.row.ensures)
