-- the entry of the table of dimensions of each length
use Rattle.std.proofs.Common.{arith}
use Rattle.level_tables.proofs.MaskTables.{right-8, right-16, right-32, right-64, dimension-entry}
use Rattle.level_tables.proofs.dimension_of.Goals as goal

pub returns-in-3 : goal.returns-in-3
returns-in-3 c = dimension-entry (omega arith) right-8 c.args.r (omega arith)

pub returns-in-4 : goal.returns-in-4
returns-in-4 c = dimension-entry (omega arith) right-16 c.args.r (omega arith)

pub returns-in-5 : goal.returns-in-5
returns-in-5 c = dimension-entry (omega arith) right-32 c.args.r (omega arith)

pub returns-in_default : goal.returns-in_default
returns-in_default c = dimension-entry (omega arith) right-64 c.args.r (omega arith)
