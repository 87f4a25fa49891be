-- `degree` meets its contract. Assumes nothing.
use Rattle.std.proofs.Common.{arith}
use Rattle.kind_table.proofs.Entry.{place, entry-degree}
use Rattle.kind_table.proofs.degree.Goals as goal

pub bounds-row-level : goal.bounds-row-level
bounds-row-level c = place c.args.kind c.requires.0 c.args.level c.requires.1

pub offset_bounds-row-level : goal.offset_bounds-row-level
offset_bounds-row-level c = omega (arith, place c.args.kind c.requires.0 c.args.level c.requires.1)

pub returns : goal.returns
returns c = entry-degree c.args.kind c.row.result c.row.ensures c.requires.0 c.args.level c.requires.1
