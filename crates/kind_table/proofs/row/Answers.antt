-- `row` meets its contract: in each arm the row of the definition, computed. Assumes nothing.
use Rattle.std.proofs.Common.{rules, arith}
use lib.Count.{ones}
use borrow.Author.Tests.{ne_eqb}
use Rattle.bits.specs.Number.{table}
use Rattle.reed_muller.specs.Level.{dimension, masks, of_weight}
use Rattle.frames.specs.Kind.{kinds, degrees, levels, level_bits}
use Rattle.kind_table.specs.Table.{row_of}
use Rattle.kind_table.proofs.row.Goals as goal

pub returns-in-3 : goal.returns-in-3
unfolding row_of levels level_bits degrees kinds dimension masks of_weight table ones
returns-in-3 c = search rules

pub returns-in-4 : goal.returns-in-4
unfolding row_of levels level_bits degrees kinds dimension masks of_weight table ones
returns-in-4 c = search rules

pub returns-in-5 : goal.returns-in-5
unfolding row_of levels level_bits degrees kinds dimension masks of_weight table ones
returns-in-5 c = search rules

pub returns-in-6 : goal.returns-in-6
unfolding row_of levels level_bits degrees kinds dimension masks of_weight table ones
returns-in-6 c = search rules

-- in no row
pub returns-in_default : goal.returns-in_default
unfolding row_of levels level_bits degrees kinds
returns-in_default c =
    let k = c.args.kind in
    rw (ne_eqb k 3 (omega arith), ne_eqb k 4 (omega arith), ne_eqb k 5 (omega arith), ne_eqb k 6 (omega arith))
