-- the entry of the table of masks of each length
use Rattle.std.proofs.Common.{◌∙◌, arith}
use Rattle.level_tables.proofs.MaskTables.{right-8, right-16, right-32, right-64, mask-entry}
use Rattle.level_tables.proofs.mask_at.Goals as goal

pub returns-in-3 : goal.returns-in-3
returns-in-3 c = c.from.ensures ∙ mask-entry (omega arith) right-8 c.args.k

pub returns-in-4 : goal.returns-in-4
returns-in-4 c = c.from-in-4.ensures ∙ mask-entry (omega arith) right-16 c.args.k

pub returns-in-5 : goal.returns-in-5
returns-in-5 c = c.from-in-5.ensures ∙ mask-entry (omega arith) right-32 c.args.k

pub returns-in_default : goal.returns-in_default
returns-in_default c = c.from-in_default.ensures ∙ mask-entry (omega arith) right-64 c.args.k
