-- the bits of the first masks of the order, by the table of each length
use Rattle.std.proofs.Common.{◌∙◌, refl, arith}
use Rattle.level_tables.proofs.MaskTables.{right-8, right-16, right-32, right-64, below_64}
use Rattle.level_tables.proofs.Gathered.{all-masks, first-masks}
use Rattle.level_message.proofs.message_held.Goals as goal

pub first_bits-requires-in-5-default-clause-eights : goal.first_bits-requires-in-5-default-clause-eights
first_bits-requires-in-5-default-clause-eights c = (refl, omega arith, below_64 refl)

pub first_bits-requires-in_default-0-to-48-clause-eights : goal.first_bits-requires-in_default-0-to-48-clause-eights
first_bits-requires-in_default-0-to-48-clause-eights c = (refl, omega arith, below_64 refl)

pub first_bits-requires-in_default-clause-eights : goal.first_bits-requires-in_default-clause-eights
first_bits-requires-in_default-clause-eights c = (refl, omega arith, below_64 refl)

pub returns-in-3-default : goal.returns-in-3-default
returns-in-3-default c = c.first_bits.ensures ∙ all-masks (omega arith) right-8 c.args.bits c.args.count

pub returns-in-4-0-to-8 : goal.returns-in-4-0-to-8
returns-in-4-0-to-8 c = c.first_bits-in-4-0-to-8.ensures ∙ first-masks (omega arith) right-16 c.args.bits 8 (omega arith)

pub returns-in-4-default : goal.returns-in-4-default
returns-in-4-default c = c.first_bits-in-4-default.ensures ∙ all-masks (omega arith) right-16 c.args.bits c.args.count

pub returns-in-5-0-to-8 : goal.returns-in-5-0-to-8
returns-in-5-0-to-8 c = c.first_bits-in-5-0-to-8.ensures ∙ first-masks (omega arith) right-32 c.args.bits 8 (omega arith)

pub returns-in-5-default : goal.returns-in-5-default
returns-in-5-default c = c.first_bits-in-5-default.ensures ∙ all-masks (omega arith) right-32 c.args.bits c.args.count

pub returns-in_default-0-to-8 : goal.returns-in_default-0-to-8
returns-in_default-0-to-8 c = c.first_bits-in_default-0-to-8.ensures ∙ first-masks (omega arith) right-64 c.args.bits 8 (omega arith)

pub returns-in_default-0-to-48 : goal.returns-in_default-0-to-48
returns-in_default-0-to-48 c = c.first_bits-in_default-0-to-48.ensures ∙ first-masks (omega arith) right-64 c.args.bits 48 (omega arith)

pub returns-in_default : goal.returns-in_default
returns-in_default c = c.first_bits-in_default.ensures ∙ all-masks (omega arith) right-64 c.args.bits c.args.count
