-- the message bits at their masks, by the tables of each length
use Rattle.std.proofs.Common.{◌∙◌, refl, arith}
use Rattle.level_tables.proofs.MaskTables.{right-8, right-16, right-32, right-64, below_64}
use Rattle.level_tables.proofs.Gathered.{all-places}
use Rattle.level_codeword.proofs.Laid.{spread-all}
use Rattle.level_codeword.proofs.coefficients.Goals as goal

pub gather-requires-in-5-default : goal.gather-requires-in-5-default
gather-requires-in-5-default c = (refl, omega arith, below_64 refl)

pub spread-requires-in_default-0-to-3 : goal.spread-requires-in_default-0-to-3
spread-requires-in_default-0-to-3 c = (refl, omega arith, below_64 refl)

pub gather-requires-in_default : goal.gather-requires-in_default
gather-requires-in_default c = (refl, omega arith, below_64 refl)

pub returns-in-3-default : goal.returns-in-3-default
returns-in-3-default c = c.gather.ensures ∙ all-places (omega arith) right-8 c.args.bits

pub returns-in-4-0-to-1 : goal.returns-in-4-0-to-1
returns-in-4-0-to-1 c =
    c.spread.ensures
    ∙ spread-all (omega arith) right-16 8 c.args.bits c.args.r 1 c.requires.2 (omega arith) (omega arith) (omega arith) (omega arith)

pub returns-in-4-default : goal.returns-in-4-default
returns-in-4-default c = c.gather-in-4-default.ensures ∙ all-places (omega arith) right-16 c.args.bits

pub returns-in-5-0-to-1 : goal.returns-in-5-0-to-1
returns-in-5-0-to-1 c =
    c.spread-in-5-0-to-1.ensures
    ∙ spread-all (omega arith) right-32 8 c.args.bits c.args.r 1 c.requires.2 (omega arith) (omega arith) (omega arith) (omega arith)

pub returns-in-5-default : goal.returns-in-5-default
returns-in-5-default c = c.gather-in-5-default.ensures ∙ all-places (omega arith) right-32 c.args.bits

pub returns-in_default-0-to-1 : goal.returns-in_default-0-to-1
returns-in_default-0-to-1 c =
    c.spread-in_default-0-to-1.ensures
    ∙ spread-all (omega arith) right-64 8 c.args.bits c.args.r 1 c.requires.2 (omega arith) (omega arith) (omega arith) (omega arith)

pub returns-in_default-0-to-3 : goal.returns-in_default-0-to-3
returns-in_default-0-to-3 c =
    c.spread-in_default-0-to-3.ensures
    ∙ spread-all (omega arith) right-64 48 c.args.bits c.args.r 3 c.requires.2 (omega arith) (omega arith) (omega arith) (omega arith)

pub returns-in_default : goal.returns-in_default
returns-in_default c = c.gather-in_default.ensures ∙ all-places (omega arith) right-64 c.args.bits
