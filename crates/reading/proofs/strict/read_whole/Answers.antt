-- The numbers 0 and 1 stand for those of their tie rules. Assumes nothing.
use Rattle.std.proofs.Common.{arith}
use Rattle.reading.proofs.Answers.{even_rule, odd_rule, sent-strict}
use Rattle.reading.proofs.strict.read_whole.Goals as goal

pub returns-clause-number : goal.returns-clause-number
returns-clause-number c = grind (arith, sent-strict, even_rule, odd_rule)
