use Rattle.std.proofs.Common.{arith}
use Rattle.reading.proofs.Answers.{many-refused, long-refused}
use Rattle.reading.proofs.read_strict.Goals as goal

pub returns-then-free-gt4-clause-number : goal.returns-then-free-gt4-clause-number
returns-then-free-gt4-clause-number c = grind (arith, many-refused, long-refused)
