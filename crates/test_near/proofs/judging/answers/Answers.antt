use Rattle.std.proofs.Common.{refl}
use Rattle.test_near.specs.Judged.{answers_by}
use Rattle.test_near.proofs.judging.answers.Goals as goal

pub returns-in-Library-clause-answer : goal.returns-in-Library-clause-answer
unfolding answers_by
returns-in-Library-clause-answer c = rw c.in-Library.is c.library.ensures.answer

pub returns-in-Exported-clause-answer : goal.returns-in-Exported-clause-answer
unfolding answers_by
returns-in-Exported-clause-answer c = rw c.in-Exported.is c.exported.ensures.answer
