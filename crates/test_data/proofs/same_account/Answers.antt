-- By the first figure that differs, and else by the sums. Assumes nothing.
use Rattle.std.proofs.Common.{arith}
use Rattle.std.proofs.lemmas.Grind.{common_steps}
use Rattle.test_data.specs.Alike.{same_account}
use Rattle.test_data.proofs.same_account.Goals as goal

pub returns-then-a-b-3 : goal.returns-then-a-b-3
unfolding same_account
returns-then-a-b-3 c = grind (arith, common_steps)

pub returns-else-a-b-3 : goal.returns-else-a-b-3
unfolding same_account
returns-else-a-b-3 c = grind (arith, common_steps)
