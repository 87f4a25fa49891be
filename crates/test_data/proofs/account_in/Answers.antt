-- Figure by figure. Assumes nothing.
use Rattle.std.proofs.Common.{arith}
use Rattle.std.proofs.lemmas.Grind.{common_steps}
use Rattle.std.specs.Float.Ieee.{of_bits}
use Rattle.test_data.specs.Held.{account_in}
use Rattle.test_data.proofs.account_in.Goals as goal

pub returns-then-bytes-lt24 : goal.returns-then-bytes-lt24
unfolding account_in of_bits
returns-then-bytes-lt24 c = grind (arith, common_steps)

pub returns : goal.returns
unfolding account_in
returns c = grind (arith, common_steps)
