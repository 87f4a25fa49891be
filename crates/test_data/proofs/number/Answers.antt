-- One byte more, before those that were read. Assumes nothing.
use Rattle.std.proofs.Common.{refl, rules}
use Rattle.test_data.specs.Held.{held}
use Rattle.test_data.proofs.Taken.{number_more}
use Rattle.test_data.proofs.number.Goals as goal

pub loop-b-init : goal.loop-b-init
unfolding held
loop-b-init c = refl

pub loop-b-preserved : goal.loop-b-preserved
loop-b-preserved c = number_more c.loop-b.yielded c.in-Some.b c.loop-b.x c.from.result c.from.ensures (search rules) c.loop-b.invariant
