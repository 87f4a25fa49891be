use Rattle.std.proofs.Common.{arith}
use Rattle.level_1_search.proofs.Carry.{first-of-zero, first_of}
use Rattle.level_1_search.proofs.first_place.Goals as goal

pub returns-then-w-eq0 : goal.returns-then-w-eq0
returns-then-w-eq0 c = grind (arith, first-of-zero)

pub returns-else-w-eq0 : goal.returns-else-w-eq0
returns-else-w-eq0 c = grind (arith, first_of)
