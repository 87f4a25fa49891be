-- The bytes behind are held so far. Assumes nothing.
use Rattle.std.proofs.Common.{◌≡◌, reverse, map}
use Rattle.test_data.specs.Held.{number_in}
use Rattle.test_data.proofs.number.Given as goal

abbrev pub invariant-loop-b : goal.invariant-loop-b
invariant-loop-b l = l.x ≡ number_in (reverse (map (λ b. b.now) l.yielded))
