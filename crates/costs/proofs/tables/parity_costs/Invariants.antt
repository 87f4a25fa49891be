use Rattle.std.proofs.Common.{◌≡◌, ℕ, ◌*◌, ◌/◌, ◌%◌, ◌<◌, get_or}
use Rattle.costs.specs.Costs.{cost_at}
use Rattle.costs.proofs.tables.parity_costs.Given as goal

-- the costs of the samples below p are written
abbrev pub invariant-loop-p : goal.invariant-loop-p
invariant-loop-p l = (i : ℕ) → i < 2 * l.p → get_or l.costs i 0 ≡ cost_at 256 l.samples (i / 2) (i % 2)
