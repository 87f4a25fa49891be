use Rattle.std.proofs.Common.{◌≡◌, ℕ, ◌<◌, get_or, pos}
use Rattle.costs.specs.Costs.{candidate}
use Rattle.costs.proofs.write_frame.Given as goal

-- the coordinates below p are written
abbrev pub invariant-loop-p : goal.invariant-loop-p
invariant-loop-p l = (q : ℕ) → q < l.p → get_or l.frame q (pos 0) ≡ candidate l.samples l.a l.b q
