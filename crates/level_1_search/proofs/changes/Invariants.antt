-- No changes before w are open; the sums are those of w from its first place on, in a turn from p on, and d is that at p.
use Rattle.std.proofs.Common.{◌≡◌, ◌-◌, ◌^◌, length}
use Rattle.level_1_search.proofs.Counted.{cost_from, Partial, Passed}
use Rattle.level_1_search.proofs.changes.Given as goal

abbrev pub invariant-loop-p : goal.invariant-loop-p
invariant-loop-p l = (l.w ≡ l.initial.w) × (length l.sums ≡ 33) × Partial l.n l.limit l.costs l.sums l.w l.p × (l.d ≡ cost_from l.n l.costs l.w l.p)

abbrev pub invariant-next : goal.invariant-next
invariant-next l = (length l.sums ≡ 33) × Passed l.kind l.costs l.base l.limit l.n l.sums l.w

abbrev pub decreases-next : goal.decreases-next
decreases-next l = 2 ^ l.n - l.w
