-- The codewords of the messages below i are tried, `word` is that of i, and d is the distance of the first p samples from the parities of the one that
-- is being tried.
use Rattle.std.proofs.Common.{◌≡◌, ℕ, ◌<◌}
use Rattle.bits.specs.Number.{sum_to}
use Rattle.costs.specs.Costs.{parity_cost}
use Rattle.search.specs.Search.{first_word}
use Rattle.search.proofs.Tries.{Tried}
use Rattle.search.proofs.first.first_level.Given as goal

abbrev pub invariant-loop-p : goal.invariant-loop-p
invariant-loop-p l = (l.d ≡ sum_to l.p (parity_cost l.samples l.a)) × (l.d < l.limit)

abbrev pub invariant-next : goal.invariant-next
invariant-next l = ((j : ℕ) → j < l.i → Tried l.kind l.samples j) × (l.word ≡ first_word l.kind l.i)
