-- Message bits laid at their masks. Private contracts cite it. Assumes nothing.
use Rattle.std.specs.Prelude.{ℕ, ◌%◌, eqb}
use Rattle.bits.specs.Number.{given, sum_to}

-- of the first n bits those with mask S, added modulo 2
unfoldable pub laid : ℕ → (ℕ → ℕ) → (ℕ → ℕ) → ℕ → ℕ
unfolding sum_to
laid n mask bit S = sum_to n (λ k. given (eqb (mask k) S) (bit k)) % 2
