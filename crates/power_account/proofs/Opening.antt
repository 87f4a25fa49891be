-- Opening an account: it is refused exactly above 1,000,000, and then hands out an account with zero in every figure. Assumes nothing.
use Prim.Native.Nat.{ℕ, ◌<◌, ◌≤◌}
use mathlib.Core.Path.{◌≡◌}
use borrow.Author.Tests.{le-leb, lt-leb}
use Rattle.power_account.specs.Power.{begun}
use Rattle.power_account.specs.Opening.{opening_refusal, opened_with}

module _ (changeover : ℕ) where
  pub opened-zero : 1000000 < changeover → opened_with changeover ≡ record { number = 14; account = begun 0 }
  unfolding opened_with opening_refusal
  opened-zero h = rw (lt-leb changeover 1000000 h)

  pub opened-begun : changeover ≤ 1000000 → opened_with changeover ≡ record { number = 0; account = begun changeover }
  unfolding opened_with opening_refusal
  opened-begun h = rw (le-leb changeover 1000000 h)
