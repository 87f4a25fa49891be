-- Opening an account (request E5): "An account is opened with a changeover count from 0 to 1,000,000". Assumes nothing.
use Rattle.std.specs.Prelude.{ℕ, cond, leb}
use Rattle.refusals.specs.Number.{number_of}
use Rattle.power_account.specs.declared.Account.{Account}
use Rattle.power_account.specs.declared.Opened.{Opened as Answered}
use Rattle.power_account.specs.Power.{begun}

-- "14: changeover, a count above 1,000,000, on opening only"; 0 is success
unfoldable pub opening_refusal : ℕ → ℕ
opening_refusal changeover = cond (leb changeover 1000000) 0 14

-- what opening answers: the refusal number, 0 for success, and the account
pub record Opened : Type 0 where
  pub number : ℕ
  pub account : Account

-- an answer read so
abbrev pub opened : Answered → Opened
opened o = record { number = number_of o.answer; account = o.account }

-- for a changeover: the number, and an account at its beginning with the changeover; where it is refused, "the account then handed out has zero in
-- every figure, its changeover included"
unfoldable pub opened_with : ℕ → Opened
unfolding opening_refusal
opened_with changeover = record { number = opening_refusal changeover; account = begun (cond (leb changeover 1000000) changeover 0) }
