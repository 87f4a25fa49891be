-- What several of the functions show alike: that a refusal is no success, and what an account of a changeover holds afterwards. Assumes nothing.
use Rattle.std.proofs.Common.{◌≡◌, ℕ, List, ap, ◌∙◌, arith}
use Rattle.refusals.specs.declared.Refusal.{Refusal}
use Rattle.refusals.specs.Number.{code}
use Rattle.power_account.specs.declared.Account.{Account}
use Rattle.power_account.specs.Counted.{counted_refusal, counted_account}
use Rattle.power_account.proofs.History.{after-changeover}
use Rattle.answers.specs.Answer.{counted_held}

-- no refusal is a success
pub no-success : (r : Refusal) → code r ≡ 0 → ⊥
no-success r e = grind arith

module _ (k b f : ℕ) (bytes : List ℕ) (n : ℕ) (a : Account) (refusal : ℕ) (is : refusal ≡ counted_refusal k b f bytes n a) where
  pub account-is : counted_account refusal k b f bytes a ≡ counted_held k b f bytes n a
  account-is = ap (λ (m : ℕ). counted_account m k b f bytes a) is

  -- the changeover stays
  pub changeover-is : (x : Account) → x ≡ counted_account refusal k b f bytes a → x.changeover ≡ a.changeover
  changeover-is x e =
      ap (λ (y : Account). y.changeover) (e ∙ account-is)
      ∙ after-changeover a (record { kind = k; grade = b; free = f; message = bytes; n = n })
