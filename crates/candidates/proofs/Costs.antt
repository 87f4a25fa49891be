-- The cost of a change, paid or not: what it is, as the code reads it, and its size. Assumes nothing.
use Rattle.std.proofs.Common.{◌≡◌, ◌^◌, ◌≤◌, ℤ, pos, nat_abs, cond, refl, ◌∙◌, ap₂, arith}
use lib.Signed.{lt_z}
use mir.Syntax.{w32}
use mir.Val.{SFits}
use Rattle.integers.proofs.Zed.{tz}
use Rattle.coordinates.proofs.Size.{fits, where-abs}
use Rattle.coordinates.proofs.Reading.{read}

-- by is the cost, x as the code makes it, r what is returned
pub record Paid (odd by x r : ℤ) : Type 0 where
  pub fit : SFits w32 odd
  pub small : nat_abs by ≤ 2 ^ 14
  pub made : x ≡ by
  pub given : r ≡ cond (lt_z (pos 0) (read odd)) (read x) (pos 0)

module _ {odd by x r : ℤ} (p : Paid odd by x r) where
  pub cost-size : nat_abs (cond (lt_z (pos 0) odd) by (pos 0)) ≤ 2 ^ 14
  cost-size = where-abs (lt_z (pos 0) odd) by (2 ^ 14) p.small

  pub cost-is : read r ≡ cond (lt_z (pos 0) odd) by (pos 0)
  cost-is =
      tz (p.given ∙ ap₂ (λ a b. cond (lt_z (pos 0) a) b (pos 0)) (tz refl p.fit) (tz p.made (fits by (omega (arith, p.small)))))
      (fits (cond (lt_z (pos 0) odd) by (pos 0)) (omega (arith, cost-size)))
