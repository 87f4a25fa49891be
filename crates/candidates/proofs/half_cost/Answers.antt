use Rattle.std.proofs.Common.{◌≡◌, ◌^◌, ◌≤◌, ℤ, pos, ◌+ℤ◌, ◌*ℤ◌, nat_abs, cond, refl, ap, ap₂, arith}
use lib.Signed.{lt_z, shr_z}
use mir.Syntax.{w32}
use mir.Val.{SFits}
use Rattle.integers.proofs.Zed.{`◌, #◌, ◌⊗◌, tz, sfits-to, abs-ud}
use Rattle.coordinates.proofs.Size.{fits, abs!, sum-abs, double-abs, shr-abs}
use Rattle.coordinates.proofs.Reading.{read}
use Rattle.candidates.proofs.Costs.{Paid, cost-size, cost-is}
use Rattle.candidates.proofs.half_cost.Goals as goal

module _ (c : goal.After-cost) where
  quotient : read (shr_z (read c.args.low) 16) ≡ shr_z c.args.low 16
  quotient =
      tz (ap (λ (z : ℤ). shr_z z 16) (tz refl c.ranges.low)) (fits (shr_z c.args.low 16) (omega (arith, shr-abs c.args.low 16 (2 ^ 12) c.requires.1)))

  paid : Paid c.args.odd (pos 2 *ℤ shr_z c.args.low 16) (pos 2 *ℤ read (shr_z (read c.args.low) 16)) c.cost.result
  paid = record {
    fit = c.ranges.odd;
    small = omega (arith, double-abs (shr_z c.args.low 16) (2 ^ 12) (shr-abs c.args.low 16 (2 ^ 12) c.requires.1));
    made = ap (λ (z : ℤ). pos 2 *ℤ z) quotient;
    given = cc;
  }

  four-size : nat_abs (pos 4 *ℤ c.args.h) ≤ 2 ^ 9
  four-size = abs! (# 4 ⊗ ` c.args.h) (2 ^ 9) (omega (arith, abs-ud c.args.h, c.requires.0)) (omega (arith, abs-ud c.args.h, c.requires.0))

  four : read (pos 4 *ℤ read c.args.h) ≡ pos 4 *ℤ c.args.h
  four = tz (ap (λ (z : ℤ). pos 4 *ℤ z) (tz refl c.ranges.h)) (fits (pos 4 *ℤ c.args.h) (omega (arith, four-size)))

  total : read (pos 4 *ℤ read c.args.h) +ℤ read c.cost.result ≡ pos 4 *ℤ c.args.h +ℤ cond (lt_z (pos 0) c.args.odd) (pos 2 *ℤ shr_z c.args.low 16) (pos 0)
  total = ap₂ ◌+ℤ◌ four (cost-is paid)

  total-fits : SFits w32 (pos 4 *ℤ c.args.h +ℤ cond (lt_z (pos 0) c.args.odd) (pos 2 *ℤ shr_z c.args.low 16) (pos 0))
  total-fits = fits _ (omega (arith, sum-abs (pos 4 *ℤ c.args.h) (cond (lt_z (pos 0) c.args.odd) (pos 2 *ℤ shr_z c.args.low 16) (pos 0)) (2 ^ 9) (2 ^ 14) four-size (cost-size paid)))

pub overflow_add-result : goal.overflow_add-result
overflow_add-result c = sfits-to (search (total c)) (total-fits c)

pub returns : goal.returns
returns c = tz (total c) (total-fits c)
