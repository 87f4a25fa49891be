use Rattle.std.proofs.Common.{◌≡◌, ◌^◌, ◌≤◌, ℤ, pos, ◌+ℤ◌, ◌-ℤ◌, ◌*ℤ◌, nat_abs, cond, refl, ap, ap₂, arith}
use lib.Signed.{lt_z, shr_z}
use mir.Syntax.{w32}
use mir.Val.{SFits}
use Rattle.integers.proofs.Zed.{tz, sfits-to}
use Rattle.coordinates.proofs.Size.{fits, sum-abs, less-abs, double-abs, shr-abs}
use Rattle.coordinates.proofs.Reading.{read}
use Rattle.candidates.proofs.Costs.{Paid, cost-size, cost-is}
use Rattle.candidates.proofs.whole_cost.Goals as goal

module _ (c : goal.After-cost) where
  quotient : read (shr_z (read c.args.top) 16) ≡ shr_z c.args.top 16
  quotient =
      tz (ap (λ (z : ℤ). shr_z z 16) (tz refl c.ranges.top)) (fits (shr_z c.args.top 16) (omega (arith, shr-abs c.args.top 16 (2 ^ 12) c.requires.2)))

  gap-size : nat_abs (c.args.h -ℤ shr_z c.args.top 16) ≤ 2 ^ 13
  gap-size = omega (arith, less-abs c.args.h (shr_z c.args.top 16) (2 ^ 7) (2 ^ 12) c.requires.0 (shr-abs c.args.top 16 (2 ^ 12) c.requires.2))

  gap : read (read c.args.h -ℤ read (shr_z (read c.args.top) 16)) ≡ c.args.h -ℤ shr_z c.args.top 16
  gap = tz (ap₂ ◌-ℤ◌ (tz refl c.ranges.h) quotient) (fits (c.args.h -ℤ shr_z c.args.top 16) (omega (arith, gap-size)))

  paid : Paid c.args.odd (pos 2 *ℤ (c.args.h -ℤ shr_z c.args.top 16)) (pos 2 *ℤ read (read c.args.h -ℤ read (shr_z (read c.args.top) 16))) c.cost.result
  paid = record {
    fit = c.ranges.odd;
    small = omega (arith, double-abs (c.args.h -ℤ shr_z c.args.top 16) (2 ^ 13) gap-size);
    made = ap (λ (z : ℤ). pos 2 *ℤ z) gap;
    given = cc;
  }

  total : read c.args.sizes +ℤ read c.cost.result ≡ c.args.sizes +ℤ cond (lt_z (pos 0) c.args.odd) (pos 2 *ℤ (c.args.h -ℤ shr_z c.args.top 16)) (pos 0)
  total = ap₂ ◌+ℤ◌ (tz refl c.ranges.sizes) (cost-is paid)

  total-fits : SFits w32 (c.args.sizes +ℤ cond (lt_z (pos 0) c.args.odd) (pos 2 *ℤ (c.args.h -ℤ shr_z c.args.top 16)) (pos 0))
  total-fits = fits _ (omega (arith, sum-abs c.args.sizes (cond (lt_z (pos 0) c.args.odd) (pos 2 *ℤ (c.args.h -ℤ shr_z c.args.top 16)) (pos 0)) (2 ^ 10) (2 ^ 14) c.requires.1 (cost-size paid)))

pub overflow_add-result : goal.overflow_add-result
overflow_add-result c = sfits-to (search (total c)) (total-fits c)

pub returns : goal.returns
returns c = tz (total c) (total-fits c)
