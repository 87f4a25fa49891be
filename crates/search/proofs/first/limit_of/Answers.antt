use Rattle.std.proofs.Common.{◌≡◌, ◌-◌, ◌*◌, ◌%◌, ◌^◌, refl, arith}
use Rattle.near_frames.specs.Near.{near_limit}
use Rattle.near_frames.proofs.NearKinds.{each-near, size}
use Rattle.search.proofs.first.limit_of.Goals as goal

pub overflow_sub-result : goal.overflow_sub-result
overflow_sub-result c = omega (arith, (size c.args.kind c.requires).low)

pub overflow_shl-result : goal.overflow_shl-result
overflow_shl-result c = omega (arith, (size c.args.kind c.requires).high)

pub returns : goal.returns
returns c = each-near (λ k. 65536 * 2 ^ (k - 3) % 2 ^ 32 ≡ near_limit k) refl refl refl c.args.kind c.requires
