-- The lowest bit of the quotient is its remainder by 2. Assumes nothing.
use Rattle.std.proofs.Common.{◌^◌, sym, ◌∙◌}
use Rattle.frames.proofs.Frame.{weight-bit}
use Rattle.frame_levels.proofs.Halves.{low-bit}
use Rattle.frame_levels.proofs.weight_bit.Goals as goal

pub returns : goal.returns
returns c = low-bit c.args.z (2 ^ c.args.i) c.ranges.z ∙ sym (weight-bit c.args.i c.args.z)
