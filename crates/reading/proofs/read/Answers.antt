-- Past the tests a message can be written. Assumes nothing.
use Rattle.std.proofs.Common.{arith, rules}
use Rattle.e8.proofs.Within.{within-to}
use Rattle.frames.specs.Reading.{largest_read}
use Rattle.frames.proofs.Limits.{few-positions, whole-blocks}
use Rattle.frames.proofs.Reading.{taken-in-set}
use Rattle.frames.proofs.Refusals.{range-within, accepted}
use Rattle.reading.proofs.read.Goals as goal

pub energy_by_blocks-energy-requires : goal.energy_by_blocks-energy-requires
energy_by_blocks-energy-requires c =
    let a = accepted _ _ _ _ _ c.in_ok-words.ensures.open in (
      omega (arith, whole-blocks c.args.kind a.kind),
      omega (arith, few-positions c.args.kind a.kind),
      within-to largest_read 16777216 c.args.frame.now (omega arith) (range-within c.args.frame.now a.range),
    )

pub write_fixed-requires : goal.write_fixed-requires
write_fixed-requires c =
    let a = accepted _ _ _ _ _ c.in_ok-words.ensures.open in
    let set = taken-in-set _ _ _ _ _ c.in_ok-words.ensures.open in
    search rules
