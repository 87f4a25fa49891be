-- What the tests of the writer say. Assumes nothing.
use Rattle.std.proofs.lemmas.Grind.{common_steps}
use Rattle.frames.proofs.Limits.{few-positions}
use Rattle.frames.proofs.Rows.{grade-low, grade-high}

pub ruleset steps = (common_steps, few-positions, grade-low, grade-high)
