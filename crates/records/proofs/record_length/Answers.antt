-- A kind has at most 64 coordinates. Assumes nothing.
use Rattle.std.proofs.Common.{arith}
use Rattle.frames.proofs.Limits.{few-positions}
use Rattle.records.proofs.record_length.Goals as goal

pub overflow_mul-result : goal.overflow_mul-result
overflow_mul-result c = grind (arith, few-positions)

pub overflow_add-result : goal.overflow_add-result
overflow_add-result c = grind (arith, few-positions)
