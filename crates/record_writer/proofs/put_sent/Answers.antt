-- A frame has an even number of coordinates. Assumes nothing.
use Rattle.std.proofs.Common.{arith}
use Rattle.frames.proofs.Limits.{whole-blocks}
use Rattle.record_writer.proofs.put_sent.Goals as goal

pub put_record-requires : goal.put_record-requires
put_record-requires c = grind (arith, whole-blocks)
