-- A frame has an even number of coordinates. Assumes nothing.
use Rattle.std.proofs.Common.{arith}
use Rattle.frames.proofs.Limits.{whole-blocks}
use Rattle.record_reader.proofs.test_frame.Goals as goal

pub take_coordinates-requires : goal.take_coordinates-requires
take_coordinates-requires c = (omega (arith, whole-blocks c.args.kind c.requires.0), omega arith)
