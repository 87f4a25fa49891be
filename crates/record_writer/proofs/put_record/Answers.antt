-- The four bytes at its beginning, the number, and the coordinates, one behind the other. Assumes nothing.
use Rattle.records.proofs.Laws.{record-put}
use Rattle.record_writer.proofs.put_record.Goals as goal

pub returns : goal.returns
returns c = let put = record-put c.args.kind c.args.grade c.args.number c.args.frame.now c.args.buffer.now c.args.p c.requires.1 in cc
