-- The energy of a record fits. Assumes nothing.
use Rattle.std.proofs.Common.{Ok, length}
use Rattle.records.specs.Reading.{record_read}
use Rattle.answers.proofs.Records.{read_fits}
use Rattle.record_calls.proofs.read_call.Goals as goal

pub answered-requires : goal.answered-requires
answered-requires c =
    let x = c.args in
    read_fits x.buffer.now _ (length x.frame.now) (record_read (Ok c.in-Ok.record)) c.in-Ok.ensures.answer
