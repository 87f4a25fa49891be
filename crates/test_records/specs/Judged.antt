-- When a case of the data passes each check: by the library's definitions, what is answered, stored and left is what the data says. Assumes nothing.
use Rattle.std.specs.Prelude.{ℕ, ◌-◌, Bool, ◌&&◌, cond, List, eqb, ℤ, length}
use Rattle.octets.specs.Same.{same_bytes}
use Rattle.frames.specs.Reading.{same_number, same_frame}
use Rattle.records.specs.Record.{record_length}
use Rattle.records.specs.Writing.{RecordWritten, write_answer, buffer_after}
use Rattle.records.specs.Reading.{RecordRead, read_answer, frame_read}
use Rattle.answers.specs.Answer.{answer_of, write_code, write_held, read_code, Figures, figures_of, read_held}
use Rattle.test_records.specs.declared.cases.Case.{Case}
use Rattle.test_records.specs.declared.Check.{Check}
use Rattle.test_records.specs.declared.Check.TheVariants.{Writer, ExportedWriter, Reader, ExportedReader, Length}

-- the place of a check in the tally
abbrev pub place : Check → ℕ
place Writer = 0
place ExportedWriter = 1
place Reader = 2
place ExportedReader = 3
place Length = 4

-- ---- a message m that is written, to the buffer o; afterwards the data has the buffer `left`

-- the buffer is left as it has to be
unfoldable pub buffer_right : Case → List ℕ → List ℕ → List ℕ → Bool
buffer_right q m o left = same_bytes (buffer_after q.kind q.grade q.number m q.place o) left

-- the writer's answer is that of the data
unfoldable pub same_written : RecordWritten → Case → Bool
same_written r q = eqb r.refusal q.refusal && eqb r.next q.next

-- THE WRITER PASSES: the library's answers what the data says, and leaves the buffer so
unfoldable pub writer_right : Case → List ℕ → List ℕ → List ℕ → Bool
unfolding buffer_right same_written
writer_right q m o left = same_written (write_answer q.kind q.grade m q.place (length o)) q && buffer_right q m o left

-- the place that is lent holds 77,777 before a call, and afterwards the one after the record, where it is written
unfoldable pub held_next : Case → ℕ
held_next q = cond (eqb q.refusal 0) q.next 77777

-- THE EXPORTED WRITER PASSES: it answers 0, or minus the refusal, stores the place on success only, and leaves the buffer so
unfoldable pub exported_writer_right : Case → List ℕ → List ℕ → List ℕ → Bool
unfolding buffer_right held_next
exported_writer_right q m o left =
    same_number (write_code q.kind q.grade m q.place (length o)) (answer_of q.refusal 0)
    && (eqb (write_held q.kind q.grade m q.place (length o) 77777) (held_next q) && buffer_right q m o left)

-- ---- a record that is read from the buffer s into the frame f; afterwards the data has the frame `left`

-- the reader's answer is that of the data
unfoldable pub same_read : RecordRead → Case → Bool
same_read r q =
    eqb r.refusal q.refusal
    && (eqb r.kind q.kind
    && (eqb r.grade q.grade && (eqb r.number q.number && (eqb r.energy q.energy && eqb r.next q.next))))

-- THE READER PASSES: the library's answers what the data says, and leaves the frame as it has to be
unfoldable pub reader_right : Case → List ℕ → List ℤ → List ℤ → Bool
unfolding same_read
reader_right q s f left = same_read (read_answer s q.place (length f)) q && same_frame (frame_read s q.place f) left

-- the four figures that are lent, the same in each
unfoldable pub same_figures : Figures → Figures → Bool
same_figures a b = eqb a.kind b.kind && (eqb a.grade b.grade && (eqb a.number b.number && eqb a.next b.next))

-- before a call none of them is the record's; afterwards each is, where the record is read
abbrev pub figures_before : Case → Figures
figures_before q = figures_of 171 171 (4294967295 - q.number) 77777

unfoldable pub figures_after : Case → Figures
figures_after q = cond (eqb q.refusal 0) (figures_of q.kind q.grade q.number q.next) (figures_before q)

-- THE EXPORTED READER PASSES: it answers the energy, or minus the refusal, stores the figures on success only, and leaves the frame as it has to be
unfoldable pub exported_reader_right : Case → List ℕ → List ℤ → List ℤ → Bool
unfolding same_figures figures_after
exported_reader_right q s f left =
    same_number (read_code s q.place (length f)) (answer_of q.refusal q.energy)
    && (same_figures (read_held s q.place (length f) (figures_before q)) (figures_after q) && same_frame (frame_read s q.place f) left)

-- ---- the length of a record

-- THE LENGTH PASSES: it is that of the data, which stands in place of the place after a record
unfoldable pub length_right : Case → Bool
length_right q = eqb (record_length q.kind) q.next
