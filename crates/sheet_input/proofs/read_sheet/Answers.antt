-- `read_sheet` meets its contract: one more read makes one more of its answers, and with the last the reading is over. Assumes nothing.
use Rattle.std.proofs.Common.{ℕ, ◌≤◌, sym, subst, arith}
use lib.ListN.{length-take, length-drop}
use borrow.Rule.Slice.PartMut.{same_len_mid}
use borrow.Author.Tests.{not-true, not-false}
use Rattle.sheet_input.specs.Reading.{answer_of}
use Rattle.sheet_input.proofs.Steps.{made-within, one-read, read-over}
use Rattle.sheet_input.proofs.read_sheet.Goals as goal

pub loop-input-preserved : goal.loop-input-preserved
loop-input-preserved g c =
    let i = c.loop-input.input in
    let r = c.after_read-input.result in
    let z = answer_of c.read.result in
    let made = c.after_read-input.ensures in (
      subst (λ (n : ℕ). r.length ≤ n) (sym (same_len_mid _ _ _ _ c.read.auto.room))
          (made-within i r z made c.loop-input.invariant.0 (simp (length-take, length-drop) (omega arith))),
      one-read _ i r z made c.read.ensures (not-true i.over c.loop-input-test.true) (simp (length-take, length-drop) (omega arith)) c.loop-input.invariant.1,
    )

pub returns-clause-answers : goal.returns-clause-answers
returns-clause-answers g c = read-over _ c.loop-input.input (not-false c.loop-input.input.over c.loop-input-test.false) c.loop-input.invariant.1
