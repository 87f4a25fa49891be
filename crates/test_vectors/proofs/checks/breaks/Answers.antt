-- By the open reading, and then by the strict one, of the moved frame. Assumes nothing.
use Rattle.std.proofs.Common.{sym, ◌∙◌}
use Rattle.test_vectors.specs.Vector.{is_broken, marked_frame}
use Rattle.test_vectors.proofs.Moving.{first-moved}
use Rattle.test_vectors.proofs.checks.breaks.Goals as goal

pub returns-then-answers : goal.returns-then-answers
unfolding is_broken
returns-then-answers c =
    let s = c.args in
    let moved = sym (first-moved 0 1 s.by s.frame.now marked_frame c.moved-other.result c.moved-other.ensures.0) in
    rw (moved, sym c.answers.ensures ∙ c.if-answers.true) c.answers-then-answers.ensures

pub returns-else-answers : goal.returns-else-answers
unfolding is_broken
returns-else-answers c =
    let s = c.args in
    let moved = sym (first-moved 0 1 s.by s.frame.now marked_frame c.moved-other.result c.moved-other.ensures.0) in
    rw (moved, sym c.answers.ensures ∙ c.if-answers.false) c.if-answers.false
