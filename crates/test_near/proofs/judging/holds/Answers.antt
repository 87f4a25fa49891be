-- The answer, and then the bytes. Assumes nothing.
use Rattle.test_near.specs.Judged.{place}
use Rattle.test_near.proofs.Passing.{no_room, bytes-are, answer-wrong, answer-right}
use Rattle.test_near.proofs.judging.holds.Goals as goal

pub returns-then-bytes-m-clause-passed : goal.returns-then-bytes-m-clause-passed
returns-then-bytes-m-clause-passed c =
    let s = c.args in (no_room (place s.way) s.q s.samples.now s.m s.bytes.now s.left.now c.if-bytes-m.true).0

pub returns-then-bytes-m-clause-bytes : goal.returns-then-bytes-m-clause-bytes
returns-then-bytes-m-clause-bytes c =
    let s = c.args in (no_room (place s.way) s.q s.samples.now s.m s.bytes.now s.left.now c.if-bytes-m.true).1

pub returns-then-not-answers-clause-passed : goal.returns-then-not-answers-clause-passed
returns-then-not-answers-clause-passed c =
    let s = c.args in
    answer-wrong (place s.way) s.q s.samples.now s.m s.bytes.now s.left.now c.if-bytes-m.false c.answers.ensures.answer c.answers.ensures.message
    c.if-not-answers.true

pub returns-then-not-answers-clause-bytes : goal.returns-then-not-answers-clause-bytes
returns-then-not-answers-clause-bytes c =
    let s = c.args in
    bytes-are (place s.way) s.q s.samples.now s.m s.bytes.now s.left.now c.if-bytes-m.false c.answers.ensures.answer c.answers.ensures.message

pub returns-clause-passed : goal.returns-clause-passed
returns-clause-passed c =
    let s = c.args in
    answer-right (place s.way) s.q s.samples.now s.m s.bytes.now s.left.now c.if-bytes-m.false c.answers.ensures.answer c.answers.ensures.message
    c.if-not-answers.false c.same_bytes.ensures

pub returns-clause-bytes : goal.returns-clause-bytes
returns-clause-bytes c =
    let s = c.args in
    bytes-are (place s.way) s.q s.samples.now s.m s.bytes.now s.left.now c.if-bytes-m.false c.answers.ensures.answer c.answers.ensures.message
