use Rattle.std.proofs.Common.{ap, ◌∙◌}
use Rattle.near_reading.specs.Answer.{NearReading}
use Rattle.test_near.specs.Judged.{is_answer, library_answers}
use Rattle.test_near.proofs.judging.library.Goals as goal

pub returns-clause-answer : goal.returns-clause-answer
unfolding library_answers
returns-clause-answer c =
    let q = c.args.q in c.is_answer.ensures ∙ ap (λ (a : NearReading). is_answer a q.number q.distance) c.read_near-r.ensures.answer
