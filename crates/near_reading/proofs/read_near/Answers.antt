use Rattle.std.proofs.Common.{◌≡◌, length, sym, ap, ◌∙◌}
use Rattle.refusals.specs.Number.{code}
use Rattle.near_reading.specs.Answer.{near_number, Near, Refused}
use Rattle.near_reading.proofs.Tests.{some, not-far, distance-told, distance-none, answer-near, answer-far, answer-refused}
use Rattle.near_reading.proofs.read_near.Goals as goal

-- a near frame
pub returns-in-Ok-clause-answer : goal.returns-in-Ok-clause-answer
returns-in-Ok-clause-answer c =
    let k = c.args.kind in
    let b = c.args.grade in
    let xs = c.args.samples.now in
    let n = length c.args.message.now in
    let z : near_number k b xs n ≡ 0 = sym c.in-Ok.ensures.number in
    ap Near (c.distance_of.ensures.0 ∙ distance-told k b xs n z c.in-Ok.cost c.in-Ok.ensures.cost) ∙ answer-near k b xs n z

pub returns-in-Ok-clause-distance : goal.returns-in-Ok-clause-distance
returns-in-Ok-clause-distance c =
    c.distance_of.ensures.0
    ∙ distance-told c.args.kind c.args.grade c.args.samples.now (length c.args.message.now) (sym c.in-Ok.ensures.number) c.in-Ok.cost c.in-Ok.ensures.cost

-- too far
pub returns-in-TooFar-clause-answer : goal.returns-in-TooFar-clause-answer
returns-in-TooFar-clause-answer c =
    answer-far c.args.kind c.args.grade c.args.samples.now (length c.args.message.now) (sym c.in-Err.ensures.number ∙ ap code c.in-TooFar.is)

pub returns-in-TooFar-clause-distance : goal.returns-in-TooFar-clause-distance
returns-in-TooFar-clause-distance c =
    sym (distance-none c.args.kind c.args.grade c.args.samples.now (length c.args.message.now) (λ z. some c.in-Err.refusal (c.in-Err.ensures.number ∙ z)))

-- another refusal
pub returns-in_default : goal.returns-in_default
returns-in_default c =
    let k = c.args.kind in
    let b = c.args.grade in
    let xs = c.args.samples.now in
    let n = length c.args.message.now in
    let r = c.in-Err.refusal in
    let is : code r ≡ near_number k b xs n = c.in-Err.ensures.number in
    let h : near_number k b xs n ≡ 0 → ⊥ = λ z. some r (is ∙ z) in
    record {
      answer = ap Refused is ∙ answer-refused k b xs n h (λ e. not-far r c.in_default.not-TooFar (is ∙ e));
      number = is;
      distance = sym (distance-none k b xs n h);
      message = c.in-Err.ensures.message;
    }
