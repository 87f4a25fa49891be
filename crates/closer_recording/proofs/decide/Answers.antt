use Rattle.std.proofs.Common.{sym, ap, ap₂, ◌∙◌, arith}
use Rattle.refusals.specs.Number.{number_of, figure_of}
use Rattle.octets.specs.Same.{same_bytes}
use Rattle.recordings.specs.Choice.{Neither}
use Rattle.recordings.proofs.Choices.{both-refused, first-refused, second-refused}
use Rattle.closer_recording.proofs.Bytes.{heard-number, refused-number, refused, odds, second, first}
use Rattle.closer_recording.proofs.decide.Goals as goal

pub returns-in-Ok-Err-clause-chosen : goal.returns-in-Ok-Err-clause-chosen
returns-in-Ok-Err-clause-chosen c =
    let a = c.args in
    let p = ap number_of (sym c.in-Ok-Err.is-0) ∙ c.read_cost-p.ensures.number in
    let q = ap number_of (sym c.in-Ok-Err.is-1) ∙ c.read_cost-q.ensures.number in
    second-refused a.kind a.grade a.first.now a.second.now (heard-number a.kind a.grade a.first.now a.one.now c.requires.0 p)
    (refused a.kind a.grade a.second.now a.two.now c.requires.1 c.in-Ok-Err.field-0-1 q)

pub returns-in-Err-Ok-clause-chosen : goal.returns-in-Err-Ok-clause-chosen
returns-in-Err-Ok-clause-chosen c =
    let a = c.args in
    let p = ap number_of (sym c.in-Err-Ok.is-0) ∙ c.read_cost-p.ensures.number in
    let q = ap number_of (sym c.in-Err-Ok.is-1) ∙ c.read_cost-q.ensures.number in
    first-refused a.kind a.grade a.first.now a.second.now (refused a.kind a.grade a.first.now a.one.now c.requires.0 c.in-Err-Ok.field-0-0 p)
    (heard-number a.kind a.grade a.second.now a.two.now c.requires.1 q)

pub returns-in-Err-Err-clause-chosen : goal.returns-in-Err-Err-clause-chosen
returns-in-Err-Err-clause-chosen c =
    let a = c.args in
    let p = ap number_of (sym c.in-Err-Err.is-0) ∙ c.read_cost-p.ensures.number in
    let q = ap number_of (sym c.in-Err-Err.is-1) ∙ c.read_cost-q.ensures.number in
    ap Neither (refused-number a.kind a.grade a.first.now a.one.now c.requires.0 c.in-Err-Err.refusal p)
    ∙ both-refused a.kind a.grade a.first.now a.second.now (refused a.kind a.grade a.first.now a.one.now c.requires.0 c.in-Err-Err.refusal p)
    (refused a.kind a.grade a.second.now a.two.now c.requires.1 c.in-Err-Err.field-0-1 q)

pub returns-then-not-same_bytes-clause-chosen : goal.returns-then-not-same_bytes-clause-chosen
returns-then-not-same_bytes-clause-chosen c =
    let a = c.args in
    let p = ap number_of (sym c.in-Ok-Ok.is-0) ∙ c.read_cost-p.ensures.number in
    let q = ap number_of (sym c.in-Ok-Ok.is-1) ∙ c.read_cost-q.ensures.number in
    odds a.kind a.grade a.first.now a.second.now a.one.now a.two.now c.requires p q c.same_bytes.result
    (c.same_bytes.ensures ∙ ap₂ same_bytes c.read_cost-p.ensures.message c.read_cost-q.ensures.message) c.if-not-same_bytes.true

pub returns-then-e-d-clause-chosen : goal.returns-then-e-d-clause-chosen
returns-then-e-d-clause-chosen c =
    let a = c.args in
    let p = ap number_of (sym c.in-Ok-Ok.is-0) ∙ c.read_cost-p.ensures.number in
    let q = ap number_of (sym c.in-Ok-Ok.is-1) ∙ c.read_cost-q.ensures.number in
    second a.kind a.grade a.first.now a.second.now a.one.now a.two.now c.requires p q c.same_bytes.result
    (c.same_bytes.ensures ∙ ap₂ same_bytes c.read_cost-p.ensures.message c.read_cost-q.ensures.message) c.if-not-same_bytes.false c.in-Ok-Ok.d c.in-Ok-Ok.e
    (ap figure_of (sym c.in-Ok-Ok.is-0) ∙ c.read_cost-p.ensures.cost) (ap figure_of (sym c.in-Ok-Ok.is-1) ∙ c.read_cost-q.ensures.cost) (omega arith)

pub returns-else-e-d-clause-chosen : goal.returns-else-e-d-clause-chosen
returns-else-e-d-clause-chosen c =
    let a = c.args in
    let p = ap number_of (sym c.in-Ok-Ok.is-0) ∙ c.read_cost-p.ensures.number in
    let q = ap number_of (sym c.in-Ok-Ok.is-1) ∙ c.read_cost-q.ensures.number in
    first a.kind a.grade a.first.now a.second.now a.one.now a.two.now c.requires p q c.same_bytes.result
    (c.same_bytes.ensures ∙ ap₂ same_bytes c.read_cost-p.ensures.message c.read_cost-q.ensures.message) c.if-not-same_bytes.false c.in-Ok-Ok.d c.in-Ok-Ok.e
    (ap figure_of (sym c.in-Ok-Ok.is-0) ∙ c.read_cost-p.ensures.cost) (ap figure_of (sym c.in-Ok-Ok.is-1) ∙ c.read_cost-q.ensures.cost) (omega arith)
