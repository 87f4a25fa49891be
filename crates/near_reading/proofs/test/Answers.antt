use Rattle.std.proofs.Common.{◌^◌, length, sym, ◌∙◌}
use borrow.Author.Tests.{ne_eqb}
use Rattle.frames.proofs.Rows.{grade-high}
use Rattle.near_frames.proofs.NearKinds.{near-is-kind}
use Rattle.near_reading.specs.Answer.{near_refusal}
use Rattle.near_reading.proofs.test.Goals as goal

pub positions-requires : goal.positions-requires
positions-requires c = near-is-kind c.args.kind (sym c.is_near_kind.ensures ∙ c.if-not-is_near_kind.false)

pub message_bytes-requires : goal.message_bytes-requires
message_bytes-requires c = (
  near-is-kind c.args.kind (sym c.is_near_kind.ensures ∙ c.if-not-is_near_kind.false),
  grade-high c.args.grade (sym c.is_grade.ensures ∙ c.if-not-is_grade.false),
)

pub returns-then-samples-positions : goal.returns-then-samples-positions
unfolding near_refusal
returns-then-samples-positions c =
    rw (
      sym c.is_near_kind.ensures ∙ c.if-not-is_near_kind.false,
      sym c.is_grade.ensures ∙ c.if-not-is_grade.false,
      ne_eqb (length c.args.samples.now) (2 ^ c.args.kind) (λ e. c.if-samples-positions.true (e ∙ sym c.positions.ensures)),
    )
