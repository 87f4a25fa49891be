-- Past the tests the lengths fit, so that each is sent in turn. Assumes nothing.
use Rattle.std.proofs.Common.{ℕ, ◌*◌, ◌/◌, length, sym, ap, ap₂, ◌∙◌, arith}
use Rattle.frames.proofs.Rows.{grade-high}
use Rattle.queue_turns.proofs.Tests.{fits, some_bytes}
use Rattle.test_queue.proofs.one_by_one.one_by_one.Goals as goal

pub message_bytes-m-requires : goal.message_bytes-m-requires
message_bytes-m-requires c = let f = fits _ _ _ _ (sym c.in_default.ensures) in (f.kind, grade-high _ f.grade)

pub positions-n-requires : goal.positions-n-requires
positions-n-requires c = (fits _ _ _ _ (sym c.in_default.ensures)).kind

pub nonzero_div-messages : goal.nonzero_div-messages
nonzero_div-messages c =
    let f = fits _ _ _ _ (sym c.in_default.ensures) in omega (arith, c.message_bytes-m.ensures, some_bytes _ _ f.kind f.grade)

pub in_turn-requires : goal.in_turn-requires
in_turn-requires c =
    let long = length c.args.messages.now in
    let f = fits _ _ _ _ (sym c.in_default.ensures) in
    let m = c.message_bytes-m.ensures in
    let n = c.positions-n.ensures in (
      m,
      n,
      f.messages ∙ ap (λ (x : ℕ). x * (long / x)) (sym m),
      f.coordinates ∙ ap₂ (λ (x y : ℕ). x * (long / y)) (sym n) (sym m),
    )
