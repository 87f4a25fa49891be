-- The marks, with the coordinates taken over them. Assumes nothing.
use Rattle.std.proofs.Common.{ℕ, List, ℤ, ap₂, ◌∙◌}
use Rattle.test_data.specs.Held.{coordinate_in, taken_from}
use Rattle.test_free.proofs.Judging.{behind}
use Rattle.test_free.proofs.checks.frame_in.Goals as goal

pub returns : goal.returns
returns c = (
  c.take_from.ensures ∙ ap₂ (λ (l : List ℕ) (x : List ℤ). taken_from coordinate_in l x) (behind c.args.bytes.now) c.marks-frame.ensures.0,
  c.take_from.auto.out ∙ c.marks-frame.ensures.1,
)
