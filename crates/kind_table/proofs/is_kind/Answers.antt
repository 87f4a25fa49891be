-- `is_kind` meets its contract: a kind is what has a level. Assumes nothing.
use Rattle.std.proofs.Common.{ap, ◌∙◌, ℕ}
use lib.Dec.{ltb}
use Rattle.frames.proofs.Limits.{kind-has-level}
use Rattle.kind_table.proofs.Entry.{entry-levels}
use Rattle.kind_table.proofs.is_kind.Goals as goal

pub returns : goal.returns
returns c = ap (λ (n : ℕ). ltb 0 n) (entry-levels c.args.kind c.row.result c.row.ensures) ∙ kind-has-level c.args.kind
