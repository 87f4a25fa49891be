-- `in_range`: the bound of the test is the largest coordinate that is read. Assumes nothing.
use Prim.Native.Nat.{ℕ}
use mathlib.Core.Path.{◌≡◌, ap, ◌∙◌}
use mathlib.Core.List.{List}
use native.Mathlib.Omega.{arith}
use lib.IntN.{ℤ}
use Rattle.e8.specs.Energy.{is_within}
use Rattle.frames.specs.Reading.{largest_read, in_range}
use Rattle.frame_range.proofs.in_range.Statement.{statement}
use Rattle.frame_range.proofs.in_range.Tie as tie

within-requires : tie.Need-within-requires
within-requires c κs = omega arith

same-bound : (B : ℕ) (f : List ℤ) → B ≡ largest_read → is_within B f ≡ in_range f
unfolding in_range
same-bound B f e = ap (λ (A : ℕ). is_within A f) e

returns : tie.Need-returns
returns c = c.within.ensures ∙ same-bound _ c.before.args.frame.now (omega arith)

pub in_range_spec : {M : Type 1} → statement M
in_range_spec = tie.close (tie.spec within-requires returns)
