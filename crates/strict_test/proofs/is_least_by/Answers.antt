use Rattle.std.proofs.Common.{◌/◌, ◌^◌, List, length, sym, ap, ◌∙◌, subst, ℤ, arith}
use Rattle.e8.specs.Energy.{Within}
use Rattle.e8.specs.Ties.{least_frame_by}
use Rattle.frames.specs.Reading.{same_frame}
use Rattle.frames.proofs.Limits.{few-positions, some_block, whole-blocks}
use Rattle.strict_test.proofs.is_least_by.Goals as goal

pub shape-requires : goal.shape-requires
shape-requires c =
    let k = c.args.kind in
    let e = c.copied.ensures in
    let n = whole-blocks k c.requires.0 in (
      omega (arith, c.requires.1),
      omega (arith, ap length e, n),
      omega (arith, ap length e, few-positions k c.requires.0),
      subst (Within (2 ^ 24)) (sym e) c.requires.2,
      omega (arith, ap length e, n, some_block k c.requires.0),
    )

pub returns-clause-copy : goal.returns-clause-copy
returns-clause-copy c =
    let a = c.args in
    c.shape.ensures ∙ ap (λ (x : List ℤ). least_frame_by a.last (2 ^ a.k) (length x / 8) x) c.copied.ensures

pub returns-clause-same : goal.returns-clause-same
returns-clause-same c = c.same.ensures ∙ ap (same_frame c.args.frame.now) (returns-clause-copy c)
