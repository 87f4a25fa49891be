use Rattle.std.proofs.Common.{pos, rules, ◌∙◌}
use mir.Syntax.{w16}
use mir.Val.{SFits}
use Rattle.std.specs.Int.{int_min}
use Rattle.std.proofs.lemmas.Int.{to_z-of_z}
use Rattle.std.proofs.lemmas.Iterator.{YieldsList-from_slice}
use Rattle.std.proofs.lemmas.Iterator.Consumers.{YieldsList-from_copied, fold_from_yields_List}
use Rattle.rounding.proofs.smallest.Goals as goal

pub returns : goal.returns
returns c =
    let f : SFits w16 c.fold.result = search rules in
    to_z-of_z w16 c.fold.result f
    ∙ fold_from_yields_List _ int_min (pos 32767) c.fold.result c.fold.ensures.ran (YieldsList-from_copied (YieldsList-from_slice c.args.r.now cc)) (λ a x b q k. search rules)
