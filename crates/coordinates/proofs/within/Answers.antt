use Rattle.std.proofs.Common.{false, ◌||◌, ltb, nat_abs, ◌∙◌, rules}
use borrow.Author.Tests.{tests}
use Rattle.std.proofs.lemmas.Iterator.{YieldsList-from_slice}
use Rattle.std.proofs.lemmas.Iterator.Consumers.{fold_from_yields_List}
use Rattle.e8.specs.Energy.{is_within}
use Rattle.coordinates.proofs.Range.{far-fold, not-far}
use Rattle.coordinates.proofs.within.Goals as goal

pub returns : goal.returns
returns c =
    not-far c.fold.result (is_within c.args.bound c.args.part.now)
    (fold_from_yields_List _ (λ a z. a || ltb c.args.bound (nat_abs z)) false c.fold.result c.fold.ensures.ran (YieldsList-from_slice c.args.part.now cc) (λ a x b q k. search (rules, tests))
    ∙ far-fold c.args.bound false c.args.part.now)
