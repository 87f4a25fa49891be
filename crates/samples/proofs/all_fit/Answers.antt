use Rattle.std.proofs.Common.{refl, ap₂, ◌∙◌, bit_or}
use Rattle.samples.specs.Sample.{all_fit}
use Rattle.samples.proofs.Samples.{fit-more}
use Rattle.samples.proofs.all_fit.Goals as goal

pub loop-x-init : goal.loop-x-init
unfolding all_fit
loop-x-init c = refl

pub loop-x-preserved : goal.loop-x-preserved
loop-x-preserved c =
    ap₂ bit_or c.loop-x.invariant c.unfit-out.ensures ∙ fit-more c.args.samples.now c.loop-x.x-index c.loop-x-test.true
