use Rattle.samples.proofs.Constants.{const-middle, const-least, const-most}
use Rattle.samples.proofs.Moved.{fit-test}
use Rattle.samples.proofs.unfit.Goals as goal

pub returns : goal.returns
returns c = rw (const-least, const-middle, const-most) (fit-test c.args.x)
