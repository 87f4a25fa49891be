use Rattle.test_data.proofs.Compared.{pointwise-same}
use Rattle.test_data.proofs.frame.same_coordinates.Goals as goal

pub returns : goal.returns
returns c = let e = pointwise-same c.args.x.now c.args.y.now in cc
