use Rattle.octets.proofs.Compared.{pointwise-same}
use Rattle.octets.proofs.same_bytes.Goals as goal

pub returns : goal.returns
returns c = let e = pointwise-same c.args.x.now c.args.y.now in cc
