-- Place after place. Assumes nothing.
use Rattle.std.proofs.Common.{◌+◌, pos, rules}
use Rattle.coordinates.proofs.Maps.{made-is, made-serves}
use Rattle.test_queue.specs.Judged.{laid_out}
use Rattle.test_queue.proofs.Laid.{laid-long, laid-at}
use Rattle.test_queue.proofs.judging.laid_out.Goals as goal

pub from_fn-requires : goal.from_fn-requires
from_fn-requires c = (search rules, made-serves 392 _ (λ x q r. search rules) (λ i l. search rules))

pub returns : goal.returns
returns c =
    made-is _ (λ i. pos (77777 + i)) _ (pos 0) (laid_out 392 77777) c.from_fn.result 392 c.from_fn.ensures.items (laid-long 392 77777)
    (λ k l. laid-at 392 77777 k l)
    (λ i y q l k. search rules)
