use Rattle.std.proofs.Common.{refl}
use Rattle.bits.specs.Message.{message_bit}
use Rattle.bits.proofs.bit.Goals as goal

pub returns : goal.returns
unfolding message_bit
returns c = refl
