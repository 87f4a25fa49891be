use Rattle.std.proofs.Common.{◌∙◌, arith}
use Rattle.bits.proofs.Message.{number-ext, digit-of}
use Rattle.bits.proofs.Digits.{digit-small}
use Rattle.level_message.proofs.first_bits.Goals as goal

pub returns : goal.returns
returns c =
    c.low_bits.ensures ∙ number-ext c.args.count (λ k l. digit-of c.gather.ensures (λ k _. digit-small c.args.bits _) k (omega arith))
