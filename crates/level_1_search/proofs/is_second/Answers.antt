use Rattle.std.proofs.Common.{◌∙◌, arith}
use Rattle.bits.specs.Number.{bit_of}
use Rattle.bits.proofs.Message.{digit-of}
use Rattle.reed_muller.proofs.Parity.{backwards-small}
use Rattle.reed_muller.proofs.Belongs.{belongs-bits}
use Rattle.near_frames.proofs.NearKinds.{size}
use Rattle.level_1_search.proofs.is_second.Goals as goal

pub transformed-requires : goal.transformed-requires
transformed-requires c = omega (arith, (size c.args.kind c.requires).high)

pub clear_above-requires : goal.clear_above-requires
clear_above-requires c =
    let z = size c.args.kind c.requires in
    ((z.low, omega (arith, z.high)), omega (arith, z.low))

pub returns : goal.returns
returns c =
    let bits = bit_of c.args.word in
    c.clear_above.ensures
    ∙ belongs-bits 3 c.args.kind bits (bit_of c.transformed.result)
    (digit-of c.transformed.ensures (λ S h. backwards-small c.args.kind bits S))
