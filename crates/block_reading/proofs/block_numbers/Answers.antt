use Rattle.std.proofs.Common.{◌^◌, sym, subst, ap, ◌∙◌, arith}
use Rattle.e8.specs.Energy.{Within}
use Rattle.frames.specs.Reading.{quotients}
use Rattle.block_reading.proofs.Quotients.{quotients-within}
use Rattle.block_reading.proofs.block_numbers.Goals as goal

pub reduce-requires : goal.reduce-requires
reduce-requires c =
    let a = c.args.a in
    let part = c.args.part.now in
    (omega arith, subst (Within (2 ^ 24)) (sym (c.floor_quotients-v.ensures ∙ ap (quotients a) c.load.ensures)) (quotients-within (2 ^ 24) a part c.requires.4))
