-- One more, or no more bytes, or no more room. Assumes nothing.
use Rattle.std.proofs.Common.{◌∙◌, arith, rules}
use Rattle.std.proofs.Math.Seq.{set-get_or}
use Rattle.test_data.proofs.Taken.{no_more, no_room, one_more}
use Rattle.test_data.proofs.frame.take_from.Goals as goal

pub returns-in_default : goal.returns-in_default
returns-in_default g c =
    set-get_or c.loop-z.out c.loop-z.z-index c.z-item.result
    ∙ no_more g.T.OfFour.of_four _ c.loop-z.out c.loop-z.rest.now c.loop-z.z-index c.in_default.ensures.cases c.loop-z.invariant

pub loop-z-preserved : goal.loop-z-preserved
loop-z-preserved g c =
    one_more g.T.OfFour.of_four _ c.loop-z.out c.loop-z.rest.now c.in-Some.behind.now c.loop-z.z-index c.z-item.result c.of_four.result
    (omega (arith, c.in-Some.ensures.cases)) c.in-Some.ensures.cases.1 (omega arith) (search rules) c.loop-z.invariant

pub returns : goal.returns
returns g c = no_room g.T.OfFour.of_four _ c.loop-z.out c.loop-z.rest.now c.loop-z.z-index (omega arith) c.loop-z.invariant
