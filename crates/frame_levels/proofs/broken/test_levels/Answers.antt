-- A level that is no codeword is the first one, and one that is leaves the test to those after it. Assumes nothing.
use Rattle.std.proofs.Common.{◌<◌, arith}
use Rattle.std.proofs.lemmas.Bool.Decides.{nat_tests}
use Rattle.frames.specs.Kind.{levels}
use Rattle.frames.proofs.Limits.{few-levels, tabled, degree-fits}
use Rattle.frame_levels.proofs.Words.{broken-next, no_more}
use Rattle.frame_levels.proofs.broken.test_levels.Goals.{then-i-count+else-not-clear_above, else-i-count}
use Rattle.frame_levels.proofs.broken.test_levels.Goals as goal

pub clear_above-requires : goal.clear_above-requires
clear_above-requires c =
    let inside : c.loop-i.i < levels c.args.kind = omega arith in
    (tabled c.args.kind c.requires, omega (arith, degree-fits c.args.kind c.requires c.loop-i.i inside))

pub broken-requires : goal.broken-requires
broken-requires c = omega arith

pub returns-then-not-clear_above : goal.returns-then-not-clear_above
returns-then-not-clear_above c =
    let next = broken-next c.args.kind c.args.words c.loop-i.i c.degree-degree.result (omega arith) c.degree-degree.ensures in
    grind (arith, nat_tests)

pub loop-i-preserved : goal.loop-i-preserved
loop-i-preserved c =
    elim c.if-i-count.branch [
      | then-i-count+else-not-clear_above w ↦
          let next = broken-next c.args.kind c.args.words c.loop-i.i w.degree-degree.result (omega arith) w.degree-degree.ensures in
          grind (arith, nat_tests)
      | else-i-count w ↦ grind (arith, no_more)
    ]

pub returns : goal.returns
returns c = grind (arith, few-levels, no_more)
