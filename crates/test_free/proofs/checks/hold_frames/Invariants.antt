-- The judgements of the first i frames are counted. Assumes nothing.
use Rattle.std.proofs.Common.{◌≡◌}
use Rattle.test_tally.specs.Tally.{judged_all}
use Rattle.test_free.specs.Judged.{all_judgements}
use Rattle.test_free.proofs.checks.hold_frames.Given as goal

abbrev pub invariant-loop-i : goal.invariant-loop-i
invariant-loop-i l = l.tally ≡ judged_all (all_judgements l.u l.message l.n l.i l.frames) l.initial.tally
