use Rattle.coordinates.proofs.Filled.{Filled}
use Rattle.samples.specs.Sample.{samples_in_256ths}
use Rattle.samples.proofs.all_256ths.Given as goal

-- the samples below i are written
abbrev pub invariant-loop-i : goal.invariant-loop-i
invariant-loop-i l = Filled (samples_in_256ths l.samples) l.out l.i
