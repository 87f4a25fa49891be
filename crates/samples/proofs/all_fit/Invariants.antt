use Rattle.std.proofs.Common.{◌≡◌, cond, take}
use Rattle.samples.specs.Sample.{all_fit}
use Rattle.samples.proofs.all_fit.Given as goal

-- `out` is 0 where the samples passed so far are fit
abbrev pub invariant-loop-x : goal.invariant-loop-x
invariant-loop-x l = l.out ≡ cond (all_fit (take l.x-index l.samples)) 0 1
