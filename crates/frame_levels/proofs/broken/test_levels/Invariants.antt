-- The levels below i are codewords. Assumes nothing.
use Rattle.std.proofs.Common.{◌≡◌, drop}
use Rattle.frames.specs.Kind.{degrees}
use Rattle.frame_levels.specs.Words.{broken_in}
use Rattle.frame_levels.proofs.broken.test_levels.Given as goal

abbrev pub invariant-loop-i : goal.invariant-loop-i
invariant-loop-i l = broken_in l.kind 0 (degrees l.kind) l.words ≡ broken_in l.kind l.i (drop l.i (degrees l.kind)) l.words
