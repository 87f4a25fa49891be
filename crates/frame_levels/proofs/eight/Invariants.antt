-- The number has the bits of the coordinates below p. Assumes nothing.
use Rattle.std.proofs.Common.{◌≡◌}
use Rattle.bits.specs.Number.{number}
use Rattle.frames.specs.Frame.{level_word}
use Rattle.frame_levels.proofs.eight.Given as goal

abbrev pub invariant-loop-p : goal.invariant-loop-p
invariant-loop-p l = l.word ≡ number l.p (level_word l.i l.part)
