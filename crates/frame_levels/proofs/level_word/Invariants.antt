-- The number has the bits of the coordinates of the first j blocks. Assumes nothing.
use Rattle.std.proofs.Common.{◌≡◌, ◌*◌}
use Rattle.bits.specs.Number.{number}
use Rattle.frames.specs.Frame.{level_word}
use Rattle.frame_levels.proofs.level_word.Given as goal

abbrev pub invariant-loop-j : goal.invariant-loop-j
invariant-loop-j l = l.word ≡ number (8 * l.j) (level_word l.i l.frame)
