-- The levels below i are held, and 0 stands for the others. Assumes nothing.
use Rattle.std.proofs.Common.{◌≡◌, min}
use Rattle.bits.proofs.Table.{filled}
use Rattle.frame_levels.proofs.Words.{backward_word}
use Rattle.frame_levels.proofs.level_words.Given as goal

abbrev pub invariant-loop-i : goal.invariant-loop-i
invariant-loop-i l = l.words ≡ filled 3 (backward_word l.kind l.frame) (min l.i l.count)
