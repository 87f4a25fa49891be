-- What a test that is passed says of the definitions. Assumes nothing.
use Rattle.std.proofs.lemmas.Bool.Decides.{nat_tests}
use Rattle.frames.proofs.Rows.{grade-high}
use Rattle.frames.proofs.Refusals.{good-row}
use Rattle.frame_levels.proofs.Words.{broken-words}

-- the tests of the open reading
pub ruleset open_steps = (nat_tests, good-row, grade-high, broken-words)
