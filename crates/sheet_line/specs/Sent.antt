-- The line of the frame that is sent for a message. Assumes nothing.
use Rattle.std.specs.Prelude.{ℕ, List}
use Rattle.e8.specs.Energy.{energy}
use Rattle.frames.specs.Frame.{numbered_frame}
use Rattle.text.specs.Line.{line_of}

-- the line of the frame sent for a message under a number
unfoldable pub sent_line : ℕ → ℕ → ℕ → List ℕ → List ℕ
unfolding line_of numbered_frame
sent_line k b number bytes = line_of k b (energy (numbered_frame k b number bytes)) (numbered_frame k b number bytes)
