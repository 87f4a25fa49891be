-- How many bytes the code lends to a near reading: those of a message, and none where there is no such kind or grade, which is tested before them.
-- Assumes nothing.
use Rattle.std.specs.Prelude.{ℕ, ◌&&◌, cond}
use Rattle.frames.specs.Kind.{is_kind, is_grade, message_bytes}

unfoldable pub room_for : ℕ → ℕ → ℕ
unfolding is_kind is_grade message_bytes
room_for k b = cond (is_kind k && is_grade b) (message_bytes k b) 0
