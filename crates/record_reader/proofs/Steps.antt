-- What the tests of the reader say. Assumes nothing.
use Rattle.std.proofs.Common.{◌≡◌, ℕ, ◌≤◌, true, arith}
use Rattle.std.proofs.lemmas.Grind.{common_steps}
use Rattle.frames.specs.Kind.{is_kind, message_bytes}
use Rattle.frames.proofs.Limits.{few-positions, whole-blocks, few-message-bits}
use Rattle.frames.proofs.Rows.{grade-low, grade-high}

-- no message has more than 46 bytes
pub few-bytes : (k b : ℕ) → is_kind k ≡ true → b ≤ 4 → message_bytes k b ≤ 46
unfolding message_bytes
few-bytes k b kind high = omega (arith, few-message-bits k b kind high)

pub ruleset steps = (common_steps, few-positions, whole-blocks, few-bytes, grade-low, grade-high)
