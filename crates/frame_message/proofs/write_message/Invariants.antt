use Rattle.std.proofs.Common.{◌≡◌, ◌+◌, ◌*◌, ◌/◌}
use Rattle.frame_message.specs.Held.{held_bits}
use Rattle.frame_message.proofs.Writing.{Carried}
use Rattle.frame_message.proofs.write_message.Given as goal

-- the levels and the blocks below j are written or carried
abbrev pub invariant-loop-j : goal.invariant-loop-j
invariant-loop-j l = (l.at ≡ l.count / 8 + l.b * l.j) × Carried (held_bits l.kind l.grade l.frame l.fn.words) l.fn.out l.at l.over l.rest l.out
