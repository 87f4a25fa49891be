use Rattle.std.proofs.Common.{◌≡◌, take}
use Rattle.bits.proofs.Digits.{digit}
use Rattle.coordinates.proofs.Filled.{Filled}
use Rattle.frames.specs.Message.{widths, numbers}
use Rattle.frames.proofs.Numbers.{total}
use Rattle.leader.proofs.unpacked_by.Given as goal

-- the numbers passed so far are unpacked
abbrev pub invariant-loop-i : goal.invariant-loop-i
invariant-loop-i l = (l.at ≡ total (take l.i (widths l.grade))) × Filled (numbers (digit l.bits) 0 (widths l.grade)) l.s l.i
