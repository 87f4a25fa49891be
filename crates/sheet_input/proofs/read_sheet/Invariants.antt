-- `read_sheet`: what was read so far, and whatever answers end the reading from here. The measure is the room that is left, and nothing
-- where the reading is over.
use Rattle.std.proofs.Common.{◌≤◌, ◌-◌, length}
use Prim.Native.Nat.{suc}
use mathlib.Core.Bool.{cond}
use Rattle.sheet_input.proofs.Steps.{FromHere}
use Rattle.sheet_input.proofs.read_sheet.Given as goal

abbrev pub invariant-loop-input : goal.invariant-loop-input
invariant-loop-input g l = (l.input.length ≤ length l.room) × FromHere (length l.fn.room) l.input

abbrev pub decreases-loop-input : goal.decreases-loop-input
decreases-loop-input g l = cond l.input.over 0 (suc (length l.room - l.input.length))
