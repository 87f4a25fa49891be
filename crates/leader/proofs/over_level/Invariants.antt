use Rattle.std.proofs.Common.{ℕ, ◌+◌, ◌*◌, Bool, cond, List, get_or}
use Rattle.bits.specs.Number.{table}
use Rattle.bits.proofs.Digits.{digit}
use Rattle.coordinates.proofs.Filled.{Filled}
use Rattle.leader.proofs.over_level.Given as goal

-- the number at o, with its level
abbrev pub made : Bool → ℕ → List ℕ → ℕ → ℕ
made there word s o = cond there (digit word o + 2 * get_or s o 0) (get_or s o 0)

-- the positions passed so far have the level
abbrev pub invariant-loop-p : goal.invariant-loop-p
invariant-loop-p l = Filled (table 8 (made l.there l.word l.s)) l.x l.p
