use Rattle.std.proofs.Common.{◌≡◌, ℕ, ◌<◌}
use Rattle.bits.proofs.Digits.{digit}
use Rattle.level_transform.proofs.Stages.{stages}
use Rattle.level_transform.proofs.transformed.Given as goal

-- the first j stages are done
abbrev pub invariant-loop-j : goal.invariant-loop-j
invariant-loop-j l = (p : ℕ) → p < 64 → digit l.t p ≡ stages l.j (digit l.w) p
