use Rattle.std.proofs.Common.{◌≡◌, ℕ, ◌+◌, ◌<◌, get_or}
use Rattle.bits.proofs.Digits.{digit}
use Rattle.level_codeword.specs.Laid.{laid}
use Rattle.level_codeword.proofs.spread_eight.Given as goal

-- the first bits are laid
abbrev pub invariant-loop-k : goal.invariant-loop-k
invariant-loop-k l = (S : ℕ) → S < 64 → digit l.w S ≡ laid l.k (λ i. get_or l.masks (l.from + i) 0) (λ i. digit l.bits (l.from + i)) S
