use Rattle.std.proofs.Common.{◌≡◌, ◌*◌}
use Rattle.bits.specs.Number.{number}
use Rattle.level_codeword.proofs.Laid.{laid_bits}
use Rattle.level_codeword.proofs.spread.Given as goal

-- the bits of the first masks are laid
abbrev pub invariant-loop-j : goal.invariant-loop-j
invariant-loop-j l = l.w ≡ number 64 (laid_bits l.masks l.bits (8 * l.j))
