use Rattle.std.proofs.Common.{◌≡◌, ◌*◌}
use Rattle.bits.specs.Number.{number}
use Rattle.level_tables.proofs.Gathered.{entry_bits}
use Rattle.level_tables.proofs.gather.Given as goal

-- the bits at the first entries
abbrev pub invariant-loop-j : goal.invariant-loop-j
invariant-loop-j l = l.word ≡ number (8 * l.j) (entry_bits l.table l.bits)
