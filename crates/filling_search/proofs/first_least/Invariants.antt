use Rattle.std.proofs.Common.{◌≡◌, ℕ, List, ℤ}
use Rattle.e8.specs.Energy.{energy as energy-of}
use Rattle.e8.specs.Lattice.{part}
use Rattle.frames.specs.Free.{first_least}
use Rattle.filling_search.proofs.first_least.Given as goal

-- the energy of block j
abbrev pub at_block : List ℤ → ℕ → ℕ
at_block f j = energy-of (part j f)

-- `best` is the first of the blocks below j that has the least energy
abbrev pub invariant-loop-j : goal.invariant-loop-j
invariant-loop-j l = (l.best ≡ first_least (at_block l.blocks) l.j) × (l.least ≡ at_block l.blocks l.best)
