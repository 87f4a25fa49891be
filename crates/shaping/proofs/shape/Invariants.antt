use Rattle.e8.proofs.Blockwise.{Over}
use Rattle.shaping.proofs.Shaped.{least-to}
use Rattle.shaping.proofs.shape.Given as goal

-- the blocks so far are shaped
abbrev pub invariant-loop-j : goal.invariant-loop-j
invariant-loop-j l = Over (least-to l.last l.k l.initial.frame) l.initial.frame l.j l.frame
