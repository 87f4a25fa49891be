use Rattle.std.proofs.Common.{rules}
use Rattle.frames.proofs.Limits.{few-positions}
use Rattle.strict_test.proofs.is_least.Goals as goal

-- a frame has at most 64 coordinates, and the copy has room for it
pub slice_bounds-copy-end : goal.slice_bounds-copy-end
slice_bounds-copy-end c = search (rules, few-positions c.args.kind c.requires.0, c.requires.3)
