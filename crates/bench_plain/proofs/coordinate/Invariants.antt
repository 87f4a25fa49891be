-- `coordinate`: what stands over the levels passed so far, from the last on.
use Rattle.std.proofs.Common.{◌≡◌, ◌≤◌, take}
use Rattle.frames.specs.Kind.{degrees, levels, dimensions}
use Rattle.bench_plain.proofs.Place.{over}
use Rattle.bench_plain.proofs.coordinate.Given as goal

abbrev pub invariant-loop-i : goal.invariant-loop-i
invariant-loop-i l = record {
  inside : l.i ≤ levels l.kind;
  begins : l.from ≡ dimensions l.kind (take l.i (degrees l.kind));
  stands : l.x ≡ over l.kind l.message l.s l.p l.from l.i;
}
