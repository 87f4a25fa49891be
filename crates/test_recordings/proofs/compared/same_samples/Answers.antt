-- Sample by sample. Assumes nothing.
use Rattle.std.proofs.Common.{◌∙◌, arith}
use Rattle.test_recordings.proofs.Samples.{lengths_differ, all-compared, one_same, one-differs}
use Rattle.test_recordings.proofs.compared.same_samples.Goals as goal

pub returns-then-x-y : goal.returns-then-x-y
returns-then-x-y c = lengths_differ c.args.x.now c.args.y.now c.if-x-y.true

pub loop-i-preserved : goal.loop-i-preserved
loop-i-preserved c =
    one_same c.args.x.now c.args.y.now c.loop-i.i (omega arith) (omega arith) c.f32_to_bits_with_nan-one.ensures c.f32_to_bits_with_nan-other.ensures
    c.if-one-other.false
    ∙ c.loop-i.invariant

pub returns-then-one-other : goal.returns-then-one-other
returns-then-one-other c =
    one-differs c.args.x.now c.args.y.now c.loop-i.i (omega arith) (omega arith) c.f32_to_bits_with_nan-one.ensures c.f32_to_bits_with_nan-other.ensures
    c.if-one-other.true
    ∙ c.loop-i.invariant

pub returns : goal.returns
returns c = all-compared c.args.x.now c.args.y.now c.loop-i.i (omega arith) (omega arith) ∙ c.loop-i.invariant
