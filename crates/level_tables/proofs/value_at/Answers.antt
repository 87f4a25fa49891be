use Rattle.std.proofs.Common.{ℕ, ◌+◌, Bool, arith, sym, ap, ◌∙◌}
use borrow.Author.Tests.{eq-eqb, ne_eqb}
use Rattle.bits.proofs.Message.{message-small}
use Rattle.reed_muller.specs.Level.{lies_in, codeword}
use Rattle.reed_muller.proofs.Order.{dimension-small}
use Rattle.reed_muller.proofs.Parity.{tested, tested-none, tested-small, tested-in, tested-out}
use Rattle.level_tables.proofs.MaskTables.{short}
use Rattle.level_tables.proofs.value_at.Invariants.{in_p, bit-from}
use Rattle.level_tables.proofs.value_at.Goals as goal
use Rattle.level_tables.proofs.value_at.Goals.{then-mask-p, else-mask-p}

pub loop-k-init : goal.loop-k-init
loop-k-init c = sym (tested-none (in_p c.args.m c.args.p) (bit-from c.args.message.now c.args.from))

pub mask_at-mask-requires : goal.mask_at-mask-requires
mask_at-mask-requires c = omega (arith, dimension-small c.args.r c.args.m (omega arith))

pub overflow_add-from : goal.overflow_add-from
overflow_add-from c = omega (arith, short c.requires.0, dimension-small c.args.r c.args.m (omega arith))

pub overflow_add-s : goal.overflow_add-s
overflow_add-s c =
    let a = c.args in
    omega (
      arith,
      c.bit.ensures,
      message-small a.message.now (a.from + c.loop-k.k),
      tested-small (in_p a.m a.p) (bit-from a.message.now a.from) c.loop-k.k,
    )

pub loop-k-preserved : goal.loop-k-preserved
loop-k-preserved c =
    let a = c.args in
    let k : ℕ = c.loop-k.k in
    let t : ℕ → Bool = in_p a.m a.p in
    let f : ℕ → ℕ = bit-from a.message.now a.from in
    let test = ap (λ (S : ℕ). lies_in S a.p) (sym c.mask_at-mask.ensures) in
    elim c.if-mask-p.branch [
      | then-mask-p w ↦ omega (arith, w.bit.ensures, tested-in t f k (test ∙ eq-eqb _ _ w.if-mask-p.true))
      | else-mask-p w ↦ omega (arith, tested-out t f k (test ∙ ne_eqb _ _ w.if-mask-p.false))
    ]

pub returns : goal.returns
unfolding codeword
returns c =
    let a = c.args in
    c.loop-k.invariant ∙ ap (tested (in_p a.m a.p) (bit-from a.message.now a.from)) (omega (arith, c.dimension_of-k-end.ensures))
