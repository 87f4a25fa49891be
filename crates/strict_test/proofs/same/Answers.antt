use Rattle.std.proofs.Common.{◌≡◌, cond, sym, ap₂, ◌∙◌, ℤ, w32, to_z, of_z, arith, rules}
use Rattle.frames.specs.Reading.{same_number}
use Rattle.frames.proofs.Frame.{at}
use Rattle.strict_test.proofs.Compared.{same_more, same-all}
use Rattle.strict_test.proofs.same.Goals as goal

pub loop-i-preserved : goal.loop-i-preserved
loop-i-preserved c =
    let a = c.args.a.now in
    let b = c.args.b.now in
    let i = c.loop-i.i in
    let x : to_z w32 (of_z w32 (at a i)) ≡ at a i = search rules in
    let y : to_z w32 (of_z w32 (at b i)) ≡ at b i = search rules in
    same_more a b c.loop-i.d c.differs-d.result i (omega arith) (omega arith)
    (c.differs-d.ensures ∙ ap₂ (λ (x y : ℤ). cond (same_number x y) 0 1) x y)
    ∙ c.loop-i.invariant

pub returns : goal.returns
returns c = sym (same-all c.args.a.now c.args.b.now c.loop-i.d c.loop-i.i (omega arith) (omega arith)) ∙ c.loop-i.invariant
