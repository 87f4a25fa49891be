-- One more is moved, or all are. Assumes nothing.
use Rattle.std.proofs.Common.{◌≡◌, ◌&&◌, cond, ℤ, refl, ap, ◌∙◌, arith, rules, w32}
use lib.Dec.{leb, ltb}
use lib.ListN.{length-set}
use mir.Val.{SFits, to_z, of_z}
use Rattle.std.proofs.lemmas.Int.{to_z-of_z}
use Rattle.frames.proofs.Frame.{at}
use Rattle.test_vectors.specs.Vector.{moved_by, marked_frame}
use Rattle.test_vectors.proofs.Moving.{made_more, made_all}
use Rattle.test_vectors.proofs.checks.moved.Goals as goal

pub loop-p-init : goal.loop-p-init
loop-p-init c = (c.marks-out.ensures.1, (refl, c.marks-out.ensures.0))

pub loop-p-preserved : goal.loop-p-preserved
loop-p-preserved c =
    let s = c.args in
    let l = c.loop-p in
    let v = to_z w32 (of_z w32 c.coordinate.result) in
    let z = at s.frame.now l.p in
    let fits : SFits w32 z = search rules in
    let is : v ≡ cond (leb s.a l.p && ltb l.p s.e) (moved_by s.by z) z =
    to_z-of_z w32 c.coordinate.result (record { sfits = c.coordinate.type_inv })
    ∙ c.coordinate.ensures
    ∙ ap (λ (z : ℤ). cond (leb s.a l.p && ltb l.p s.e) (moved_by s.by z) z) (to_z-of_z w32 z fits) in (
      length-set l.out l.p v ∙ l.invariant.0,
      made_more s.a s.e s.by s.frame.now marked_frame l.out l.p v (omega arith) (omega arith) is l.invariant.1,
    )

pub returns : goal.returns
returns c =
    let s = c.args in
    (made_all s.a s.e s.by s.frame.now marked_frame c.loop-p.out c.loop-p.p (omega arith) (omega arith) c.loop-p.invariant.1, c.loop-p.invariant.0)
