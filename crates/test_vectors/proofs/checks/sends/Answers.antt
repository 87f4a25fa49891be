-- By the first test that is not passed. Assumes nothing.
use Rattle.std.proofs.Common.{◌≡◌, ℕ, ◌-◌, ◌≤◌, List, ℤ, length, take, refl, ap, ◌∙◌, arith}
use borrow.Rule.Slice.PartMut.{mid_len}
use borrow.Author.Tests.{ne_eqb}
use Rattle.refusals.specs.declared.Refusal.{Refusal}
use Rattle.refusals.specs.Number.{code}
use Rattle.frames.specs.Sending.{send_refusal}
use Rattle.frames.specs.Reading.{same_frame}
use Rattle.test_data.proofs.Parts.{first-put}
use Rattle.test_vectors.proofs.Sent.{too_long, refused, other-energy, compared}
use Rattle.test_vectors.proofs.checks.sends.Goals as goal

-- the frame that is lent has as many coordinates as the vector's
lent : (n : ℕ) (l : List ℤ) → n ≤ length l → length (take (n - 0) l) ≡ n
lent n l h = let e : n - 0 ≡ n = omega arith in mid_len 0 n l h ∙ e

refuses : (r : Refusal) → code r ≡ 0 → ⊥
refuses r e = grind arith

pub returns-then-n-gt64 : goal.returns-then-n-gt64
returns-then-n-gt64 c = let s = c.args in too_long s.u s.message.now s.frame.now s.energy c.if-n-gt64.true

pub returns-in-Err : goal.returns-in-Err
returns-in-Err c =
    let s = c.args in
    refused s.u s.message.now s.frame.now s.energy c.if-n-gt64.false (code c.in-Err.field-0)
    (c.in-Err.ensures.number
    ∙ ap (send_refusal s.u.kind s.u.grade 0 s.message.now) (lent (length s.frame.now) c.marks-out.result (omega (arith, c.marks-out.ensures.1))))
    (refuses c.in-Err.field-0)

pub returns-else-sent-energy : goal.returns-else-sent-energy
returns-else-sent-energy c =
    let s = c.args in
    ne_eqb _ _ c.if-sent-energy.false
    ∙ other-energy s.u s.message.now s.frame.now s.energy c.if-n-gt64.false 0
    (c.in-Ok.ensures.number
    ∙ ap (send_refusal s.u.kind s.u.grade 0 s.message.now) (lent (length s.frame.now) c.marks-out.result (omega (arith, c.marks-out.ensures.1))))
    refl c.in-Ok.sent c.in-Ok.ensures.energy c.if-sent-energy.false

pub returns-then-sent-energy : goal.returns-then-sent-energy
returns-then-sent-energy c =
    let s = c.args in
    let f = s.frame.now in
    let out = c.marks-out.result in
    let room : length f ≤ length out = omega (arith, c.marks-out.ensures.1) in
    let left : length c.send.new.frame ≡ length f - 0 = c.send.auto.frame ∙ mid_len 0 (length f) out room in
    compared s.u s.message.now f s.energy c.if-n-gt64.false 0
    (c.in-Ok.ensures.number ∙ ap (send_refusal s.u.kind s.u.grade 0 s.message.now) (lent (length f) out room))
    refl c.in-Ok.sent c.in-Ok.ensures.energy c.if-sent-energy.true c.same_coordinates.result c.send.new.frame (take (length f - 0) out)
    c.in-Ok.ensures.frame
    (c.same_coordinates.ensures ∙ ap (λ (y : List ℤ). same_frame y f) (first-put (length f) out c.send.new.frame left))
