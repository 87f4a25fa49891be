-- By the first test that is not passed. Assumes nothing.
use Rattle.std.proofs.Common.{◌≡◌, ℕ, ◌-◌, ◌≤◌, List, length, take, refl, ap, ◌∙◌, arith}
use borrow.Rule.Slice.PartMut.{mid_len}
use borrow.Author.Tests.{ne_eqb}
use Rattle.refusals.specs.declared.Refusal.{Refusal}
use Rattle.refusals.specs.Number.{code}
use Rattle.octets.specs.Same.{same_bytes}
use Rattle.test_data.proofs.Parts.{first-put}
use Rattle.test_vectors.specs.Vector.{is_strict, read_refusal}
use Rattle.test_vectors.proofs.Received.{too_long, refused, other-energy, compared}
use Rattle.test_vectors.proofs.checks.reads.Goals as goal

-- as many bytes are lent as the message has
lent : (n : ℕ) (l : List ℕ) → n ≤ length l → length (take (n - 0) l) ≡ n
lent n l h = let e : n - 0 ≡ n = omega arith in mid_len 0 n l h ∙ e

refuses : (r : Refusal) → code r ≡ 0 → ⊥
refuses r e = grind arith

pub returns-then-n-gt48 : goal.returns-then-n-gt48
returns-then-n-gt48 c = let s = c.args in too_long (is_strict s.way) s.u s.frame.now s.message.now s.energy c.if-n-gt48.true

pub returns-in-Err : goal.returns-in-Err
returns-in-Err c =
    let s = c.args in
    refused (is_strict s.way) s.u s.frame.now s.message.now s.energy c.if-n-gt48.false (code c.in-Err.field-0)
    (c.in-Err.ensures.number
    ∙ ap (read_refusal (is_strict s.way) s.u s.frame.now)
    (lent (length s.message.now) c.mark_bytes-out.result (omega (arith, c.mark_bytes-out.ensures.1))))
    (refuses c.in-Err.field-0)

pub returns-else-found-energy : goal.returns-else-found-energy
returns-else-found-energy c =
    let s = c.args in
    ne_eqb _ _ c.if-found-energy.false
    ∙ other-energy (is_strict s.way) s.u s.frame.now s.message.now s.energy c.if-n-gt48.false 0
    (c.in-Ok.ensures.number
    ∙ ap (read_refusal (is_strict s.way) s.u s.frame.now)
    (lent (length s.message.now) c.mark_bytes-out.result (omega (arith, c.mark_bytes-out.ensures.1))))
    refl c.in-Ok.found c.in-Ok.ensures.energy c.if-found-energy.false

pub returns-then-found-energy : goal.returns-then-found-energy
returns-then-found-energy c =
    let s = c.args in
    let m = s.message.now in
    let out = c.mark_bytes-out.result in
    let room : length m ≤ length out = omega (arith, c.mark_bytes-out.ensures.1) in
    let left : length c.read.new.message ≡ length m - 0 = c.read.auto.message ∙ mid_len 0 (length m) out room in
    compared (is_strict s.way) s.u s.frame.now m s.energy c.if-n-gt48.false 0
    (c.in-Ok.ensures.number ∙ ap (read_refusal (is_strict s.way) s.u s.frame.now) (lent (length m) out room))
    refl c.in-Ok.found c.in-Ok.ensures.energy c.if-found-energy.true c.same_bytes.result c.read.new.message (take (length m - 0) out)
    c.in-Ok.ensures.message
    (c.same_bytes.ensures ∙ ap (λ (y : List ℕ). same_bytes y m) (first-put (length m) out c.read.new.message left))
