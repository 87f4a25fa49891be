-- By the number; that a refusal leaves the lent bytes is what the reading promises. Assumes nothing.
use Rattle.std.proofs.Common.{◌≡◌, ℕ, ◌-◌, ◌≤◌, Bool, List, ℤ, length, take, sym, ap, ◌∙◌, arith}
use borrow.Rule.Slice.PartMut.{put_mid, mid_len, put_same}
use borrow.Author.Tests.{ne_eqb, le-leb}
use lib.Dec.{eqb}
use Rattle.std.proofs.lemmas.Slice.Eq.{bytes_eq-Decides}
use Rattle.refusals.specs.declared.Refusal.{Refusal}
use Rattle.refusals.specs.Number.{code}
use Rattle.test_vectors.specs.declared.checks.Under.{Under}
use Rattle.test_vectors.specs.Vector.{is_strict, read_refusal, is_answered}
use Rattle.test_vectors.proofs.Received.{as_lent, no_room, other-number, that-number}
use Rattle.test_vectors.proofs.checks.answers.Goals as goal

lent : (n : ℕ) (l : List ℕ) → n ≤ length l → length (take (n - 0) l) ≡ n
lent n l h = let e : n - 0 ≡ n = omega arith in mid_len 0 n l h ∙ e

refuses : (r : Refusal) → code r ≡ 0 → ⊥
refuses r e = grind arith

pub returns-then-n-gt48 : goal.returns-then-n-gt48
returns-then-n-gt48 c = let s = c.args in no_room (is_strict s.way) s.u s.frame.now s.n s.number c.if-n-gt48.true

swapped : (n : ℕ) → eqb n 0 ≡ eqb 0 n
swapped n = grind arith

read_well : (strict : Bool) (u : Under) (f : List ℤ) (n number : ℕ) → n ≤ 48 → 0 ≡ read_refusal strict u f n → eqb number 0 ≡ is_answered strict u f n number
unfolding is_answered
read_well strict u f n number room z = rw (le-leb n 48 room, sym z) (swapped number)

pub returns-in-Ok : goal.returns-in-Ok
returns-in-Ok c =
    let s = c.args in
    read_well (is_strict s.way) s.u s.frame.now s.n s.number c.if-n-gt48.false
    (c.in-Ok.ensures.number
    ∙ ap (read_refusal (is_strict s.way) s.u s.frame.now) (lent s.n c.mark_bytes-out.result (omega (arith, c.mark_bytes-out.ensures.1))))

pub returns-then-number : goal.returns-then-number
returns-then-number c =
    let s = c.args in
    let out = c.mark_bytes-out.result in
    let left = c.read.new.message in
    let e = c.in-Err.refusal in
    let stays = c.in-Err.ensures.message ∙ as_lent (code e) s.u.kind s.u.grade 0 s.frame.now (take (s.n - 0) out) (refuses e) in
    let all = ap (put_mid 0 (s.n - 0) out) stays ∙ put_same 0 (s.n - 0) out ∙ c.mark_bytes-out.ensures.0 ∙ sym c.mark_bytes.ensures.0 in
    c.eq.ensures
    ∙ (bytes_eq-Decides (put_mid 0 (s.n - 0) out left) c.mark_bytes.result).1 all
    ∙ that-number (is_strict s.way) s.u s.frame.now s.n s.number c.if-n-gt48.false (code e)
    (c.in-Err.ensures.number
    ∙ ap (read_refusal (is_strict s.way) s.u s.frame.now) (lent s.n out (omega (arith, c.mark_bytes-out.ensures.1))))
    (sym c.number.ensures ∙ c.if-number.true)

pub returns-else-number : goal.returns-else-number
returns-else-number c =
    let s = c.args in
    ne_eqb _ _ c.if-number.false
    ∙ other-number (is_strict s.way) s.u s.frame.now s.n s.number c.if-n-gt48.false (code c.in-Err.refusal)
    (c.in-Err.ensures.number
    ∙ ap (read_refusal (is_strict s.way) s.u s.frame.now) (lent s.n c.mark_bytes-out.result (omega (arith, c.mark_bytes-out.ensures.1))))
    (λ z. c.if-number.false (c.number.ensures ∙ z))
