-- `put_message` meets its contract: as many coordinates are lent as the kind has, and the frame that sending wrote there is the one in the line. Assumes
-- nothing.
use Rattle.std.proofs.Common.{◌≡◌, ℕ, ◌≤◌, ◌^◌, length, List, sym, ap, ◌∙◌, subst, arith, rules}
use lib.IntN.{ℤ, pos}
use lib.ListN.{take, replicate}
use lib.Seq.{length-take-le}
use Rattle.frames.specs.Sending.{send_refusal}
use Rattle.frames.proofs.Limits.{few-positions}
use Rattle.text.specs.Text.{Put}
use Rattle.sheet_line.proofs.Sent.{sent-shown}
use Rattle.sheet_line.proofs.put_message.Goals as goal

-- the room for a frame
abbrev room : List ℤ
room = replicate 64 (pos 0)

-- as many coordinates as are lent
lent : (n : ℕ) → n ≤ 64 → length (take n room) ≡ n
lent n h = length-take-le n room h

pub slice_bounds-room-end : goal.slice_bounds-room-end
slice_bounds-room-end c = omega (arith, few-positions c.args.kind c.requires.0)

pub slice_bounds-frame-end : goal.slice_bounds-frame-end
slice_bounds-frame-end c = sym (lent c.positions.result (omega (arith, few-positions c.args.kind c.requires.0)))

-- so the tests are those of a whole frame
tests : (k b : ℕ) (m : List ℕ) (n : ℕ) → n ≤ 64 → n ≡ 2 ^ k → send_refusal k b 0 m (length (take n room)) ≡ send_refusal k b 0 m (2 ^ k)
tests k b m n h e = ap (send_refusal k b 0 m) (lent n h ∙ e)

pub returns-in-Ok-clause-number : goal.returns-in-Ok-clause-number
returns-in-Ok-clause-number c =
    let s = c.args in
    let few : c.positions.result ≤ 64 = omega (arith, few-positions s.kind c.requires.0) in
    rw (← tests s.kind s.grade s.message.now c.positions.result few c.positions.ensures) (search rules)

pub returns-in-Ok-clause-sent : goal.returns-in-Ok-clause-sent
returns-in-Ok-clause-sent c z =
    let s = c.args in
    let e = c.in-Ok.ensures in
    subst (λ (t : List ℕ). Put s.out.now 0 t c.put_line.result c.put_line.new.out)
    (sent-shown s.kind s.grade s.number s.message.now (take c.positions.result room) c.send.new.frame c.in-Ok.energy e.frame e.energy)
    c.put_line.ensures.text

pub returns-in-Err-clause-number : goal.returns-in-Err-clause-number
returns-in-Err-clause-number c =
    let s = c.args in
    let few : c.positions.result ≤ 64 = omega (arith, few-positions s.kind c.requires.0) in
    rw (← tests s.kind s.grade s.message.now c.positions.result few c.positions.ensures) (search rules)
