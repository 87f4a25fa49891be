-- The first message, and then the rest, as the definition has it. Assumes nothing.
use Prim.Native.Nat.{ℕ}
use mathlib.Core.Path.{◌≡◌, sym, ap, ◌∙◌}
use Rattle.refusals.specs.Number.{code, number_of}
use Rattle.test_queue.proofs.Turn.{no-success, none, stopped, stopped-frames, further, further-frames}
use Rattle.test_queue.proofs.one_by_one.+in_turn.Goals as goal

pub returns-then-count-eq0-clause-queued : goal.returns-then-count-eq0-clause-queued
returns-then-count-eq0-clause-queued t c =
    let s = c.args in (none s.kind s.grade s.count s.messages.now s.frames.now s.account c.if-count-eq0.true).0

pub returns-then-count-eq0-clause-frames : goal.returns-then-count-eq0-clause-frames
returns-then-count-eq0-clause-frames t c =
    let s = c.args in (none s.kind s.grade s.count s.messages.now s.frames.now s.account c.if-count-eq0.true).1

pub returns-in-Err-clause-queued : goal.returns-in-Err-clause-queued
returns-in-Err-clause-queued t c =
    let s = c.args in
    let p = c.requires in
    let e = c.send_counted-r.ensures in
    let refused : number_of c.send_counted-r.result.answer ≡ code c.in-Err.refusal = ap number_of c.in-Err.is in
    ap (λ (n : ℕ). record { number = n; sent = 0; account = s.account }) (sym refused)
    ∙ stopped _ _ _ _ _ p.0 p.1 c.if-count-eq0.false p.2 p.3 e.number e.frame (λ z. no-success c.in-Err.refusal (sym refused ∙ z))

pub returns-in-Err-clause-frames : goal.returns-in-Err-clause-frames
returns-in-Err-clause-frames t c =
    let p = c.requires in
    let e = c.send_counted-r.ensures in
    stopped-frames _ _ _ _ _ p.0 p.1 c.if-count-eq0.false p.2 p.3 e.number e.frame
    (λ z. no-success c.in-Err.refusal (sym (ap number_of c.in-Err.is) ∙ z))

pub returns-clause-queued : goal.returns-clause-queued
returns-clause-queued t c =
    let p = c.requires in
    let r = c.send_counted-r in
    further _ _ _ _ _ p.0 p.1 c.if-count-eq0.false p.2 p.3 r.ensures.number r.ensures.frame r.ensures.account (ap number_of c.in_default.is) r.auto.frame
    c.in_turn-rest.ensures.queued

pub returns-clause-frames : goal.returns-clause-frames
returns-clause-frames t c =
    let p = c.requires in
    let r = c.send_counted-r in
    further-frames _ _ _ _ _ p.0 p.1 c.if-count-eq0.false p.2 p.3 r.ensures.number r.ensures.frame r.ensures.account (ap number_of c.in_default.is)
    r.auto.frame c.in_turn-rest.ensures.frames
