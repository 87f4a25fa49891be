-- `write_sent` meets its contract: the shaped leader is the sent frame. Assumes nothing.
use Rattle.std.proofs.Common.{ap, ◌∙◌}
use Rattle.e8.specs.Energy.{energy}
use Rattle.sending.proofs.Sent.{leader-takes, sent_is}
use Rattle.bench_plain.proofs.write_sent.Goals as goal

pub shape_leader-requires : goal.shape_leader-requires
shape_leader-requires c =
    let s = c.args in
    let p = c.requires in
    let t = leader-takes s.kind s.grade s.message.now _ c.write_leader.ensures p.0 p.2 in
    (p.0, p.1, p.2, t.0, t.1)

pub returns-clause-frame : goal.returns-clause-frame
returns-clause-frame c =
    let s = c.args in
    c.shape_leader.ensures.frame ∙ sent_is s.kind s.grade s.message.now _ c.write_leader.ensures s.number

pub returns-clause-energy : goal.returns-clause-energy
returns-clause-energy c =
    let s = c.args in
    c.shape_leader.ensures.energy ∙ ap energy (sent_is s.kind s.grade s.message.now _ c.write_leader.ensures s.number)
