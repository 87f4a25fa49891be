use Rattle.std.proofs.Common.{sym, ◌∙◌, arith}
use Rattle.near_frames.proofs.NearKinds.{size}
use Rattle.search.proofs.Tries.{found-near, found_none}
use Rattle.search.proofs.locate.Goals as goal

pub write_frame-requires : goal.write_frame-requires
write_frame-requires c = (c.requires.1 ∙ sym c.requires.2, omega (arith, (size c.args.kind c.requires.0).positions), c.requires.3)

pub returns-in_err-pair : goal.returns-in_err-pair
returns-in_err-pair c =
    let n = found_none c.args.kind c.args.samples.now c.requires.0 c.requires.1 c.in_err-pair.ensures in
    let none = c.from_residual.ensures in
    record { found = rw none (sym n.0); cost = rw none (sym n.2); frame = sym (n.1 c.args.frame.now) }

pub returns : goal.returns
returns c =
    let n = found-near c.args.kind c.args.samples.now c.requires.0 c.requires.1 c.in_ok-pair.ensures
    c.write_frame.new.frame (c.write_frame.auto.frame ∙ c.requires.2) c.write_frame.ensures in
    record { found = sym n.0; cost = omega (arith, n.2); frame = sym (n.1 c.args.frame.now) }
