use Rattle.std.proofs.Common.{◌≡◌, ◌+◌, ◌-◌, length, refl, append_assoc, arith}
use lib.Seq.{drop-drop}
use Rattle.text.specs.Text.{written}
use Rattle.text.proofs.put_text.Goals as goal

pub returns : goal.returns
unfolding written
returns c =
    let k : c.args.at + length c.args.s.now - c.args.at ≡ length c.args.s.now = omega arith in
    record { after = refl; text = rw (k, c.copy_from_slice.ensures.after) (simp (drop-drop, append_assoc)) }
