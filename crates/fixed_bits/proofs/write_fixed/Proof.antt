-- `write_fixed`: the message that is read, and its free bits as 0. Assumes nothing.
use mathlib.Core.Path.{◌≡◌, sym, ap, ◌∙◌, subst}
use borrow.Author.Rules.{rules}
use Rattle.frames.specs.Message.{Message}
use Rattle.frames.specs.Free.{filled}
use Rattle.frames.specs.Reading.{open_message, fixed_message}
use Rattle.frames.proofs.Demands.{read-message}
use Rattle.free_bits.proofs.Fillings.{free-few}
use Rattle.frame_message.specs.Held.{held_message}
use Rattle.fixed_bits.proofs.Words.{held-message}
use Rattle.fixed_bits.proofs.write_fixed.Statement.{statement}
use Rattle.fixed_bits.proofs.write_fixed.Tie as tie

-- the message read
module _ (c : tie.After-write_message) where
  abbrev start : tie.Start
  start = c.before.before.before

  read_is : let a = start.args in c.write_message.new.out ≡ open_message a.kind a.grade a.frame.now
  read_is =
      let a = start.args in
      c.write_message.ensures ∙ ap (held_message a.kind a.grade a.frame.now) start.requires.5
      ∙ held-message a.kind start.requires.0 a.frame.now a.grade

write-message-requires : tie.Need-write_message-requires
write-message-requires c κs = let p = c.before.before.requires in (p.0, p.1, p.3.long, p.4, p.6)

clear-free-requires : tie.Need-clear_free-requires
clear-free-requires c κs =
    let w = c.before.before.before in
    let a = (start w).args in
    let p = (start w).requires in (
      p.0,
      p.1,
      free-few a.free p.2,
      subst (Message a.kind a.grade) (sym (read_is w)) (read-message a.kind a.grade p.0 p.1 a.frame.now p.3),
    )

same_length : tie.Need-shape_of-message
same_length c = search rules

returns : tie.Need-returns
unfolding fixed_message
returns c =
    let e = c.before.before in
    let w = e.before.before.before.before in
    let a = (start w).args in
    e.clear_free.ensures ∙ ap (filled a.kind a.grade a.free 0) (read_is w)

pub write_fixed_spec : {M : Type 1} → statement M
write_fixed_spec =
    tie.close (tie.spec write-message-requires clear-free-requires same_length returns)
