-- `list` meets its contract where the sheet could not be read: nothing is printed. Assumes nothing.
use Rattle.std.proofs.Common.{take, sym, subst, ◌∙◌}
use lib.Dec.{T}
use Rattle.printing.proofs.list.Goals as goal

pub returns-then-input : goal.returns-then-input
returns-then-input g c = record {
  sheet = take c.read_sheet-input.result.length c.read_sheet-input.new.room;
  reads = c.read_sheet-input.ensures.answers;
  all = sym c.read_sheet-input.ensures.count.1;
  printed = λ e. absurd (subst T (sym c.if-input.true ∙ e) tt);
  unread = λ e. c.nothing_printed-printed.ensures;
}
