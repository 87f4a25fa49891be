-- `text::put_header` meets its contract. Assumes nothing.
use borrow.Author.Rules.{rules}
use Rattle.text.specs.Line.{header_text}
use Rattle.text.proofs.put_header.Statement.{statement}
use Rattle.text.proofs.put_header.Tie as tie

put-text-requires : tie.Need-put_text-requires
put-text-requires c κs = search rules

same_length : tie.Need-shape_of-out
same_length c = search rules

returns : tie.Need-returns
unfolding header_text
returns c = c.before.before.put_text.ensures

pub put_header_spec : {M : Type 1} → statement M
put_header_spec =
    tie.close (tie.spec put-text-requires same_length returns)
