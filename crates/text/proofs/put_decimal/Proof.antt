-- `text::put_decimal` meets its contract. Assumes nothing.
use mathlib.Core.Path.{◌≡◌, ◌∙◌}
use lib.ListN.{take}
use borrow.Author.Rules.{rules}
use Rattle.text.specs.Text.{decimal_of}
use Rattle.text.proofs.Decimal.{decimal-is}
use Rattle.text.proofs.put_decimal.Statement.{statement}
use Rattle.text.proofs.put_decimal.Tie as tie

decimal-requires : tie.Need-decimal-k-requires
decimal-requires c κs = search rules

array-share-prefix-text : tie.Need-slice_bounds-text-end
array-share-prefix-text c = search rules

slice-aggregate-put-text : tie.Need-slice_bounds-put_text-end
slice-aggregate-put-text c = search rules

text-is : (c : tie.After-text-2-1) → take c.before.before.decimal-k.result c.before.before.decimal-k.new.out ≡ decimal_of
    c.before.before.before.before.before.args.n
text-is c =
    let e = c.before.before.decimal-k.ensures in
    e.1.1.0 ∙ decimal-is _ c.before.before.decimal-k.result c.before.before.before.before.before.ranges.n.fits e.1.0

put-text-requires : tie.Need-put_text-requires
put-text-requires c κs = rw (text-is c) c.before.before.before.before.before.requires

same_length : tie.Need-shape_of-out
same_length c = search rules

returns : tie.Need-returns
returns c = rw (text-is c.before.before.before) at c.before.before.put_text.ensures

pub put_decimal_spec : {M : Type 1} → statement M
put_decimal_spec =
    tie.close
    (tie.spec
    decimal-requires
    array-share-prefix-text
    slice-aggregate-put-text
    put-text-requires
    same_length
    returns)
