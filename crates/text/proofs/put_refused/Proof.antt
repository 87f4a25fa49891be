-- `text::put_refused` meets its contract. Assumes nothing.
use Prim.Native.Nat.{◌≤◌}
use native.Mathlib.Omega.{arith}
use mathlib.Core.List.{◌++◌}
use lib.ListN.{length}
use borrow.Author.Rules.{rules}
use Rattle.text.specs.Text.{bytes, decimal_of}
use Rattle.text.specs.Line.{refused_text}
use Rattle.text.proofs.Buffer.{Within, within_none, within_more}
use Rattle.text.proofs.Decimal.{length-decimal}
use Rattle.text.proofs.put_refused.Statement.{statement}
use Rattle.text.proofs.put_refused.Tie as tie

short : (c : tie.Start) → length (decimal_of c.args.number) ≤ 3
short c = length-decimal 2 c.args.number (omega (arith, c.ranges.number))

-- the text so far, after each call
word : (c : tie.After-put_text-a) → let s = c.before.before.before.before.before in
    Within s.args.out.now s.args.at 8 (bytes "refused ") c.put_text-a.result c.put_text-a.new.out
unfolding bytes
word c =
    let s = c.before.before.before.before.before in
    within_more 8 (within_none s.args.out.now s.args.at) c.put_text-a.ensures (omega arith) (omega (arith, s.requires))

number : (c : tie.After-put_decimal-b)
    → let s = c.before.before.before.before.before.before.before.before.before in
    Within s.args.out.now s.args.at 11 (bytes "refused " ++ decimal_of s.args.number) c.put_decimal-b.result c.put_decimal-b.new.out
number c =
    let p = c.before.before.before.before in
    let s = p.before.before.before.before.before in
    within_more 3 (word p) c.put_decimal-b.ensures (short s) (omega (arith, s.requires))

put-text-requires : tie.Need-put_text-a-requires
put-text-requires c κs = search rules

put-decimal-requires : tie.Need-put_decimal-b-requires
put-decimal-requires c κs = let p = c.before.before.before in let s = p.before.before.before.before.before in omega (arith, word p, short s, s.requires)

put-byte-requires : tie.Need-put_byte-requires
put-byte-requires c κs =
    let p = c.before.before.before in
    let s = p.before.before.before.before.before.before.before.before.before in
    omega (arith, number p, s.requires)

same_length : tie.Need-shape_of-out
same_length c = search rules

returns : tie.Need-returns
unfolding refused_text
returns c =
    let b = c.before.before in
    let d = b.before.before.before.before in
    let s = d.before.before.before.before.before.before.before.before.before in
    let w = within_more 1 (number d) b.put_byte.ensures (omega arith) (omega (arith, s.requires)) in
    (w.put, w.most)

pub put_refused_spec : {M : Type 1} → statement M
put_refused_spec =
    tie.close
    (tie.spec
    put-text-requires
    put-decimal-requires
    put-byte-requires
    same_length
    returns)
