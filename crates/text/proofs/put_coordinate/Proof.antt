-- `text::put_coordinate` meets its contract. Assumes nothing.
use Prim.Native.Nat.{◌≤◌}
use native.Mathlib.Omega.{arith}
use mathlib.Core.Path.{◌≡◌}
use lib.ListN.{length}
use mir.Syntax.{w32}
use mir.Val.{to_z, of_z}
use mir.Facts.{to_z-of_z}
use borrow.Author.Rules.{rules}
use Rattle.text.specs.Text.{signed_of}
use Rattle.text.proofs.Buffer.{put-more}
use Rattle.text.proofs.Coordinates.{coordinate-short}
use Rattle.text.proofs.put_coordinate.Statement.{statement}
use Rattle.text.proofs.put_coordinate.Tie as tie

z-back : (c : tie.Start) → to_z w32 (of_z w32 c.args.z) ≡ c.args.z
z-back c = to_z-of_z c.ranges.z

short : (c : tie.Start) → length (signed_of c.args.z) ≤ 11
short c = coordinate-short c.args.z c.ranges.z

put-byte-requires : tie.Need-put_byte-a-requires
put-byte-requires c κs = search rules

put-signed-requires : tie.Need-put_signed-requires
put-signed-requires c κs =
    let b = c.before.before.before in
    let s = b.before.before.before in
    rw (z-back s) (omega (arith, s.requires, short s, b.put_byte-a.ensures.after, b.put_byte-a.auto.out))

same_length : tie.Need-shape_of-out
same_length c = search rules

returns : tie.Need-returns
returns c =
    let d = c.before.before in
    let b = d.before.before.before.before in
    let s = b.before.before.before in
    let p = put-more b.put_byte-a.ensures (rw (z-back s) at d.put_signed.ensures) (omega (arith, s.requires, b.put_byte-a.ensures.after)) in
    (p, omega (arith, p.after, short s))

pub put_coordinate_spec : {M : Type 1} → statement M
put_coordinate_spec =
    tie.close (tie.spec put-byte-requires put-signed-requires same_length returns)
