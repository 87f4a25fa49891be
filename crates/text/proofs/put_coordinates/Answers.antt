use Rattle.std.proofs.Common.{◌≡◌, ◌<◌, length, get_or, pos, w32, to_z, of_z, arith, add-one, rules}
use Rattle.text.specs.Line.{coordinates_of}
use Rattle.text.proofs.Buffer.{put-more, put-none}
use Rattle.text.proofs.Coordinates.{coordinates-suc}
use Rattle.text.proofs.put_coordinates.Goals as goal

pub loop-z-init : goal.loop-z-init
unfolding coordinates_of
loop-z-init c = search (rules, put-none)

pub loop-z-preserved : goal.loop-z-preserved
loop-z-preserved c =
    let f = c.args.frame.now in
    let i = c.loop-z.z-index in
    let h : i < length f = c.loop-z-test.true in
    let back : to_z w32 (of_z w32 (get_or f i (pos 0))) ≡ get_or f i (pos 0) = search rules in
    let q = rw back at c.put_coordinate-a.ensures.text in (
      omega (arith, c.put_coordinate-a.ensures.short, c.loop-z.invariant.0),
      rw (add-one, coordinates-suc f i h) (put-more c.loop-z.invariant.1 q (omega (arith, c.loop-z.invariant.0))),
    )
