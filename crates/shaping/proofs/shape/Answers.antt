use Rattle.std.proofs.Common.{◌≡◌, ◌*◌, ◌/◌, ◌%◌, ◌^◌, List, ℤ, length, subst, sym, ap, ◌∙◌, arith}
use Rattle.e8.specs.Energy.{Within}
use Rattle.e8.specs.Ties.{least_block_by}
use Rattle.e8.proofs.Within.{within-part}
use Rattle.e8.proofs.Blockwise.{over-start, over-same, over-next, over-step}
use Rattle.shaping.proofs.Shaped.{least_at, least-made}
use Rattle.shaping.proofs.shape.Goals as goal

whole : (x : List ℤ) → length x % 8 ≡ 0 → length x ≡ 8 * (length x / 8)
whole x h = omega arith

pub loop-j-init : goal.loop-j-init
loop-j-init c = let w = whole c.args.frame.now c.requires.1 in
    over-start (least-made c.args.last c.args.k c.args.frame.now (length c.args.frame.now / 8) w) w

pub slice_bounds-load-end : goal.slice_bounds-load-end
slice_bounds-load-end c = let w = whole c.args.frame.now c.requires.1 in
    omega (arith, over-same (least-made c.args.last c.args.k c.args.frame.now (length c.args.frame.now / 8) w) w c.loop-j.invariant)

pub least_by-y-requires : goal.least_by-y-requires
least_by-y-requires c = let w = whole c.args.frame.now c.requires.1 in
    let m = least-made c.args.last c.args.k c.args.frame.now (length c.args.frame.now / 8) w in
    (c.requires.0, subst (Within (2 ^ 24)) (sym (c.load-x.ensures ∙ over-next m w c.loop-j.invariant)) (within-part (2 ^ 24) c.loop-j.j c.args.frame.now c.requires.3))

pub loop-j-preserved : goal.loop-j-preserved
loop-j-preserved c = let w = whole c.args.frame.now c.requires.1 in
    let m = least-made c.args.last c.args.k c.args.frame.now (length c.args.frame.now / 8) w in
    let x = c.load-x.ensures ∙ over-next m w c.loop-j.invariant in
    let same = ap (least_block_by c.args.last (2 ^ c.args.k)) x in
    let y : c.store.new.part ≡ least_at c.args.last c.args.k c.args.frame.now c.loop-j.j = cc in
    over-step m w c.loop-j.invariant (omega arith) y

pub shape_of-frame : goal.shape_of-frame
shape_of-frame c = let w = whole c.args.frame.now c.requires.1 in
    over-same (least-made c.args.last c.args.k c.args.frame.now (length c.args.frame.now / 8) w) w c.loop-j.invariant
