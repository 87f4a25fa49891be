-- The buffers have room for the blocks of all fillings.
use Rattle.std.proofs.Common.{◌≡◌, ◌*◌, ◌%◌, ◌^◌, ◌≤◌, arith}
use native.Mathlib.Nat.{mod-eq_of_lt}
use lib.ListN.{length-take}
use lib.Pow.{pow_mono}
use Rattle.filling_search.proofs.quietest.Goals as goal

pub slice_bounds-few-end : goal.slice_bounds-few-end
slice_bounds-few-end c =
    let few : 2 ^ c.args.free ≤ 4 = pow_mono {j = 2} c.if-free-le2.true in
    let sized : 8 * 2 ^ c.args.free % 2 ^ 64 ≡ 8 * 2 ^ c.args.free = mod-eq_of_lt (omega arith) in
    omega arith

pub slice_bounds-quietest_by-end : goal.slice_bounds-quietest_by-end
slice_bounds-quietest_by-end c =
    let few : 2 ^ c.args.free ≤ 4 = pow_mono {j = 2} c.if-free-le2.true in
    let sized : 8 * 2 ^ c.args.free % 2 ^ 64 ≡ 8 * 2 ^ c.args.free = mod-eq_of_lt (omega arith) in
    simp length-take (omega arith)

pub quietest_by-requires : goal.quietest_by-requires
quietest_by-requires c =
    let p = c.requires in
    let few : 2 ^ c.args.free ≤ 4 = pow_mono {j = 2} c.if-free-le2.true in
    let sized : 8 * 2 ^ c.args.free % 2 ^ 64 ≡ 8 * 2 ^ c.args.free = mod-eq_of_lt (omega arith) in
    (p.0, p.1, p.2, p.3, p.4, p.5, simp length-take (omega arith))

pub slice_bounds-buffer-end : goal.slice_bounds-buffer-end
slice_bounds-buffer-end c =
    let few : 2 ^ c.args.free ≤ 16 = pow_mono {j = 4} c.requires.4 in
    let sized : 8 * 2 ^ c.args.free % 2 ^ 64 ≡ 8 * 2 ^ c.args.free = mod-eq_of_lt (omega arith) in
    omega arith

pub slice_bounds-quietest_by-end-else-free-le2 : goal.slice_bounds-quietest_by-end-else-free-le2
slice_bounds-quietest_by-end-else-free-le2 c =
    let few : 2 ^ c.args.free ≤ 16 = pow_mono {j = 4} c.requires.4 in
    let sized : 8 * 2 ^ c.args.free % 2 ^ 64 ≡ 8 * 2 ^ c.args.free = mod-eq_of_lt (omega arith) in
    simp length-take (omega arith)

pub quietest_by-requires-else-free-le2 : goal.quietest_by-requires-else-free-le2
quietest_by-requires-else-free-le2 c =
    let p = c.requires in
    let few : 2 ^ c.args.free ≤ 16 = pow_mono {j = 4} c.requires.4 in
    let sized : 8 * 2 ^ c.args.free % 2 ^ 64 ≡ 8 * 2 ^ c.args.free = mod-eq_of_lt (omega arith) in
    (p.0, p.1, p.2, p.3, p.4, p.5, simp length-take (omega arith))
