use Rattle.std.proofs.Common.{ℕ, ◌≡◌, ◌≤◌, sym, ◌∙◌, arith}
use Rattle.std.proofs.lemmas.List.{length-take-le}
use Rattle.closer_recording.specs.Room.{room_for}
use Rattle.closer_recording.proofs.Bytes.{room-high}
use Rattle.closer_recording.proofs.choose.Goals as goal

few : (k b n : ℕ) → n ≡ room_for k b → n ≤ 46
few k b n e = omega (arith, e, room-high k b)

pub slice_bounds-one-end : goal.slice_bounds-one-end
slice_bounds-one-end c = few c.args.kind c.args.grade c.room-n.result c.room-n.ensures

pub slice_bounds-decide-end : goal.slice_bounds-decide-end
slice_bounds-decide-end c = sym (length-take-le _ _ (few c.args.kind c.args.grade c.room-n.result c.room-n.ensures))

pub slice_bounds-two-end : goal.slice_bounds-two-end
slice_bounds-two-end c = few c.args.kind c.args.grade c.room-n.result c.room-n.ensures

pub slice_bounds-decide-end-2 : goal.slice_bounds-decide-end-2
slice_bounds-decide-end-2 c = sym (length-take-le _ _ (few c.args.kind c.args.grade c.room-n.result c.room-n.ensures))

pub decide-requires : goal.decide-requires
decide-requires c =
    let h = few c.args.kind c.args.grade c.room-n.result c.room-n.ensures in
    (length-take-le _ _ h ∙ c.room-n.ensures, length-take-le _ _ h ∙ c.room-n.ensures)
