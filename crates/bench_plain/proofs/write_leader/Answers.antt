-- `write_leader` meets its contract: at each position the number of its block, and over it the levels. Assumes nothing.
use Rattle.std.proofs.Common.{◌≡◌, ℕ, ◌+◌, ◌*◌, ◌/◌, ◌%◌, ◌^◌, ◌<◌, ◌≤◌, true, List, length, get_or, pos, sym, ap, ◌∙◌, arith, w32}
use mir.Facts.{to_z-of_z}
use Rattle.bits.specs.Message.{message_bit}
use Rattle.bits.proofs.Message.{message-small}
use Rattle.coordinates.proofs.Filled.{filled_none, filled_next}
use Rattle.frames.specs.Kind.{is_kind, degrees, level_bits, message_bits, message_bytes}
use Rattle.frames.specs.Message.{widths, numbers, block_numbers, stacked, coordinate}
use Rattle.frames.proofs.One.{leader-length, leader-at}
use Rattle.frames.proofs.Limits.{few-positions, few-message-bits, whole-blocks, bytes-hold, levels-hold, Piece, block-piece}
use Rattle.leader.proofs.BlockNumbers.{numbers-below}
use Rattle.bench_plain.proofs.write_leader.Goals as goal

-- a position of the frame, and its block's piece of the message, which is short
record Turn (k b : ℕ) (bytes : List ℕ) (p : ℕ) : Type 0 where
  inside : p < 2 ^ k
  few : 2 ^ k ≤ 64
  piece : Piece (level_bits k + 8 * b * (p / 8)) (8 * b) (message_bits k b)
  short : message_bits k b ≤ 368
  held : message_bits k b ≤ 8 * length bytes

turn : (k b : ℕ) (bytes : List ℕ) (p : ℕ) → is_kind k ≡ true → b ≤ 4 → length bytes ≡ message_bytes k b → p < 2 ^ k → Turn k b bytes p
turn k b bytes p kind high long h = record {
  inside = h;
  few = few-positions k kind;
  piece = block-piece k b (p / 8) kind high (omega (arith, whole-blocks k kind));
  short = few-message-bits k b kind high;
  held = omega (arith, long, bytes-hold k b);
}

pub loop-p-init : goal.loop-p-init
loop-p-init c = filled_none _ _ (c.requires.4 ∙ sym (leader-length c.args.kind c.args.grade c.args.message.now))

pub overflow_add-base : goal.overflow_add-base
overflow_add-base c =
    let s = c.args in
    let t = turn s.kind s.grade s.message.now c.loop-p.p c.requires.0 c.requires.2 c.requires.3 (omega arith) in
    omega (arith, t.piece.inside, t.short)

pub number_at-s-requires : goal.number_at-s-requires
number_at-s-requires c =
    let s = c.args in
    let t = turn s.kind s.grade s.message.now c.loop-p.p c.requires.0 c.requires.2 c.requires.3 (omega arith) in
    (c.requires.1, c.requires.2, omega arith, omega (arith, t.piece.inside, t.short), omega (arith, t.piece.inside, t.held))

pub coordinate-requires : goal.coordinate-requires
coordinate-requires c =
    let s = c.args in
    let bytes = s.message.now in
    let from = c.level_bits-base.result + 8 * s.grade * (c.loop-p.p / 8) in
    let small = numbers-below (message_bit bytes) (message-small bytes) from s.grade (c.loop-p.p % 8) c.requires.2 (omega arith) in
    (c.requires.0, omega (arith, levels-hold s.kind s.grade), omega (arith, small))

pub loop-p-preserved : goal.loop-p-preserved
unfolding coordinate block_numbers
loop-p-preserved c =
    let s = c.args in
    let k = s.kind in
    let b = s.grade in
    let bytes = s.message.now in
    let p = c.loop-p.p in
    let h : p < 2 ^ k = omega arith in
    let n = c.number_at-s.ensures ∙ ap (λ (n : ℕ). get_or (numbers (message_bit bytes) (n + 8 * b * (p / 8)) (widths b)) (p % 8) 0) c.level_bits-base.ensures in
    filled_next (pos 0) _ _ p _ c.loop-p.invariant (omega (arith, leader-length k b bytes))
    (to_z-of_z {w = w32} (record { sfits = c.coordinate.type_inv }) ∙ c.coordinate.ensures
    ∙ ap (λ (x : ℕ). pos (stacked k (degrees k) (message_bit bytes) 0 x p)) n
    ∙ sym (leader-at k b bytes p h))
