use Rattle.std.proofs.Common.{◌≡◌, ℕ, ◌+◌, ◌-◌, ◌*◌, ◌/◌, ◌%◌, ◌^◌, ◌≤◌, ◌<◌}
use Rattle.std.proofs.Common.{List, map, length, get_or, sym, ap, subst, ◌∙◌, ℤ, pos, nat_abs, true, take, drop, arith}
use lib.Dec.{T}
use lib.Signed.{non_neg}
use Rattle.bits.specs.Number.{number}
use Rattle.e8.specs.Energy.{Within}
use Rattle.e8.specs.Lattice.{part}
use Rattle.e8.specs.Rows.{ints, reduced}
use Rattle.e8.proofs.Within.{within-to, within-part}
use Rattle.e8.proofs.Frame.{part-is}
use Rattle.frames.specs.Kind.{is_kind, levels, blocks, level_bits, message_bits}
use Rattle.frames.specs.Message.{widths}
use Rattle.frames.specs.Reading.{quotients, all_digits, largest_read}
use Rattle.frames.proofs.Frame.{ints_at, part_length}
use Rattle.frames.proofs.Limits.{few-levels, few-message-bits, block_room, bytes-hold, levels-hold, whole-blocks}
use Rattle.frames.proofs.Refusals.{range-within}
use Rattle.frames.proofs.Rows.{grade-low, grade-high}
use Rattle.block_reading.proofs.Packing.{sizes-ints}
use Rattle.block_reading.proofs.Quotients.{quotients-part}
use Rattle.frame_message.proofs.Rows.{block_row}
use Rattle.frame_message.proofs.Pieces.{level_row, row-bits, blocks_end, row-long, levels-in, block-number, all-bytes}
use Rattle.frame_message.proofs.Writing.{Carried, carried-length, carried-ext, carried-more, carried-last}
use Rattle.frame_message.proofs.write_message.Goals as goal

-- the numbers of a block
numbers-are : (k b j : ℕ) (f : List ℤ) {a : ℕ} {ns : List ℤ} → a ≡ levels k
    → ns ≡ ints (reduced (2 ^ (b - 1)) (quotients a (take (8 * j + 8 - 8 * j) (drop (8 * j) f))))
    → ns ≡ ints (reduced (2 ^ (b - 1)) (part j (quotients (levels k) f)))
numbers-are k b j f {a} e is =
    is ∙ ap (λ (x : List ℤ). ints (reduced (2 ^ (b - 1)) (quotients a x))) (part-is j f)
    ∙ ap (λ (a : ℕ). ints (reduced (2 ^ (b - 1)) (quotients a (part j f)))) e
    ∙ ap (λ (x : List ℤ). ints (reduced (2 ^ (b - 1)) x)) (sym (quotients-part (levels k) j f))

pub write_levels-rest-requires : goal.write_levels-rest-requires
write_levels-rest-requires c = (c.requires.0, omega (arith, c.requires.4, levels-hold c.args.kind c.args.grade))

pub loop-j-init : goal.loop-j-init
loop-j-init c =
    let a = c.args in
    let count = c.level_bits-count in
    let w = c.write_levels-rest in
    let written : Carried (level_row a.kind a.words) a.out.now (count.result / 8) (count.result % 8) w.result w.new.out =
    subst (λ (n : ℕ). Carried (level_row a.kind a.words) a.out.now (n / 8) (n % 8) w.result w.new.out) (sym count.ensures)
    (record { bytes = w.ensures.out; held = w.ensures.rest }) in
    let same = levels-in a.kind a.grade c.requires.0 (grade-low a.grade c.requires.1) a.frame.now c.requires.2 a.words in
    (omega arith, carried-ext (λ i l. same i (omega (arith, l, count.ensures))) written)

pub block_numbers-numbers-requires : goal.block_numbers-numbers-requires
block_numbers-numbers-requires c =
    let k = c.args.kind in
    let f = c.args.frame.now in
    let j = c.loop-j.j in
    let whole : length f ≡ 8 * blocks k = c.requires.2 ∙ sym (whole-blocks k c.requires.0) in
    let near = within-to largest_read (2 ^ 24) f (omega arith) (range-within f c.requires.3) in (
      omega (arith, c.levels-a.ensures, few-levels k c.requires.0),
      grade-low c.args.grade c.requires.1,
      grade-high c.args.grade c.requires.1,
      ap length (part-is j f) ∙ part_length f (blocks k) j whole (omega arith),
      subst (Within (2 ^ 24)) (sym (part-is j f)) (within-part (2 ^ 24) j f near),
    )

pub packed-requires : goal.packed-requires
packed-requires c =
    let k = c.args.kind in
    let b = c.args.grade in
    let ss : List ℕ = reduced (2 ^ (b - 1)) (part c.loop-j.j (quotients (levels k) c.args.frame.now)) in
    let ns = numbers-are k b c.loop-j.j c.args.frame.now c.levels-a.ensures c.block_numbers-numbers.ensures in (
      grade-low b c.requires.1,
      grade-high b c.requires.1,
      λ i. subst (λ (z : ℤ). T (non_neg z)) (sym (ap (λ (x : List ℤ). get_or x i (pos 0)) ns ∙ ints_at ss i)) tt,
    )

pub put_bytes-rest-requires : goal.put_bytes-rest-requires
put_bytes-rest-requires c =
    let k = c.args.kind in
    let b = c.args.grade in
    let inside : c.loop-j.j < blocks k = omega (arith, c.requires.2) in (
      omega (arith, grade-high b c.requires.1),
      omega (
        arith,
        c.loop-j.invariant.0,
        c.level_bits-count.ensures,
        carried-length c.loop-j.invariant.1,
        c.requires.4,
        block_room k b c.loop-j.j c.requires.0 inside,
        bytes-hold k b,
      ),
    )

pub overflow_add-at : goal.overflow_add-at
overflow_add-at c =
    let k = c.args.kind in
    let b = c.args.grade in
    let inside : c.loop-j.j < blocks k = omega (arith, c.requires.2) in record {
      fits = omega (
        arith,
        c.loop-j.invariant.0,
        c.level_bits-count.ensures,
        block_room k b c.loop-j.j c.requires.0 inside,
        few-message-bits k b c.requires.0 (grade-high b c.requires.1),
      );
    }

pub loop-j-preserved : goal.loop-j-preserved
loop-j-preserved c =
    let k = c.args.kind in
    let b = c.args.grade in
    let f = c.args.frame.now in
    let j = c.loop-j.j in
    let at = c.loop-j.at in
    let over : ℕ = c.level_bits-count.result % 8 in
    let low = grade-low b c.requires.1 in
    let inside : j < blocks k = omega (arith, c.requires.2) in
    let place : 8 * at + over ≡ level_bits k + 8 * b * j = omega (arith, c.loop-j.invariant.0, c.level_bits-count.ensures) in
    let v = quotients (levels k) f in
    let ns = numbers-are k b j f c.levels-a.ensures c.block_numbers-numbers.ensures in
    let bits : c.packed.result ≡ number (8 * b) (λ i. get_or (block_row b j v) i 0) =
    c.packed.ensures ∙ ap (λ (ss : List ℕ). number (8 * b) (λ i. get_or (all_digits (widths b) ss) i 0)) (ap (map nat_abs) ns ∙ sizes-ints _) in (
      omega (arith, c.loop-j.invariant.0),
      carried-more c.loop-j.invariant.1 (row-bits k b c.requires.0 low f c.requires.2 c.args.words) (8 * b) c.packed.result b over
          (block-number k b c.requires.0 low f c.requires.2 c.args.words j (8 * at + over) c.packed.result inside place bits)
          (omega arith) (omega (arith, grade-high b c.requires.1)) _ c.put_bytes-rest.result c.put_bytes-rest.ensures.out c.put_bytes-rest.ensures.rest,
    )

-- every block is written, but for the bits that are carried
ends : (k b : ℕ) {n at count : ℕ} → is_kind k ≡ true → 1 ≤ b → (f : List ℤ) → length f ≡ 2 ^ k → List ℕ
    → n ≡ blocks k → at ≡ count / 8 + b * n → count ≡ level_bits k → 8 * at + count % 8 ≡ message_bits k b
ends k b kind low f l words n at count =
    omega (arith, at, count, ap (λ (n : ℕ). 8 * b * n) n, blocks_end k b kind low f l words)

pub put_bytes-requires : goal.put_bytes-requires
put_bytes-requires c =
    let k = c.args.kind in
    let b = c.args.grade in
    let low = grade-low b c.requires.1 in
    let last : c.loop-j.j ≡ blocks k = omega (arith, c.requires.2) in
    let all = ends k b c.requires.0 low c.args.frame.now c.requires.2 c.args.words last c.loop-j.invariant.0 c.level_bits-count.ensures in
    (omega arith, omega (arith, all, bytes-hold k b, carried-length c.loop-j.invariant.1, c.requires.4))

pub returns-then-over-ne0 : goal.returns-then-over-ne0
returns-then-over-ne0 c =
    let k = c.args.kind in
    let b = c.args.grade in
    let f = c.args.frame.now in
    let words = c.args.words in
    let low = grade-low b c.requires.1 in
    let last : c.loop-j.j ≡ blocks k = omega (arith, c.requires.2) in
    let all = ends k b c.requires.0 low f c.requires.2 words last c.loop-j.invariant.0 c.level_bits-count.ensures in
    carried-last c.loop-j.invariant.1 (row-bits k b c.requires.0 low f c.requires.2 words)
    (omega (arith, row-long k b c.requires.0 low f c.requires.2 words, all)) (omega arith) _ c.put_bytes.ensures.out
    ∙ all-bytes k b c.requires.0 low f c.requires.2 words (c.loop-j.at + 1) c.args.out.now c.requires.4 (omega (arith, all))

pub returns-else-over-ne0 : goal.returns-else-over-ne0
returns-else-over-ne0 c =
    let k = c.args.kind in
    let b = c.args.grade in
    let f = c.args.frame.now in
    let words = c.args.words in
    let low = grade-low b c.requires.1 in
    let last : c.loop-j.j ≡ blocks k = omega (arith, c.requires.2) in
    let all = ends k b c.requires.0 low f c.requires.2 words last c.loop-j.invariant.0 c.level_bits-count.ensures in
    c.loop-j.invariant.1.bytes ∙ all-bytes k b c.requires.0 low f c.requires.2 words c.loop-j.at c.args.out.now c.requires.4 (omega (arith, all))
