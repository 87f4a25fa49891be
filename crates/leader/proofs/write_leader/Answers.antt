-- A turn's block is made of the levels' values at its positions, which the numbers of `codewords` hold, and of its own piece of the message.
use Rattle.std.proofs.Common.{◌≡◌, ℕ, ◌+◌, ◌*◌, ◌^◌, ◌≤◌, ◌<◌, List, length, take, sym, ap, ap₂, ◌∙◌, subst, ℤ, true, arith}
use lib.Seq.{take_all}
use Rattle.bits.specs.Number.{table}
use Rattle.bits.specs.Message.{message_bit}
use Rattle.e8.specs.Lattice.{part}
use Rattle.e8.specs.Rows.{ints}
use Rattle.e8.proofs.Blockwise.{Made, Over, over-same, over-end, over-step, taken_made}
use Rattle.frames.specs.Kind.{is_kind, blocks as blocks-of, level_bits}
use Rattle.frames.specs.Message.{widths, numbers, block_numbers, leader}
use Rattle.frames.proofs.Limits.{few-levels, few-positions, few-message-bits, whole-blocks, bytes-hold, levels-hold, block-piece}
use Rattle.leader.proofs.Laid.{long, laid, block-is}
use Rattle.leader.proofs.write_leader.Goals as goal

made : (k b : ℕ) → is_kind k ≡ true → (bytes : List ℕ) → Made (blocks-of k) (λ j. part j (leader k b bytes)) (λ j. take (8 * j) (leader k b bytes))
made k b kind bytes = taken_made (blocks-of k) (leader k b bytes) (long k b kind bytes)

-- the frame keeps its length
same : (k b : ℕ) {j : ℕ} {f₀ f : List ℤ} (bytes : List ℕ) → is_kind k ≡ true → length f₀ ≡ 2 ^ k
    → Over (λ i. take (8 * i) (leader k b bytes)) f₀ j f → length f ≡ 2 ^ k
same k b bytes kind l h = over-same (made k b kind bytes) (l ∙ sym (whole-blocks k kind)) h ∙ l

pub codewords-words-requires : goal.codewords-words-requires
codewords-words-requires c =
    (c.requires.0, subst (λ (n : ℕ). level_bits c.args.kind ≤ 8 * n) (sym c.requires.3) (levels-hold c.args.kind c.args.grade))

pub overflow_add-base : goal.overflow_add-base
overflow_add-base c =
    let k = c.args.kind in
    let b = c.args.grade in
    let whole = whole-blocks k c.requires.0 in
    let inside : c.loop-j.j < blocks-of k = omega (arith, same k b c.args.message.now c.requires.0 c.requires.4 c.loop-j.invariant, whole) in
    let piece = block-piece k b c.loop-j.j c.requires.0 c.requires.2 inside in
    record { fits = omega (arith, c.level_bits-base.ensures, piece.inside, few-message-bits k b c.requires.0 c.requires.2) }

pub block-x-requires : goal.block-x-requires
block-x-requires c =
    let k = c.args.kind in
    let b = c.args.grade in
    let whole = whole-blocks k c.requires.0 in
    let inside : c.loop-j.j < blocks-of k = omega (arith, same k b c.args.message.now c.requires.0 c.requires.4 c.loop-j.invariant, whole) in
    let piece = block-piece k b c.loop-j.j c.requires.0 c.requires.2 inside in (
      c.requires.1,
      c.requires.2,
      omega (arith, c.levels-levels.ensures, few-levels k c.requires.0),
      omega (arith, whole-blocks k c.requires.0, few-positions k c.requires.0),
      omega (arith, c.level_bits-base.ensures, piece.word),
      omega (arith, c.level_bits-base.ensures, piece.inside, bytes-hold k b, c.requires.3),
    )

pub loop-j-preserved : goal.loop-j-preserved
unfolding block_numbers
loop-j-preserved c =
    let k = c.args.kind in
    let b = c.args.grade in
    let j = c.loop-j.j in
    let bytes = c.args.message.now in
    let bit = message_bit bytes in
    let W = c.codewords-words.result in
    let whole : length c.args.frame.now ≡ 8 * blocks-of k = c.requires.4 ∙ sym (whole-blocks k c.requires.0) in
    let inside : j < blocks-of k = omega (arith, same k b bytes c.requires.0 c.requires.4 c.loop-j.invariant) in
    let block : ℕ → ℕ → List ℕ → List ℤ = λ n l ws. ints (table 8 (laid n ws (8 * j) (numbers bit (l + 8 * b * j) (widths b)))) in
    let x : c.block-x.result ≡ part j (leader k b bytes) =
    c.block-x.ensures
    ∙ ap₂ (λ (n l : ℕ). block n l W) c.levels-levels.ensures c.level_bits-base.ensures
    ∙ ap (block _ _) c.codewords-words.ensures
    ∙ block-is k b c.requires.0 bytes j inside in
    over-step (made k b c.requires.0 bytes) whole c.loop-j.invariant inside (c.store.ensures ∙ x)

pub returns : goal.returns
returns c =
    let k = c.args.kind in
    let b = c.args.grade in
    let bytes = c.args.message.now in
    let whole : length c.args.frame.now ≡ 8 * blocks-of k = c.requires.4 ∙ sym (whole-blocks k c.requires.0) in
    over-end (made k b c.requires.0 bytes) whole c.loop-j.invariant (omega (arith, same k b bytes c.requires.0 c.requires.4 c.loop-j.invariant))
    ∙ take_all (8 * blocks-of k) (leader k b bytes) (omega (arith, long k b c.requires.0 bytes))
