-- At each kind the counts, starts and degrees in the calls are those of the kind's row, which is computed.
use Rattle.std.proofs.Common.{◌≡◌, ℕ, List, [], ◌∷◌, refl, sym, ap, ap₂, ◌∙◌, arith}
use lib.Count.{ones}
use Rattle.bits.specs.Number.{table}
use Rattle.bits.specs.Message.{message_bit}
use Rattle.bits.proofs.Message.{message-small}
use Rattle.reed_muller.specs.Level.{dimension, masks, of_weight}
use Rattle.frames.specs.Kind.{kinds, degrees, levels, level_bits}
use Rattle.frames.proofs.Limits.{tabled}
use Rattle.leader.specs.Words.{codewords_of}
use Rattle.leader.proofs.Stack.{held_below, level-word}
use Rattle.leader.proofs.codewords.Goals as goal

-- the codewords of the kind that was found
words : {x y z x' y' z' k m : ℕ} (bytes : List ℕ) → m ≡ k → x' ∷ y' ∷ z' ∷ [] ≡ codewords_of k (message_bit bytes) → x ≡ x' → y ≡ y' → z ≡ z'
    → x ∷ y ∷ z ∷ [] ≡ codewords_of m (message_bit bytes)
words bytes e made a b c =
    ap₂ ◌∷◌ a (ap₂ (λ (y z : ℕ). y ∷ z ∷ []) b c) ∙ made ∙ ap (λ (n : ℕ). codewords_of n (message_bit bytes)) (sym e)

-- ---- kind 3

bits-of-3 : {k : ℕ} → k ≡ 3 → level_bits k ≡ 4
unfolding level_bits kinds degrees dimension masks of_weight table ones
bits-of-3 e = ap level_bits e

pub bits_at-requires : goal.bits_at-requires
bits_at-requires c = (omega arith, omega arith, omega (arith, bits-of-3 c.in-3.is))

pub codeword_held-requires : goal.codeword_held-requires
unfolding dimension masks of_weight table ones
codeword_held-requires c = (omega arith, omega arith, held_below c.bits_at.ensures (λ t l. message-small _ _))

pub returns-in-3 : goal.returns-in-3
unfolding codewords_of levels kinds degrees dimension masks of_weight table ones
returns-in-3 c =
    words c.args.message.now c.in-3.is refl
    (level-word 3 0 c.args.message.now c.bits_at.ensures c.codeword_held.ensures)
    refl
    refl

-- ---- kind 4

bits-of-4 : {k : ℕ} → k ≡ 4 → level_bits k ≡ 20
unfolding level_bits kinds degrees dimension masks of_weight table ones
bits-of-4 e = ap level_bits e

pub bits_at-requires-in-4 : goal.bits_at-requires-in-4
bits_at-requires-in-4 c = (omega arith, omega arith, omega (arith, bits-of-4 c.in-4.is))

pub codeword_held-requires-in-4 : goal.codeword_held-requires-in-4
unfolding dimension masks of_weight table ones
codeword_held-requires-in-4 c = (omega arith, omega arith, held_below c.bits_at-in-4.ensures (λ t l. message-small _ _))

pub bits_at-requires-in-4-2 : goal.bits_at-requires-in-4-2
bits_at-requires-in-4-2 c = (omega arith, omega arith, omega (arith, bits-of-4 c.in-4.is))

pub codeword_held-requires-in-4-2 : goal.codeword_held-requires-in-4-2
unfolding dimension masks of_weight table ones
codeword_held-requires-in-4-2 c = (omega arith, omega arith, held_below c.bits_at-in-4-2.ensures (λ t l. message-small _ _))

pub returns-in-4 : goal.returns-in-4
unfolding codewords_of levels kinds degrees dimension masks of_weight table ones
returns-in-4 c =
    words c.args.message.now c.in-4.is refl
    (level-word 4 0 c.args.message.now c.bits_at-in-4.ensures c.codeword_held-in-4.ensures)
    (level-word 4 1 c.args.message.now c.bits_at-in-4-2.ensures c.codeword_held-in-4-2.ensures)
    refl

-- ---- kind 5

bits-of-5 : {k : ℕ} → k ≡ 5 → level_bits k ≡ 32
unfolding level_bits kinds degrees dimension masks of_weight table ones
bits-of-5 e = ap level_bits e

pub bits_at-requires-in-5 : goal.bits_at-requires-in-5
bits_at-requires-in-5 c = (omega arith, omega arith, omega (arith, bits-of-5 c.in-5.is))

pub codeword_held-requires-in-5 : goal.codeword_held-requires-in-5
unfolding dimension masks of_weight table ones
codeword_held-requires-in-5 c = (omega arith, omega arith, held_below c.bits_at-in-5.ensures (λ t l. message-small _ _))

pub bits_at-requires-in-5-2 : goal.bits_at-requires-in-5-2
bits_at-requires-in-5-2 c = (omega arith, omega arith, omega (arith, bits-of-5 c.in-5.is))

pub codeword_held-requires-in-5-2 : goal.codeword_held-requires-in-5-2
unfolding dimension masks of_weight table ones
codeword_held-requires-in-5-2 c = (omega arith, omega arith, held_below c.bits_at-in-5-2.ensures (λ t l. message-small _ _))

pub returns-in-5 : goal.returns-in-5
unfolding codewords_of levels kinds degrees dimension masks of_weight table ones
returns-in-5 c =
    words c.args.message.now c.in-5.is refl
    (level-word 5 0 c.args.message.now c.bits_at-in-5.ensures c.codeword_held-in-5.ensures)
    (level-word 5 1 c.args.message.now c.bits_at-in-5-2.ensures c.codeword_held-in-5-2.ensures)
    refl

-- ---- kind 6

bits-of-6 : {k : ℕ} → k ≡ 6 → level_bits k ≡ 112
unfolding level_bits kinds degrees dimension masks of_weight table ones
bits-of-6 e = ap level_bits e

pub bits_at-requires-in_default : goal.bits_at-requires-in_default
bits_at-requires-in_default c =
    let e : c.args.kind ≡ 6 = omega (arith, tabled c.args.kind c.requires.0) in
    (omega arith, omega arith, omega (arith, bits-of-6 e))

pub codeword_held-requires-in_default : goal.codeword_held-requires-in_default
unfolding dimension masks of_weight table ones
codeword_held-requires-in_default c = (omega arith, omega arith, held_below c.bits_at-in_default.ensures (λ t l. message-small _ _))

pub bits_at-requires-in_default-2 : goal.bits_at-requires-in_default-2
bits_at-requires-in_default-2 c =
    let e : c.args.kind ≡ 6 = omega (arith, tabled c.args.kind c.requires.0) in
    (omega arith, omega arith, omega (arith, bits-of-6 e))

pub codeword_held-requires-in_default-2 : goal.codeword_held-requires-in_default-2
unfolding dimension masks of_weight table ones
codeword_held-requires-in_default-2 c = (omega arith, omega arith, held_below c.bits_at-in_default-2.ensures (λ t l. message-small _ _))

pub bits_at-requires-in_default-3 : goal.bits_at-requires-in_default-3
bits_at-requires-in_default-3 c =
    let e : c.args.kind ≡ 6 = omega (arith, tabled c.args.kind c.requires.0) in
    (omega arith, omega arith, omega (arith, bits-of-6 e))

pub codeword_held-requires-in_default-3 : goal.codeword_held-requires-in_default-3
unfolding dimension masks of_weight table ones
codeword_held-requires-in_default-3 c = (omega arith, omega arith, held_below c.bits_at-in_default-3.ensures (λ t l. message-small _ _))

pub returns-in_default : goal.returns-in_default
unfolding codewords_of levels kinds degrees dimension masks of_weight table ones
returns-in_default c =
    let e : c.args.kind ≡ 6 = omega (arith, tabled c.args.kind c.requires.0) in
    words c.args.message.now e refl
    (level-word 6 0 c.args.message.now c.bits_at-in_default.ensures c.codeword_held-in_default.ensures)
    (level-word 6 1 c.args.message.now c.bits_at-in_default-2.ensures c.codeword_held-in_default-2.ensures)
    (level-word 6 2 c.args.message.now c.bits_at-in_default-3.ensures c.codeword_held-in_default-3.ensures)
