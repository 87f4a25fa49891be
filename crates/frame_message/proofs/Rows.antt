-- The rows of bits of a message, those of the levels and those of the blocks: where each piece stands. Assumes nothing.
use Prim.Native.Nat.{ℕ, zero, suc, ◌+◌, ◌*◌, ◌-◌, ◌^◌, ◌≤◌, ◌<◌}
use mathlib.Core.Path.{◌≡◌, refl, sym, ap, ap₂, ◌∙◌}
use mathlib.Core.List.{List, [], ◌∷◌, ◌++◌}
use native.Mathlib.Nat.{mul-le-mul_left}
use native.Mathlib.Decide.{dec_lt}
use native.Mathlib.Omega.{arith}
use lib.IntN.{ℤ}
use lib.ListN.{length, take, get_or, length-append, get_or-append}
use lib.Seq.{get_or-append-add}
use Rattle.bits.specs.Number.{table}
use Rattle.bits.proofs.Table.{length-table, table_at}
use Rattle.bits.proofs.Digits.{digit, digit-small}
use Rattle.reed_muller.specs.Level.{order, dimension}
use Rattle.e8.specs.Lattice.{part}
use Rattle.e8.specs.Rows.{reduced}
use Rattle.frames.specs.Kind.{dimensions}
use Rattle.frames.specs.Message.{widths}
use Rattle.frames.specs.Reading.{all_digits, block_messages}
use Rattle.frames.proofs.Numbers.{total}
use Rattle.frames.proofs.Lengths.{blocks-length}
use Rattle.block_reading.proofs.BitRows.{Bits, bits-append, bits-table, all-bits}
use Rattle.frame_message.specs.Held.{held_messages}

-- ---- levels in a row

-- the message bits that word i holds for a code of degree r
abbrev held_level : ℕ → ℕ → ℕ → List ℕ → List ℕ
held_level m i r words = table (dimension r m) (λ t. digit (get_or words i 0) (get_or (order m) t 0))

level-length : (m i r : ℕ) (words : List ℕ) → length (held_level m i r words) ≡ dimension r m
level-length m i r words = length-table (λ t. digit (get_or words i 0) (get_or (order m) t 0)) (dimension r m)

-- the numbers of message bits of codes of the degrees rs
abbrev pub counts : ℕ → List ℕ → List ℕ
counts m [] = []
counts m (r ∷ rs) = dimension r m ∷ counts m rs

pub counts-total : (m : ℕ) (rs : List ℕ) → dimensions m rs ≡ total (counts m rs)
counts-total m [] = refl
counts-total m (r ∷ rs) = ap (λ (n : ℕ). dimension r m + n) (counts-total m rs)

-- bit t of level i
pub held_at : (m o : ℕ) (rs words : List ℕ) (i t : ℕ) → t < get_or (counts m rs) i 0
    → get_or (held_messages m o rs words) (total (take i (counts m rs)) + t) 0 ≡ digit (get_or words (o + i) 0) (get_or (order m) t 0)
unfolding held_messages
held_at m o [] words i t h = absurd (omega arith)
held_at m o (r ∷ rs) words zero t h =
    let e : 0 + t ≡ t = omega arith in
    let z : o ≡ o + 0 = omega arith in
    ap (λ (n : ℕ). get_or (held_level m o r words ++ held_messages m (suc o) rs words) n 0) e
    ∙ get_or-append (held_level m o r words) (held_messages m (suc o) rs words) 0 t (omega (arith, level-length m o r words))
    ∙ table_at (λ t. digit (get_or words o 0) (get_or (order m) t 0)) (dimension r m) t h
    ∙ ap (λ (n : ℕ). digit (get_or words n 0) (get_or (order m) t 0)) z
held_at m o (r ∷ rs) words (suc i) t h =
    let d : ℕ = total (take i (counts m rs)) in
    let e : dimension r m + d + t ≡ length (held_level m o r words) + (d + t) = omega (arith, level-length m o r words) in
    let z : suc o + i ≡ o + suc i = omega arith in
    ap (λ (n : ℕ). get_or (held_level m o r words ++ held_messages m (suc o) rs words) n 0) e
    ∙ get_or-append-add (held_level m o r words) (held_messages m (suc o) rs words) (d + t) 0
    ∙ held_at m (suc o) rs words i t h
    ∙ ap (λ (n : ℕ). digit (get_or words n 0) (get_or (order m) t 0)) z

pub held-length : (m i : ℕ) (rs words : List ℕ) → length (held_messages m i rs words) ≡ dimensions m rs
unfolding held_messages
held-length m i [] words = refl
held-length m i (r ∷ rs) words =
    length-append (held_level m i r words) (held_messages m (suc i) rs words)
    ∙ ap₂ ◌+◌ (level-length m i r words) (held-length m (suc i) rs words)

-- ---- blocks in a row

-- the bits of block j
abbrev pub block_row : ℕ → ℕ → List ℤ → List ℕ
block_row b j v = all_digits (widths b) (reduced (2 ^ (b - 1)) (part j v))

-- bit t of block j
pub blocks_at : (b n j t : ℕ) (v : List ℤ) → 1 ≤ b → 8 * n ≤ length v → j < n → t < 8 * b
    → get_or (block_messages b n v) (8 * b * j + t) 0 ≡ get_or (block_row b j v) t 0
unfolding block_messages
blocks_at b zero j t v grade long h l = absurd (omega arith)
blocks_at b (suc n) j t v grade long h l = go (λ k. blocks_at b n j t v grade (omega arith) k l) (dec_lt j n)
  where
    first : length (block_messages b n v) ≡ 8 * b * n
    first = blocks-length b n v grade (omega arith)

    go : (j < n → get_or (block_messages b n v) (8 * b * j + t) 0 ≡ get_or (block_row b j v) t 0) → Dec (j < n)
        → get_or (block_messages b n v ++ block_row b n v) (8 * b * j + t) 0 ≡ get_or (block_row b j v) t 0
    go earlier (yes k) =
        let u : j + 1 ≤ n = omega arith in
        get_or-append (block_messages b n v) (block_row b n v) 0 (8 * b * j + t) (omega (arith, first, mul-le-mul_left (8 * b) u)) ∙ earlier k
    go earlier (no k) =
        let e : j ≡ n = omega arith in
        ap (λ (i : ℕ). get_or (block_messages b n v ++ block_row b n v) (i + t) 0) (ap (λ (i : ℕ). 8 * b * i) e ∙ sym first)
        ∙ get_or-append-add (block_messages b n v) (block_row b n v) t 0
        ∙ ap (λ (i : ℕ). get_or (block_row b i v) t 0) (sym e)

-- ---- every entry of these rows is 0 or 1

pub held-bits : (m i : ℕ) (rs words : List ℕ) → Bits (held_messages m i rs words)
unfolding held_messages
held-bits m i [] words = λ t. omega arith
held-bits m i (r ∷ rs) words =
    bits-append (held_level m i r words) (held_messages m (suc i) rs words)
    (bits-table (dimension r m) _ (λ t. digit-small (get_or words i 0) (get_or (order m) t 0))) (held-bits m (suc i) rs words)

pub blocks-bits : (b n : ℕ) (v : List ℤ) → Bits (block_messages b n v)
unfolding block_messages
blocks-bits b zero v = λ t. omega arith
blocks-bits b (suc n) v = bits-append (block_messages b n v) _ (blocks-bits b n v) (all-bits (widths b) (reduced (2 ^ (b - 1)) (part n v)))
