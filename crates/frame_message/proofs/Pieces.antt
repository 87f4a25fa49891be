-- The pieces of a frame's message, each as the number that the code holds it in, and where it stands in the message. Assumes nothing.
use Prim.Native.Nat.{ℕ, ◌+◌, ◌*◌, ◌/◌, ◌%◌, ◌^◌, ◌≤◌, ◌<◌}
use mathlib.Core.Path.{◌≡◌, refl, sym, ap, ap₂, subst, ◌∙◌}
use mathlib.Core.Bool.{true}
use mathlib.Core.List.{List, [], ◌∷◌}
use native.Mathlib.Omega.{arith}
use lib.Bits.{bit_xor}
use lib.Count.{ones}
use lib.IntN.{ℤ}
use lib.ListN.{length, take, get_or, length-append, get_or-append}
use lib.Seq.{get_or-append-add}
use Rattle.bits.specs.Number.{table, number}
use Rattle.bits.specs.Message.{message_bit, bytes_of, with_bits}
use Rattle.bits.proofs.Message.{number-ext}
use Rattle.bits.proofs.Digits.{digit}
use Rattle.reed_muller.specs.Level.{order, dimension, masks, of_weight}
use Rattle.frames.specs.Kind.{kinds, is_kind, degrees, levels, blocks, level_bits, message_bits, message_bytes}
use Rattle.frames.specs.Reading.{quotients, block_messages}
use Rattle.frames.proofs.Frame.{quotients-length}
use Rattle.frames.proofs.Numbers.{total}
use Rattle.frames.proofs.Lengths.{blocks-length}
use Rattle.frames.proofs.Limits.{whole-blocks}
use Rattle.frame_message.specs.Held.{held_messages, held_bits, held_message}
use Rattle.frame_message.specs.Written.{written_over}
use Rattle.block_reading.proofs.BitRows.{Bits}
use Rattle.frame_message.proofs.Writing.{entry, Carried, carried_first, carried-more, written_all}
use Rattle.frame_message.proofs.Rows.{counts, counts-total, held_at, held-length, held-bits, block_row, blocks_at, blocks-bits}
use Rattle.block_reading.proofs.BitRows.{bits-append}

-- ---- levels

-- the levels of kind k have as many message bits as ds says
pub record Counted (k : ℕ) (ds : List ℕ) : Type 0 where
  pub are : counts k (degrees k) ≡ ds

pub counts-3 : Counted 3 (4 ∷ [])
unfolding degrees kinds dimension masks of_weight table ones
counts-3 = record { are = refl }

pub counts-4 : Counted 4 (5 ∷ 15 ∷ [])
unfolding degrees kinds dimension masks of_weight table ones
counts-4 = record { are = refl }

pub counts-5 : Counted 5 (6 ∷ 26 ∷ [])
unfolding degrees kinds dimension masks of_weight table ones
counts-5 = record { are = refl }

pub counts-6 : Counted 6 (7 ∷ 42 ∷ 63 ∷ [])
unfolding degrees kinds dimension masks of_weight table ones
counts-6 = record { are = refl }

-- the message bits of all levels
abbrev pub level_row : ℕ → List ℕ → List ℕ
level_row k words = held_messages k 0 (degrees k) words

pub level-row-length : (k : ℕ) (words : List ℕ) → length (level_row k words) ≡ level_bits k
unfolding level_bits
level-row-length k words = held-length k 0 (degrees k) words

module _ {k : ℕ} {ds : List ℕ} (counted : Counted k ds) where
  pub level-total : level_bits k ≡ total ds
  unfolding level_bits
  level-total = counts-total k (degrees k) ∙ ap total counted.are

  -- level i
  pub level-number : (words : List ℕ) (i x : ℕ) → x ≡ number (get_or ds i 0) (λ t. digit (get_or words i 0) (get_or (order k) t 0))
      → x ≡ number (get_or ds i 0) (λ t. entry (level_row k words) (total (take i ds) + t))
  level-number words i x e = e ∙ number-ext (get_or ds i 0) (λ t l. sym (
      ap (λ (xs : List ℕ). entry (level_row k words) (total (take i xs) + t)) (sym counted.are)
      ∙ held_at k 0 (degrees k) words i t (subst (λ (xs : List ℕ). t < get_or xs i 0) (sym counted.are) l)
      ∙ (let z : 0 + i ≡ i = omega arith in ap (λ (n : ℕ). digit (get_or words n 0) (get_or (order k) t 0)) z)))

  -- level 0, carried before a byte is written
  pub first-level : (words before : List ℕ) → ((j : ℕ) → get_or before j 0 < 256)
      → (x : ℕ) → x ≡ number (get_or ds 0 0) (λ t. digit (get_or words 0 0) (get_or (order k) t 0))
      → Carried (level_row k words) before 0 (get_or ds 0 0) x before
  first-level words before each x e = carried_first (level_row k words) before (get_or ds 0 0) x each (level-number words 0 x e)

  -- level i, above the bits of those before it
  pub next_level : (words : List ℕ) {before out : List ℕ} {at over rest : ℕ} → Carried (level_row k words) before at over rest out
      → (i : ℕ) → total (take i ds) ≡ 8 * at + over
      → (x : ℕ) → x ≡ number (get_or ds i 0) (λ t. digit (get_or words i 0) (get_or (order k) t 0))
      → (n over₂ : ℕ) → over + get_or ds i 0 ≡ 8 * n + over₂ → over + get_or ds i 0 ≤ 64
      → (out₂ : List ℕ) (rest₂ : ℕ)
      → let v = bit_xor rest (x * 2 ^ over % 2 ^ 64) in
      out₂ ≡ bytes_of (length out) (with_bits (8 * at) (8 * n) (digit v) (message_bit out)) → rest₂ ≡ v / 2 ^ (8 * n)
      → Carried (level_row k words) before (at + n) over₂ rest₂ out₂
  next_level words c i here x e n over₂ split room =
      carried-more c (held-bits k 0 (degrees k) words) (get_or ds i 0) x n over₂
      (level-number words i x e ∙ ap (λ (from : ℕ). number (get_or ds i 0) (λ t. entry (level_row k words) (from + t))) here) split room

-- what the levels of a kind leave: their whole bytes, and the bits above them
abbrev LevelsLeft : ℕ → List ℕ → List ℕ → ℕ → List ℕ → Type 0
LevelsLeft k words before rest out =
    (out ≡ written_over (level_bits k / 8) (level_row k words) before)
    × (rest ≡ number (level_bits k % 8) (λ t. entry (level_row k words) (8 * (level_bits k / 8) + t)))

pub levels-left : (words : List ℕ) {k at over : ℕ} {before out : List ℕ} {rest : ℕ} → level_bits k ≡ 8 * at + over → over < 8
    → Carried (level_row k words) before at over rest out → (kind : ℕ) → kind ≡ k → LevelsLeft kind words before rest out
levels-left words {k} {at} {over} {before} {out} {rest} long low c kind e =
    subst (λ (k : ℕ). LevelsLeft k words before rest out) (sym e) (
      c.bytes ∙ ap (λ (n : ℕ). written_over n (level_row k words) before) bytes,
      c.held ∙ ap₂ (λ (n m : ℕ). number m (λ t. entry (level_row k words) (8 * n + t))) bytes bits,
    )
  where
    bytes : at ≡ level_bits k / 8
    bytes = omega (arith, long)

    bits : over ≡ level_bits k % 8
    bits = omega (arith, long)

-- ---- levels and blocks

module _ (k b : ℕ) (kind : is_kind k ≡ true) (grade : 1 ≤ b) (f : List ℤ) (l : length f ≡ 2 ^ k) (words : List ℕ) where
  abbrev v : List ℤ
  v = quotients (levels k) f

  v-long : 8 * blocks k ≤ length v
  v-long = omega (arith, quotients-length (levels k) f, l, whole-blocks k kind)

  abbrev row : List ℕ
  row = held_bits k b f words

  pub row-bits : Bits row
  unfolding held_bits
  row-bits = bits-append (level_row k words) (block_messages b (blocks k) v) (held-bits k 0 (degrees k) words) (blocks-bits b (blocks k) v)

  -- where the last block ends
  pub blocks_end : level_bits k + 8 * b * blocks k ≡ message_bits k b
  unfolding message_bits
  blocks_end = omega (arith, ap (λ (n : ℕ). n * b) (whole-blocks k kind))

  pub row-long : length row ≡ message_bits k b
  unfolding held_bits
  row-long =
      length-append (level_row k words) (block_messages b (blocks k) v)
      ∙ omega (arith, level-row-length k words, blocks-length b (blocks k) v grade v-long, blocks_end)

  -- first the bits of the levels
  pub levels-in : (i : ℕ) → i < level_bits k → entry (level_row k words) i ≡ entry row i
  unfolding held_bits
  levels-in i h = sym (get_or-append (level_row k words) (block_messages b (blocks k) v) 0 i (omega (arith, level-row-length k words)))

  -- then block j, behind those before it
  pub block-number : (j from x : ℕ) → j < blocks k → from ≡ level_bits k + 8 * b * j → x ≡ number (8 * b) (λ t. entry (block_row b j v) t)
      → x ≡ number (8 * b) (λ t. entry row (from + t))
  unfolding held_bits
  block-number j from x h e is = is ∙ number-ext (8 * b) (λ t u. sym (
      (let q : from + t ≡ length (level_row k words) + (8 * b * j + t) = omega (arith, e, level-row-length k words) in ap (entry row) q)
      ∙ get_or-append-add (level_row k words) (block_messages b (blocks k) v) (8 * b * j + t) 0
      ∙ blocks_at b (blocks k) j t v grade v-long h u))

  -- as many bytes as hold the bits are the message
  pub all-bytes : (n : ℕ) (before : List ℕ) → length before ≡ message_bytes k b → message_bits k b ≤ 8 * n → written_over n row before ≡ held_message k b f words
  unfolding held_message message_bytes
  all-bytes n before e h = written_all n row before (omega (arith, e)) ∙ ap (λ (m : ℕ). bytes_of m (entry row)) e
