-- Bits gathered at the entries of a table, of masks or of places, eight at a time, into a number of 64 digits. Assumes nothing.
use Prim.Native.Nat.{ℕ, suc, ◌+◌, ◌-◌, ◌*◌, ◌/◌, ◌%◌, ◌^◌, ◌≤◌, ◌<◌}
use mathlib.Core.Path.{◌≡◌, refl, sym, ap, ◌∙◌}
use mathlib.Core.List.{List, [], ◌∷◌, map, reverse}
use Rattle.std.proofs.Common.{fold, one-add}
use Rattle.std.proofs.lemmas.List.{reverse-append, map-append, get_or-reverse, length-reverse, length-take-le, get_or-take, get_or-drop, length-drop, get_or_default}
use Rattle.std.proofs.lemmas.List.Sums.{fold_push}
use Rattle.std.proofs.lemmas.Nat.{shl_whole, or_shifted, or_comm}
use lib.Bits.{bit_or}
use Rattle.level_tables.specs.Entries.{Below64}
use native.Mathlib.Omega.{arith}
use lib.ListN.{length, get_or, take, drop}
use Rattle.bits.specs.Number.{sum_to, number}
use Rattle.bits.proofs.Message.{number_lt, number-ext, number-join}
use Rattle.bits.proofs.Digits.{digit, digit-small}
use Rattle.reed_muller.specs.Level.{order, place}
use Rattle.level_tables.proofs.MaskTables.{Right, mask-entry, place-entry}

-- the bits at the entries of a table from entry n on
abbrev pub bits_from : List ℕ → ℕ → ℕ → ℕ → ℕ
bits_from es bits n k = digit bits (get_or es (n + k) 0)

-- ---- eight entries of a table, the last first, as the code takes them

-- a bit put below the others, in a number of 64 digits
abbrev pub with_bit : ℕ → ℕ → ℕ
with_bit b bit = bit_or (b * 2 % 2 ^ 64) bit

module _ (bits : ℕ) where
  with_first : (e : ℕ) (es : List ℕ) → length es < 64
      → with_bit (number (length es) (λ k. digit bits (get_or es k 0))) (digit bits e) ≡ number (suc (length es)) (λ k. digit bits (get_or (e ∷ es) k 0))
  unfolding sum_to
  with_first e es l =
      let n : ℕ = length es in
      let w : ℕ = number n (λ k. digit bits (get_or es k 0)) in
      let few : w < 2 ^ n = number_lt _ n (λ k _. digit-small bits (get_or es k 0)) in
      let up : 1 + n ≡ suc n = omega arith in
      ap (λ (y : ℕ). bit_or y (digit bits e)) (shl_whole w n 1 64 few (omega arith)) ∙ or_shifted w 1 (digit bits e) (digit-small bits e)
      ∙ omega (
        arith,
        number-join 1 n (λ k. digit bits (get_or (e ∷ es) k 0)),
        number-ext n (λ t _. ap (λ (k : ℕ). digit bits (get_or (e ∷ es) k 0)) (one-add t)),
        ap (λ (k : ℕ). number k (λ k. digit bits (get_or (e ∷ es) k 0))) up,
      )

  fold-bits : (es : List ℕ) → length es ≤ 64 → fold with_bit 0 (map (digit bits) (reverse es)) ≡ number (length es) (λ k. digit bits (get_or es k 0))
  unfolding sum_to
  fold-bits [] l = refl
  fold-bits (e ∷ es) l =
      ap (λ (xs : List ℕ). fold with_bit 0 (map (digit bits) xs)) (reverse-append (e ∷ []) es)
      ∙ ap (fold with_bit 0) (map-append (digit bits) (reverse es) (e ∷ []))
      ∙ fold_push with_bit 0 (map (digit bits) (reverse es)) (digit bits e) ∙ ap (λ (w : ℕ). with_bit w (digit bits e)) (fold-bits es (omega arith))
      ∙ with_first e es (omega arith)

-- a part of eight entries
module _ (es : List ℕ) (from n : ℕ) (eight : n ≡ 8) (room : from + 8 ≤ length es) where
  long : length (take n (drop from es)) ≡ 8
  long = length-take-le n (drop from es) (rw length-drop (omega arith)) ∙ eight

  part_at : (k d : ℕ) → k < 8 → get_or (take n (drop from es)) k d ≡ get_or es (from + k) d
  part_at k d h = get_or-take n (drop from es) k d (omega arith) ∙ get_or-drop from es k d

  pub part_below : Below64 es → (x k : ℕ) → k < length (reverse (take n (drop from es))) → x ≡ get_or (reverse (take n (drop from es))) k x → x < 64
  part_below b x k l e =
      let part : List ℕ = take n (drop from es) in
      let h : k < length part = omega (arith, length-reverse part) in
      let i : ℕ = length part - 1 - k in
      let d : from + i < length es = omega (arith, long) in
      omega (arith, e, get_or-reverse part k x h, part_at i x (omega (arith, long)), get_or_default es (from + i) x 0 d, b.below (from + i) d)

  pub fold-part : (bits : ℕ) → fold with_bit 0 (map (λ entry. bits / 2 ^ entry % 2) (reverse (take n (drop from es)))) ≡ number 8 (bits_from es bits from)
  fold-part bits =
      let part : List ℕ = take n (drop from es) in
      fold-bits bits part (omega (arith, long)) ∙ ap (λ (m : ℕ). number m (λ k. digit bits (get_or part k 0))) long
      ∙ number-ext 8 (λ k h. ap (digit bits) (part_at k 0 h))

-- ---- all entries of a table, eight at a time

-- the bits at the entries of a table
abbrev pub entry_bits : List ℕ → ℕ → ℕ → ℕ
entry_bits es bits k = digit bits (get_or es k 0)

-- eight more
pub eight_more : (es : List ℕ) (bits n : ℕ) {word y : ℕ} → n + 8 ≤ 64 → word ≡ number n (entry_bits es bits) → y ≡ number 8 (bits_from es bits n)
    → bit_or word (y * 2 ^ n % 2 ^ 64) ≡ number (n + 8) (entry_bits es bits)
eight_more es bits n {word} {y} room e d =
    let few : word < 2 ^ n = rw e (number_lt _ n (λ k _. digit-small bits (get_or es k 0))) in
    let eight : y < 2 ^ 8 = rw d (number_lt _ 8 (λ k _. digit-small bits (get_or es (n + k) 0))) in
    ap (bit_or word) (shl_whole y 8 n 64 eight (omega arith)) ∙ or_comm word (y * 2 ^ n) ∙ or_shifted y n word few
    ∙ omega (arith, e, ap (λ (x : ℕ). x * 2 ^ n) d, number-join n 8 (entry_bits es bits))

-- at the masks of the order, and at the first of them, as many as are asked for
pub all-masks : {m n : ℕ} → m ≡ n → {os ps ds : List ℕ} → Right n os ps ds → (bits count : ℕ)
    → number count (entry_bits os bits) ≡ number count (entry_bits (order m) bits)
all-masks e t bits count = number-ext count (λ k l. ap (digit bits) (mask-entry e t k))

pub first-masks : {m n : ℕ} → m ≡ n → {os ps ds : List ℕ} → Right n os ps ds → (bits len : ℕ) {count : ℕ} → count ≤ len
    → number count (entry_bits (take len os) bits) ≡ number count (entry_bits (order m) bits)
first-masks e {os} t bits len {count} h = number-ext count (λ k l. ap (digit bits) (get_or-take len os k 0 (omega arith))) ∙ all-masks e t bits count

-- at the places of all masks
pub all-places : {m n : ℕ} → m ≡ n → {os ps ds : List ℕ} → Right n os ps ds → (bits : ℕ)
    → number (2 ^ n) (entry_bits ps bits) ≡ number (2 ^ m) (λ S. digit bits (place (order m) S))
all-places {m} {n} e t bits =
    number-ext (2 ^ n) (λ S l. ap (digit bits) (place-entry e t S l)) ∙ ap (λ (x : ℕ). number (2 ^ x) (λ S. digit bits (place (order m) S))) (sym e)
