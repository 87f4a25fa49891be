-- The coset leader, block by block, and the size of its coordinates. Assumes nothing.
use Prim.Native.Nat.{ℕ, ◌+◌, ◌*◌, ◌/◌, ◌%◌, ◌^◌, ◌≤◌, ◌<◌}
use mathlib.Core.Path.{◌≡◌, sym, ap, ap₂, ◌∙◌}
use mathlib.Core.Bool.{true}
use mathlib.Core.List.{List}
use native.Mathlib.Nat.{mul-le-mul}
use native.Mathlib.Omega.{arith}
use lib.ListN.{length, get_or}
use lib.Seq.{ext_get_or}
use lib.Pow.{pow_mono}
use lib.IntN.{ℤ, pos}
use Rattle.bits.specs.Number.{table}
use Rattle.bits.specs.Message.{message_bit}
use Rattle.bits.proofs.Message.{message-small}
use Rattle.bits.proofs.Table.{length-table, table_at}
use Rattle.e8.specs.Energy.{Within}
use Rattle.e8.proofs.Within.{within-to, within_all}
use Rattle.e8.specs.Lattice.{part}
use Rattle.e8.specs.Rows.{ints}
use Rattle.e8.proofs.Rows.{ints-length}
use Rattle.frames.specs.Kind.{is_kind, degrees, levels, blocks, level_bits}
use Rattle.frames.specs.Message.{block_numbers, stacked, coordinate, leader}
use Rattle.frames.proofs.Frame.{at, ints_at, part_length, part_at}
use Rattle.frames.proofs.One.{leader-length, leader-at}
use Rattle.frames.proofs.Limits.{few-levels, whole-blocks}
use Rattle.leader.specs.Words.{codewords_of, over_levels}
use Rattle.leader.proofs.BlockNumbers.{numbers-below}
use Rattle.leader.proofs.Stack.{stacked-below, stacked-words}

-- coordinate o of the block at position q: the block's numbers ns over the levels that the numbers ws hold
abbrev pub laid : ℕ → List ℕ → ℕ → List ℕ → ℕ → ℕ
laid a ws q ns o = over_levels a (λ i. get_or ws i 0 / 2 ^ (q + o) % 2) (get_or ns o 0)

module _ (k b : ℕ) (kind : is_kind k ≡ true) (bytes : List ℕ) where
  pub long : length (leader k b bytes) ≡ 8 * blocks k
  long = leader-length k b bytes ∙ sym (whole-blocks k kind)

  -- the code's block of the leader
  pub block-is : (j : ℕ) → j < blocks k
      → ints (table 8 (laid (levels k) (codewords_of k (message_bit bytes)) (8 * j) (block_numbers k b bytes j))) ≡ part j (leader k b bytes)
  unfolding coordinate
  block-is j h =
      ext_get_or (pos 0) _ (part j L) (ints-length (table 8 F) ∙ length-table F 8 ∙ sym (part_length L (blocks k) j long h))
      (λ o l. at-o o (omega (arith, l, ints-length (table 8 F), length-table F 8)))
    where
      L : List ℤ
      L = leader k b bytes

      W : List ℕ
      W = codewords_of k (message_bit bytes)

      N : ℕ → ℕ
      N o = get_or (block_numbers k b bytes j) o 0

      F : ℕ → ℕ
      F = laid (levels k) W (8 * j) (block_numbers k b bytes j)

      at-o : (o : ℕ) → o < 8 → at (ints (table 8 F)) o ≡ at (part j L) o
      at-o o ho =
          let p : 8 * j + o < 2 ^ k = omega (arith, whole-blocks k kind) in
          let ej : (8 * j + o) / 8 ≡ j = omega arith in
          let eo : (8 * j + o) % 8 ≡ o = omega arith in
          ints_at (table 8 F) o
          ∙ ap pos (table_at F 8 o ho ∙ sym (stacked-words k (message_bit bytes) (8 * j + o) p (omega (arith, few-levels k kind)) (N o))
          ∙ ap₂ (λ (i r : ℕ). stacked k (degrees k) (message_bit bytes) 0 (get_or (block_numbers k b bytes i) r 0) (8 * j + o)) (sym ej) (sym eo))
          ∙ sym (leader-at k b bytes (8 * j + o) p) ∙ sym (part_at L (blocks k) j long h o ho)

  -- ---- the leader's coordinates are small

  module _ (high : b ≤ 4) where
    number-below : (j r : ℕ) → r < 8 → get_or (block_numbers k b bytes j) r 0 < 32
    unfolding block_numbers
    number-below j r h = numbers-below (message_bit bytes) (message-small bytes) (level_bits k + 8 * b * j) b r high h

    coordinate-below : (p : ℕ) → coordinate k b bytes p ≤ 255
    unfolding coordinate levels
    coordinate-below p =
        let s : ℕ = get_or (block_numbers k b bytes (p / 8)) (p % 8) 0 in
        let l : s < 32 = number-below (p / 8) (p % 8) (omega arith) in
        let f : 2 ^ length (degrees k) * (s + 1) ≤ 8 * 32 = mul-le-mul {n₁ = 2 ^ length (degrees k)} {m₁ = s + 1} {n₂ = 8} {m₂ = 32} (pow_mono {j = 3} (few-levels k kind)) (omega arith) in
        omega (arith, stacked-below k (degrees k) (message_bit bytes) 0 s p)

    pub leader-near : Within (2 ^ 9) (leader k b bytes)
    leader-near =
        within_all (2 ^ 9) (leader k b bytes)
        (λ p l. rw (leader-at k b bytes p (omega (arith, leader-length k b bytes))) (omega (arith, coordinate-below p)))

    pub leader-within : Within (2 ^ 24) (leader k b bytes)
    leader-within = within-to (2 ^ 9) (2 ^ 24) (leader k b bytes) (omega arith) leader-near
