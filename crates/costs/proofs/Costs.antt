-- The costs of both parities of each sample, and those of keeping and changing each bit of a word of level 1, by what stands at each place. Assumes nothing.
use Prim.Native.Nat.{ℕ, ◌+◌, ◌*◌, ◌/◌, ◌%◌, ◌^◌, ◌≤◌, ◌<◌}
use mathlib.Core.Path.{◌≡◌, sym, ap, ap₂, ◌∙◌}
use mathlib.Core.List.{List}
use native.Mathlib.Decide.{dec_lt}
use native.Mathlib.Omega.{arith}
use lib.ListN.{length, get_or, get_or-eq_default}
use lib.IntN.{ℤ, pos, ◌-ℤ◌}
use Rattle.bits.specs.Number.{table, bit_of}
use Rattle.bits.proofs.Table.{length-table, table_at}
use Rattle.bits.proofs.Message.{bytes-are}
use Rattle.costs.specs.Costs.{cost_at, parity_costs, change_costs}
use Rattle.costs.proofs.Nearest.{gap-small}

module _ (t : List ℤ) where
  abbrev at_place : ℕ → ℕ
  at_place i = cost_at 256 t (i / 2) (i % 2)

  pub parity-costs-length : length (parity_costs t) ≡ 2 * length t
  unfolding parity_costs
  parity-costs-length = length-table at_place (2 * length t)

  pub parity-costs-at : (p c : ℕ) → p < length t → c < 2 → get_or (parity_costs t) (2 * p + c) 0 ≡ cost_at 256 t p c
  unfolding parity_costs
  parity-costs-at p c h l =
      let q : (2 * p + c) / 2 ≡ p = omega arith in
      let r : (2 * p + c) % 2 ≡ c = omega arith in
      table_at at_place (2 * length t) (2 * p + c) (omega arith) ∙ ap₂ (cost_at 256 t) q r

  -- no other list has them
  pub parity-costs-are : (costs : List ℕ) → length costs ≡ 2 * length t
      → ((i : ℕ) → i < 2 * length t → get_or costs i 0 ≡ cost_at 256 t (i / 2) (i % 2)) → costs ≡ parity_costs t
  unfolding parity_costs
  parity-costs-are costs l e =
      sym (bytes-are costs at_place (λ i h. sym (e i (omega (arith, h, l))))) ∙ ap (λ (n : ℕ). table n at_place) l

module _ (t : List ℤ) (a base : ℕ) where
  abbrev value : ℕ → ℕ
  value i = cost_at 512 t (i / 2) (bit_of a (i / 2) + 2 * ((bit_of base (i / 2) + i % 2) % 2))

  pub change-costs-length : length (change_costs t a base) ≡ 2 * length t
  unfolding change_costs
  change-costs-length = length-table value (2 * length t)

  pub change-costs-at : (p c : ℕ) → p < length t → c < 2
      → get_or (change_costs t a base) (2 * p + c) 0 ≡ cost_at 512 t p (bit_of a p + 2 * ((bit_of base p + c) % 2))
  unfolding change_costs
  change-costs-at p c h l =
      let q : (2 * p + c) / 2 ≡ p = omega arith in
      let r : (2 * p + c) % 2 ≡ c = omega arith in
      table_at value (2 * length t) (2 * p + c) (omega arith)
      ∙ ap₂ (λ (q r : ℕ). cost_at 512 t q (bit_of a q + 2 * ((bit_of base q + r) % 2))) q r

  pub change-costs-low : (i : ℕ) → get_or (change_costs t a base) i 0 ≤ 2 ^ 20
  unfolding change_costs
  change-costs-low i = go (dec_lt i (2 * length t))
    where
      c : ℕ
      c = bit_of a (i / 2) + 2 * ((bit_of base (i / 2) + i % 2) % 2)

      go : Dec (i < 2 * length t) → get_or (table (2 * length t) value) i 0 ≤ 2 ^ 20
      go (yes l) = omega (arith, table_at value (2 * length t) i l, gap-small 512 (omega arith) (get_or t (i / 2) (pos 0) -ℤ pos (256 * c)))
      go (no l) =
          let past : length (table (2 * length t) value) ≤ i = omega (arith, length-table value (2 * length t)) in
          omega (arith, get_or-eq_default (table (2 * length t) value) 0 past)
