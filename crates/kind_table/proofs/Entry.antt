-- What the row of a kind holds, entry by entry: the number of levels, the degree of each level, the message bits. Assumes nothing.
use Prim.Native.Nat.{ℕ, zero, suc, ◌<◌}
use mathlib.Core.Path.{◌≡◌, refl, ap, ◌∙◌}
use mathlib.Core.Bool.{true}
use mathlib.Core.List.{List}
use native.Mathlib.Omega.{arith}
use lib.ListN.{get_or}
use Rattle.frames.specs.Kind.{is_kind, degrees, levels, level_bits}
use Rattle.frames.proofs.Limits.{few-levels}
use Rattle.kind_table.specs.declared.Kind.{Kind}
use Rattle.kind_table.specs.Table.{three, row_of}

three-at : (rs : List ℕ) (i : ℕ) → i < 3 → get_or (three rs) i 0 ≡ get_or rs i 0
three-at rs zero h = refl
three-at rs (suc zero) h = refl
three-at rs (suc (suc zero)) h = refl
three-at rs (suc (suc (suc i))) h = absurd (omega arith)

-- a level of a kind has a place in the row
pub place : (k : ℕ) → is_kind k ≡ true → (i : ℕ) → i < levels k → i < 3
place k kind i h = omega (arith, few-levels k kind)

module _ (k : ℕ) (r : Kind) (is : r ≡ row_of k) where
  pub entry-levels : r.levels ≡ levels k
  unfolding row_of
  entry-levels = ap (λ (r : Kind). r.levels) is

  pub entry-bits : r.bits ≡ level_bits k
  unfolding row_of
  entry-bits = ap (λ (r : Kind). r.bits) is

  pub entry-degree : is_kind k ≡ true → (i : ℕ) → i < levels k → get_or r.degrees i 0 ≡ get_or (degrees k) i 0
  unfolding row_of
  entry-degree kind i h = ap (λ (r : Kind). get_or r.degrees i 0) is ∙ three-at (degrees k) i (place k kind i h)
