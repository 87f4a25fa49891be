-- Where a block's numbers begin among its message bits, and what stands over the levels. Assumes nothing.
use Prim.Native.Nat.{ℕ, zero, suc, ◌+◌, ◌-◌, ◌*◌, ◌≤◌, ◌<◌}
use mathlib.Core.Path.{◌≡◌, sym, ap₂, ◌∙◌}
use native.Mathlib.Omega.{arith}
use mathlib.Core.List.{List}
use lib.ListN.{get_or, take, drop}
use Rattle.bits.specs.Message.{message_bit}
use Rattle.bits.specs.Number.{number}
use Rattle.frames.specs.Message.{widths, numbers, stacked}
use Rattle.frames.specs.Kind.{degrees}
use Rattle.frames.proofs.Numbers.{total}
use Rattle.leader.proofs.BlockNumbers.{numbers-at}

-- the first has one bit less than the others
pub begins : (b o : ℕ) → 1 ≤ b → o < 8 → total (take o (widths b)) ≡ b * o - 1
begins b zero h l = omega arith
begins b (suc zero) h l = omega arith
begins b (suc (suc zero)) h l = omega arith
begins b (suc (suc (suc zero))) h l = omega arith
begins b (suc (suc (suc (suc zero)))) h l = omega arith
begins b (suc (suc (suc (suc (suc zero))))) h l = omega arith
begins b (suc (suc (suc (suc (suc (suc zero)))))) h l = omega arith
begins b (suc (suc (suc (suc (suc (suc (suc zero))))))) h l = omega arith
begins b (suc (suc (suc (suc (suc (suc (suc (suc o)))))))) h l = absurd (omega arith)

-- number o of a block, from its own bits
pub number_is : (bit : ℕ → ℕ) (from b o w at : ℕ) → o < 8 → w ≡ get_or (widths b) o 0 → at ≡ from + total (take o (widths b))
    → number w (λ t. bit (at + t)) ≡ get_or (numbers bit from (widths b)) o 0
number_is bit from b o w at h e f = ap₂ (λ (v n : ℕ). number v (λ t. bit (n + t))) e f ∙ sym (numbers-at bit from (widths b) o h)

-- s over the levels from i on
abbrev pub over : ℕ → List ℕ → ℕ → ℕ → ℕ → ℕ → ℕ
over k bytes s p from i = stacked k (drop i (degrees k)) (message_bit bytes) from s p
