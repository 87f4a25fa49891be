use Rattle.std.proofs.Common.{◌≡◌, ℕ, ◌-◌, ◌*◌, ◌^◌, ◌%◌, ◌<◌, ◌≤◌, List, length, get_or, refl, sym, ap, ap₂, ◌∙◌, ℤ, pos, w32, arith, rules}
use native.Mathlib.Nat.{mul_comm}
use Rattle.integers.proofs.Zed.{tz}
use Rattle.bits.proofs.Digits.{digit, moved_up}
use Rattle.e8.proofs.Within.{within-at}
use Rattle.coordinates.proofs.Reading.{plain, plain_size}
use Rattle.coordinates.proofs.Filled.{filled_none, filled_next, filled-all}
use Rattle.frames.specs.Message.{widths, numbers}
use Rattle.filling_search.specs.Filling.{filling_numbers, shift}
use Rattle.filling_search.proofs.Tried.{filling-small, shifted-size, shifted_at}
use Rattle.filling_search.proofs.shifted_block.Goals as goal

-- the numbers of the filling
numbers-are : {b f φ : ℕ} {s : List ℕ} → b ≤ 4 → φ < 2 ^ f → f ≤ 4 → 1 ≤ b
    → s ≡ numbers (digit (φ * 2 ^ (8 * b - f) % 2 ^ 64)) 0 (widths b) → s ≡ filling_numbers b f φ
unfolding filling_numbers
numbers-are {b} {f} {φ} high small few low e =
    let h : ℕ = 8 * b - f in
    e ∙ ap (λ (w : ℕ). numbers (digit w) 0 (widths b)) (moved_up φ h f 64 small (omega arith) ∙ mul_comm (2 ^ h) φ)

pub loop-i-init : goal.loop-i-init
loop-i-init c =
    let g = c.args in
    let eight : length g.x ≡ 8 = search rules in
    filled_none _ _ (eight ∙ sym (shifted-size g.a g.grade g.free g.phi g.x eight g.off))

pub shifted-requires : goal.shifted-requires
shifted-requires c =
    let g = c.args in
    let i = c.loop-i.i in
    let ns = numbers-are c.requires.2 c.requires.4 c.requires.3 c.requires.1 c.unpacked_by-s.ensures in (
      c.requires.0,
      omega (arith, ap (λ (ns : List ℕ). get_or ns i 0) ns, filling-small g.grade g.free g.phi i c.requires.2 (omega arith)),
      plain_size (get_or g.x i (pos 0)) (2 ^ 9) (within-at (2 ^ 9) g.x i c.requires.5) (omega arith),
    )

pub loop-i-preserved : goal.loop-i-preserved
loop-i-preserved c =
    let g = c.args in
    let i = c.loop-i.i in
    let eight : length g.x ≡ 8 = search rules in
    let ns = numbers-are c.requires.2 c.requires.4 c.requires.3 c.requires.1 c.unpacked_by-s.ensures in
    filled_next (pos 0) _ c.loop-i.r i _ c.loop-i.invariant (omega (arith, shifted-size g.a g.grade g.free g.phi g.x eight g.off))
    (tz {w = w32} refl (record { sfits = c.shifted.type_inv }) ∙ c.shifted.ensures
    ∙ ap₂ (λ (z : ℤ) (ns : List ℕ). shift g.off g.a (get_or ns i 0) z) (plain (get_or g.x i (pos 0)) (omega (arith, within-at (2 ^ 9) g.x i c.requires.5))) ns
    ∙ sym (shifted_at g.a g.grade g.free g.phi g.x eight g.off i (omega arith)))

pub returns : goal.returns
returns c =
    let g = c.args in
    let eight : length g.x ≡ 8 = search rules in
    filled-all _ _ c.loop-i.i c.loop-i.invariant (omega (arith, shifted-size g.a g.grade g.free g.phi g.x eight g.off))
