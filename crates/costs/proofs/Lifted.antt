-- The nearest multiple, by a sample that is moved up by a multiple of 2·H, as a natural number y. Assumes nothing.
use Prim.Native.Nat.{ℕ, ◌+◌, ◌-◌, ◌*◌, ◌/◌, ◌%◌, ◌≤◌, ◌<◌}
use mathlib.Core.Path.{◌≡◌, refl, sym, ap, ◌∙◌, subst}
use native.Mathlib.Nat.{div-add-mod', mod-lt}
use mathlib.Core.Logic.{inl, inr}
use native.Mathlib.Omega.{arith}
use lib.IntN.{ℤ, pos, negsuc, ◌+ℤ◌, ◌-ℤ◌, ◌*ℤ◌, nat_abs}
use lib.Dec.{T}
use lib.Signed.{non_neg}
use mir.Syntax.{w32}
use mir.Val.{SFits}
use Rattle.integers.proofs.Zed.{`◌, #◌, ◌⊕◌, ◌⊖◌, ◌⊗◌, up, down, eq!, eq?, sfits!, abs-le}
use Rattle.integers.proofs.Floor.{quot_is, rem_is}
use Rattle.e8.specs.Energy.{sq}
use Rattle.costs.specs.Costs.{nearest, gap, Half}
use Rattle.near_frames.proofs.Squares.{le-abs}
use Rattle.costs.proofs.Nearest.{gap-offset}

module _ (H : ℕ) (h : 0 < H) (x : ℤ) (y m : ℕ) (e : pos y ≡ x +ℤ pos H +ℤ pos (2 * H * m)) where
  split : x +ℤ pos H ≡ pos (2 * H) *ℤ (pos (y / (2 * H)) -ℤ pos m) +ℤ pos (y % (2 * H))
  split = eq! (` x ⊕ # H) (# (2 * H) ⊗ (# (y / (2 * H)) ⊖ # m) ⊕ # (y % (2 * H)))
      (omega (arith, eq? (# y) (` x ⊕ # H ⊕ # (2 * H * m)) e, div-add-mod' y (2 * H)))

  low : y % (2 * H) < 2 * H
  low = mod-lt y (omega arith)

  lifted-gap : sq (pos (y % (2 * H)) -ℤ pos H) ≡ gap H x
  lifted-gap =
      ap (λ (r : ℕ). sq (pos r -ℤ pos H)) (sym (rem_is (x +ℤ pos H) (2 * H) (pos (y / (2 * H)) -ℤ pos m) (y % (2 * H)) low split))
      ∙ sym (gap-offset H h x)

  lifted-nearest : nearest H x ≡ pos (y / (2 * H)) -ℤ pos m
  unfolding nearest
  lifted-nearest = quot_is (x +ℤ pos H) (2 * H) (pos (y / (2 * H)) -ℤ pos m) (y % (2 * H)) low split

-- the size of a difference of natural numbers
pub abs-difference : (e h : ℕ) → nat_abs (pos e -ℤ pos h) ≡ h - e + (e - h)
abs-difference e h = omega (arith, (le-abs z).0, (le-abs z).1, u, abs-le z (h - e + (e - h)) (omega (arith, u)) (omega (arith, u)))
  where
    z : ℤ
    z = pos e -ℤ pos h

    u : up z + h ≡ e + down z
    u = omega (arith, eq? (` z) (# e ⊖ # h) (eq! (# e ⊖ # h) (# e ⊖ # h) (omega arith)))

-- ---- a sample moved up by 65,536

module _ (t : ℤ) (small : nat_abs t ≤ 32768) where
  pub lifted-fits : SFits w32 (t +ℤ pos 65536)
  lifted-fits = sfits! w32 (` t ⊕ # 65536) (omega (arith, (le-abs t).0)) (omega (arith, (le-abs t).1))

  pub lifted-range : (u : ℕ) → pos u ≡ t +ℤ pos 65536 → (32768 ≤ u) × (u ≤ 98304)
  lifted-range u e = let q = eq? (# u) (` t ⊕ # 65536) e in (omega (arith, q, (le-abs t).1), omega (arith, q, (le-abs t).0))

  -- the sample less c whole numbers, with H added, moved up
  lifted-less : (u c H m : ℕ) → pos u ≡ t +ℤ pos 65536 → 65536 ≡ 2 * H * m → 256 * c ≤ 1024
      → pos (u + H - 256 * c) ≡ t -ℤ pos (256 * c) +ℤ pos H +ℤ pos (2 * H * m)
  lifted-less u c H m e q l =
      eq! (# (u + H - 256 * c)) (` t ⊖ # (256 * c) ⊕ # H ⊕ # (2 * H * m))
      (omega (arith, (lifted-range u e).0, q, eq? (# u) (` t ⊕ # 65536) e))

  pub lifted-natural : (z : ℤ) → z ≡ t +ℤ pos 65536 → pos (nat_abs z) ≡ z
  lifted-natural (pos n) e = refl
  lifted-natural (negsuc n) e = absurd (omega (arith, (le-abs t).1, eq? (` (negsuc n)) (` t ⊕ # 65536) e))

pub natural-sign : (z : ℤ) → pos (nat_abs z) ≡ z → T (non_neg z)
natural-sign z e = subst (λ (y : ℤ). T (non_neg y)) e tt

-- ---- what is computed from a sample moved up, u, and a residue c

module _ (t : ℤ) (small : nat_abs t ≤ 32768) (u c : ℕ) (e : pos u ≡ t +ℤ pos 65536) where
  abbrev At : ℕ → Type 0
  At h = sq (pos ((u + h - 256 * c) % (2 * h)) -ℤ pos h) ≡ gap h (t -ℤ pos (256 * c))

  pub half-gap : c < 4 → (h : ℕ) → Half h → sq (pos ((u + h - 256 * c) % (2 * h)) -ℤ pos h) ≡ gap h (t -ℤ pos (256 * c))
  half-gap l h (inl q) =
      subst At (sym q)
      (lifted-gap 256 (omega arith) (t -ℤ pos (256 * c)) (u + 256 - 256 * c) 128 (lifted-less t small u c 256 128 e refl (omega arith)))
  half-gap l h (inr q) =
      subst At (sym q)
      (lifted-gap 512 (omega arith) (t -ℤ pos (256 * c)) (u + 512 - 256 * c) 64 (lifted-less t small u c 512 64 e refl (omega arith)))

  pub residue-number : c < 4 → pos (4 * ((u + 512 - 256 * c) / 1024) + c) -ℤ pos 256 ≡ pos 4 *ℤ nearest 512 (t -ℤ pos (256 * c)) +ℤ pos c
  residue-number h =
      let q : ℕ = (u + 512 - 256 * c) / 1024 in
      let n : ℤ = nearest 512 (t -ℤ pos (256 * c)) in
      eq! (# (4 * q + c) ⊖ # 256) (# 4 ⊗ ` n ⊕ # c)
      (omega (
        arith,
        eq? (` n) (# q ⊖ # 64)
            (lifted-nearest 512 (omega arith) (t -ℤ pos (256 * c)) (u + 512 - 256 * c) 64 (lifted-less t small u c 512 64 e refl (omega arith))),
      ))

pub half-small : (h : ℕ) → Half h → (0 < h) × (h ≤ 512)
half-small h (inl q) = (omega arith, omega arith)
half-small h (inr q) = (omega arith, omega arith)
