-- The nearest multiple of an even number. Assumes nothing.
use Prim.Native.Nat.{ℕ, zero, suc, ◌*◌, ◌≤◌, ◌<◌}
use mathlib.Core.Path.{◌≡◌, ap}
use mathlib.Core.Logic.{◌⊎◌, inl, inr}
use native.Mathlib.Nat.{le_trans}
use native.Mathlib.Omega.{arith}
use lib.IntN.{ℤ, pos, negsuc, ◌+ℤ◌, ◌-ℤ◌, ◌*ℤ◌, nat_abs}
use Rattle.integers.specs.Integer.{mod_z}
use Rattle.integers.proofs.Zed.{`◌, #◌, ◌⊕◌, ◌⊖◌, ◌⊗◌, eq!, eq?, abs-le}
use Rattle.integers.proofs.Floor.{div-mod, mod_z-lt}
use Rattle.e8.specs.Energy.{sq}
use Rattle.near_frames.proofs.Squares.{le-abs, square-mono}
use Rattle.costs.specs.Costs.{nearest, gap}

module _ (H : ℕ) (h : 0 < H) (x : ℤ) where
  abbrev q : ℤ
  q = nearest H x

  abbrev r : ℕ
  r = mod_z (x +ℤ pos H) (2 * H)

  split : x +ℤ pos H ≡ pos (2 * H) *ℤ q +ℤ pos r
  unfolding nearest
  split = div-mod (x +ℤ pos H) (2 * H) (omega arith)

  low : r < 2 * H
  low = mod_z-lt (x +ℤ pos H) (2 * H) (omega arith)

  offset : x -ℤ pos (2 * H) *ℤ q ≡ pos r -ℤ pos H
  offset = eq! (` x ⊖ # (2 * H) ⊗ ` q) (# r ⊖ # H) (omega (arith, eq? (` x ⊕ # H) (# (2 * H) ⊗ ` q ⊕ # r) split))

  -- it is at most H away
  nearest-within : nat_abs (x -ℤ pos (2 * H) *ℤ q) ≤ H
  nearest-within =
      let e = eq? (` (x -ℤ pos (2 * H) *ℤ q)) (# r ⊖ # H) offset in
      abs-le (x -ℤ pos (2 * H) *ℤ q) H (omega (arith, e, low)) (omega (arith, e, low))

  -- any other multiple is at least H away
  other-away : (j : ℤ) → (j ≡ q) ⊎ (H ≤ nat_abs (x -ℤ pos (2 * H) *ℤ j))
  other-away j = go (j -ℤ q) (eq! (` j) (` q ⊕ (` j ⊖ ` q)) (omega arith))
    where
      z : ℤ
      z = x -ℤ pos (2 * H) *ℤ j

      is : (d : ℤ) → j ≡ q +ℤ d → z ≡ pos r -ℤ pos H -ℤ pos (2 * H) *ℤ d
      is d e = eq! (` x ⊖ # (2 * H) ⊗ ` j) (# r ⊖ # H ⊖ # (2 * H) ⊗ ` d)
          (omega (arith, eq? (` x ⊖ # (2 * H) ⊗ ` q) (# r ⊖ # H) offset, ap (λ (n : ℕ). 2 * (H * n)) (eq? (` j) (` q ⊕ ` d) e)))

      go : (d : ℤ) → j ≡ q +ℤ d → (j ≡ q) ⊎ (H ≤ nat_abs z)
      go (pos zero) e = inl (eq! (` j) (` q) (omega (arith, eq? (` j) (` q ⊕ # 0) e)))
      go (pos (suc n)) e = inr (omega (arith, low, eq? (` z) (# r ⊖ # H ⊖ # (2 * H) ⊗ # (suc n)) (is (pos (suc n)) e), (le-abs z).1))
      go (negsuc n) e = inr (omega (arith, low, eq? (` z) (# r ⊖ # H ⊖ # (2 * H) ⊗ ` (negsuc n)) (is (negsuc n) e), (le-abs z).0))

  pub gap-offset : gap H x ≡ sq (pos (mod_z (x +ℤ pos H) (2 * H)) -ℤ pos H)
  unfolding gap
  gap-offset = ap sq offset

  pub gap-small : gap H x ≤ H * H
  unfolding gap sq
  gap-small = square-mono (nat_abs (x -ℤ pos (2 * H) *ℤ q)) H nearest-within

  -- no multiple of 2·H is nearer
  pub gap-least : (j : ℤ) → gap H x ≤ sq (x -ℤ pos (2 * H) *ℤ j)
  unfolding gap sq
  gap-least j = go (other-away j)
    where
      go : (j ≡ q) ⊎ (H ≤ nat_abs (x -ℤ pos (2 * H) *ℤ j)) → gap H x ≤ sq (x -ℤ pos (2 * H) *ℤ j)
      go (inl e) = omega (arith, ap (λ (i : ℤ). sq (x -ℤ pos (2 * H) *ℤ i)) e)
      go (inr l) = le_trans gap-small (square-mono H (nat_abs (x -ℤ pos (2 * H) *ℤ j)) l)

  -- one that is less than H away is the nearest
  pub gap-only : (j : ℤ) → sq (x -ℤ pos (2 * H) *ℤ j) < H * H → j ≡ q
  unfolding sq
  gap-only j l = go (other-away j)
    where
      go : (j ≡ q) ⊎ (H ≤ nat_abs (x -ℤ pos (2 * H) *ℤ j)) → j ≡ q
      go (inl e) = e
      go (inr u) = absurd (omega (arith, l, square-mono H (nat_abs (x -ℤ pos (2 * H) *ℤ j)) u))
