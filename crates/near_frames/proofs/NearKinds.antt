-- The kinds that have a near reading. Assumes nothing.
use Prim.Native.Nat.{ℕ, zero, suc, ◌^◌, ◌≤◌, ◌<◌}
use mathlib.Core.Path.{◌≡◌, refl, ap, ◌∙◌}
use mathlib.Core.Bool.{Bool, true, false, ◌&&◌, and-false}
use native.Mathlib.Omega.{arith}
use lib.Dec.{leb}
use borrow.Author.Tests.{leb-true, le-leb, lt-leb}
use Rattle.frames.specs.Kind.{kinds, is_kind}
use Rattle.e8.proofs.Within.{and_both}
use Rattle.near_frames.specs.Near.{near_kind}

pub low-kind : (k : ℕ) → near_kind k ≡ true → 3 ≤ k
unfolding near_kind
low-kind k e = leb-true 3 k (and_both (leb 3 k) (leb k 5) e).0

pub high-kind : (k : ℕ) → near_kind k ≡ true → k ≤ 5
unfolding near_kind
high-kind k e = leb-true k 5 (and_both (leb 3 k) (leb k 5) e).1

-- what holds at 3, 4 and 5 holds at each
pub each-near : (P : ℕ → Type 0) → P 3 → P 4 → P 5 → (k : ℕ) → near_kind k ≡ true → P k
each-near P a b c k e = go k (low-kind k e) (high-kind k e)
  where
    go : (k : ℕ) → 3 ≤ k → k ≤ 5 → P k
    go zero l h = absurd (omega arith)
    go (suc zero) l h = absurd (omega arith)
    go (suc (suc zero)) l h = absurd (omega arith)
    go (suc (suc (suc zero))) l h = a
    go (suc (suc (suc (suc zero)))) l h = b
    go (suc (suc (suc (suc (suc zero))))) l h = c
    go (suc (suc (suc (suc (suc (suc k)))))) l h = absurd (omega arith)

-- they are kinds
pub near-is-kind : (k : ℕ) → near_kind k ≡ true → is_kind k ≡ true
unfolding is_kind kinds
near-is-kind = each-near (λ k. is_kind k ≡ true) refl refl refl

pub record Size (k : ℕ) : Type 0 where
  pub low : 3 ≤ k
  pub high : k ≤ 5
  pub positions : 2 ^ k ≤ 32

pub size : (k : ℕ) → near_kind k ≡ true → Size k
size = each-near Size
    (record { low = omega arith; high = omega arith; positions = omega arith })
    (record { low = omega arith; high = omega arith; positions = omega arith })
    (record { low = omega arith; high = omega arith; positions = omega arith })

-- ---- by the tests of the code

pub kind-low : (k : ℕ) → k < 3 → near_kind k ≡ false
unfolding near_kind
kind-low k h = rw (lt-leb 3 k h)

pub kind-high : (k : ℕ) → 5 < k → near_kind k ≡ false
unfolding near_kind
kind-high k h = ap (λ (t : Bool). leb 3 k && t) (lt-leb k 5 h) ∙ and-false (leb 3 k)

pub kind-between : (k : ℕ) → 3 ≤ k → k ≤ 5 → near_kind k ≡ true
unfolding near_kind
kind-between k l h = rw (le-leb 3 k l, le-leb k 5 h)
