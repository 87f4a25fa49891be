-- An account grown by frames from the beginning, of any changeover t, holds the largest block energy among them. Assumes nothing.
use Prim.Native.Nat.{ℕ, zero, suc, max, ◌<◌, ◌≤◌}
use mathlib.Core.Path.{◌≡◌, refl, sym, ◌∙◌}
use mathlib.Core.Logic.{◌⊎◌, inl, inr}
use mathlib.Core.List.{List, [], ◌∷◌}
use native.Mathlib.Nat.{le_refl, le_trans, le-max_left, le-max_right, zero-max}
use native.Mathlib.Omega.{arith}
use lib.IntN.{ℤ}
use lib.ListN.{length, get_or}
use Rattle.e8.specs.Energy.{energy}
use Rattle.e8.specs.Lattice.{part}
use Rattle.e8.specs.Largest.{blocks_of, largest_block}
use Rattle.e8.proofs.Largest.{one_of, largest-is}
use Rattle.power_account.specs.declared.Account.{Account}
use Rattle.power_account.specs.Power.{begun, grown}
use Rattle.power_account.specs.History.{SomeBlock, LargestOf}
use Rattle.power_account.proofs.Grown.{grown_by, Countable, AllCountable}

-- no figure becomes smaller
not-less : (fs : List (List ℤ)) (a : Account) → a.largest ≤ (grown_by a fs).largest
unfolding grown_by
not-less [] a = le_refl a.largest
not-less (f ∷ fs) a = le_trans (le-max_left a.largest (largest_block f)) (not-less fs (grown a f))

module _ (m : ℕ) where
  -- no block has more
  no_more : (fs : List (List ℤ)) (a : Account) → AllCountable m fs → (j i : ℕ) → j < length fs → i < blocks_of (get_or fs j [])
      → energy (part i (get_or fs j [])) ≤ (grown_by a fs).largest
  unfolding grown_by
  no_more [] a c j i l h = absurd (omega arith)
  no_more (f ∷ fs) a c zero i l h =
      le_trans ((largest-is f c.0.blocks).most i h) (le_trans (le-max_right a.largest (largest_block f)) (not-less fs (grown a f)))
  no_more (f ∷ fs) a c (suc j) i l h = no_more fs (grown a f) c.1 j i (omega arith) h

  -- the largest block of the first frame, and some block of the frames behind it
  first : (f : List ℤ) (fs : List (List ℤ)) (r : ℕ) → Countable m f → r ≡ largest_block f → SomeBlock (f ∷ fs) r
  first f fs r c e =
      let g = largest-is f c.blocks in
      record { frame = 0; sent = omega arith; block = g.block; inside = g.inside; has = g.has ∙ sym e }

  behind : (f : List ℤ) (fs : List (List ℤ)) (r : ℕ) → SomeBlock fs r → SomeBlock (f ∷ fs) r
  behind f fs r s = record { frame = suc s.frame; sent = omega (arith, s.sent); block = s.block; inside = s.inside; has = s.has }

  -- the figure is the old one, or some block has it
  old-or-new : (fs : List (List ℤ)) (a : Account) → AllCountable m fs → ((grown_by a fs).largest ≡ a.largest) ⊎ SomeBlock fs (grown_by a fs).largest
  unfolding grown_by
  old-or-new [] a c = inl refl
  old-or-new (f ∷ fs) a c = go (old-or-new fs (grown a f) c.1) (one_of a.largest (largest_block f))
    where
      r : ℕ
      r = (grown_by (grown a f) fs).largest

      go : (r ≡ max a.largest (largest_block f)) ⊎ SomeBlock fs r
          → (max a.largest (largest_block f) ≡ a.largest) ⊎ (max a.largest (largest_block f) ≡ largest_block f)
          → (r ≡ a.largest) ⊎ SomeBlock (f ∷ fs) r
      go (inl e) (inl o) = inl (e ∙ o)
      go (inl e) (inr o) = inr (first f fs r c.0 (e ∙ o))
      go (inr s) o = inr (behind f fs r s)

  -- from the beginning, where a frame was sent, some block has it
  found : (t : ℕ) (fs : List (List ℤ)) → AllCountable m fs → 0 < length fs → SomeBlock fs (grown_by (begun t) fs).largest
  unfolding grown_by
  found t [] c h = absurd (omega arith)
  found t (f ∷ fs) c h = go (old-or-new fs (grown (begun t) f) c.1)
    where
      r : ℕ
      r = (grown_by (grown (begun t) f) fs).largest

      go : (r ≡ max 0 (largest_block f)) ⊎ SomeBlock fs r → SomeBlock (f ∷ fs) r
      go (inl e) = first f fs r c.0 (e ∙ zero-max (largest_block f))
      go (inr s) = behind f fs r s

  nothing : (t : ℕ) (fs : List (List ℤ)) → length fs ≡ 0 → (grown_by (begun t) fs).largest ≡ 0
  unfolding grown_by
  nothing t [] e = refl
  nothing t (f ∷ fs) e = absurd (omega arith)

  pub grown-largest : (t : ℕ) (fs : List (List ℤ)) → AllCountable m fs → LargestOf fs (grown_by (begun t) fs).largest
  grown-largest t fs c = record { most = no_more fs (begun t) c; some = found t fs c; none = nothing t fs }
