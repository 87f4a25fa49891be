-- THERE IS NEVER A SECOND ONE: at most one frame of the coding set is near to given samples. Assumes nothing.
use Prim.Native.Nat.{ℕ, ◌+◌, ◌*◌, ◌^◌, ◌≤◌, ◌<◌}
use mathlib.Core.Path.{◌≡◌, refl, sym, ap, ◌∙◌}
use mathlib.Core.Bool.{Bool, true, false, true≢false}
use mathlib.Core.List.{List, [], ◌∷◌}
use native.Mathlib.Omega.{arith}
use lib.ListN.{length}
use lib.IntN.{ℤ, pos, ◌-ℤ◌, ◌*ℤ◌}
use Rattle.integers.proofs.Zed.{`◌, #◌, ◌⊖◌, ◌⊗◌, eq! }
use Rattle.e8.specs.Energy.{sq, distance}
use Rattle.frames.specs.Frame.{least_distance}
use Rattle.frames.specs.Reading.{same_frame}
use Rattle.frames.proofs.Refusals.{same-frame, frame_same}
use Rattle.frames.proofs.Demands.{set_apart}
use Rattle.near_frames.specs.Near.{frame_in_256ths, near_kind, nearness, near_limit, IsNear}
use Rattle.near_frames.proofs.NearKinds.{each-near, near-is-kind}
use Rattle.near_frames.proofs.Squares.{sq-times, parallelogram}

sq-apart : (x y t : ℤ) → 65536 * sq (x -ℤ y) ≤ 2 * sq (pos 256 *ℤ x -ℤ t) + 2 * sq (pos 256 *ℤ y -ℤ t)
sq-apart x y t =
    omega (
      arith,
      sq-times 256 (x -ℤ y),
      parallelogram (pos 256 *ℤ x -ℤ t) (pos 256 *ℤ y -ℤ t) (pos 256 *ℤ (x -ℤ y))
          (eq! (# 256 ⊗ (` x ⊖ ` y)) (# 256 ⊗ ` x ⊖ ` t ⊖ (# 256 ⊗ ` y ⊖ ` t)) (omega arith)),
    )

-- the squared distance of two frames, by those from samples between them
pub between : (f g t : List ℤ) → length f ≡ length t → length g ≡ length t → 65536 * distance f g ≤ 2 * nearness f t + 2 * nearness g t
unfolding nearness frame_in_256ths distance
between [] g t lf lg = omega arith
between (x ∷ f) [] t lf lg = omega arith
between (x ∷ f) (y ∷ g) [] lf lg = absurd (omega arith)
between (x ∷ f) (y ∷ g) (z ∷ t) lf lg = omega (arith, sq-apart x y z, between f g t (omega arith) (omega arith))

-- the limit is a quarter of the least squared distance, in parts of 1 / 65,536
quarter : (k : ℕ) → near_kind k ≡ true → 4 * near_limit k ≡ 65536 * least_distance k
quarter = each-near (λ k. 4 * near_limit k ≡ 65536 * least_distance k) refl refl refl

-- less than half the least distance away is near
pub half-distance : (k : ℕ) → near_kind k ≡ true → (t f : List ℤ) → 4 * nearness f t < 65536 * least_distance k → nearness f t < near_limit k
half-distance k kind t f h = omega (arith, h, quarter k kind)

-- THE LAW
pub near-only : (k : ℕ) → near_kind k ≡ true → (t f g : List ℤ) → IsNear k t f → IsNear k t g → f ≡ g
near-only k kind t f g nf ng = go (same_frame f g) refl
  where
    apart : (f ≡ g → ⊥) → 4 * near_limit k ≤ 2 * nearness f t + 2 * nearness g t
    apart ne = omega (
      arith,
      quarter k kind,
      set_apart k (near-is-kind k kind) f g nf.coded ng.coded ne,
      between f g t (nf.coded.long ∙ sym nf.samples) (ng.coded.long ∙ sym nf.samples),
    )

    go : (s : Bool) → same_frame f g ≡ s → f ≡ g
    go true e = same-frame f g e
    go false e = absurd (omega (arith, nf.close, ng.close, apart (λ q. true≢false (sym (frame_same f) ∙ ap (same_frame f) q ∙ e))))
