-- Frames compared: the library's test is that of the data. Assumes nothing.
use Rattle.std.proofs.Common.{◌≡◌, Bool, true, false, List, ℤ, refl, ap, ◌∙◌}
use Rattle.std.specs.Bool.{Decides}
use Rattle.std.specs.Ordering.{int_eq}
use Rattle.std.specs.Cmp.Lexicographic.{pointwise}
use Rattle.std.proofs.lemmas.Slice.Eq.{slice_eq-Decides}
use Rattle.std.proofs.lemmas.Bool.Decides.{Decides-int_eq}
use Rattle.frames.specs.Reading.{same_frame}
use Rattle.frames.proofs.Refusals.{same-frame, frame_same}

same_truth : (r s : Bool) → (r ≡ true → s ≡ true) → (s ≡ true → r ≡ true) → r ≡ s
same_truth true true f g = refl
same_truth true false f g = let e = f refl in cc
same_truth false true f g = let e = g refl in cc
same_truth false false f g = refl

decided : (r : Bool) (x y : List ℤ) → Decides r (x ≡ y) → r ≡ same_frame x y
decided r x y d = same_truth r (same_frame x y) (λ e. ap (λ z. same_frame z y) (d.0 e) ∙ frame_same y) (λ e. d.1 (same-frame x y e))

-- SAME FRAMES: the library's test holds exactly of a frame and itself, and so does that of the data
pub pointwise-same : (x y : List ℤ) → pointwise int_eq x y ≡ same_frame x y
pointwise-same x y = decided (pointwise int_eq x y) x y (slice_eq-Decides Decides-int_eq x y (pointwise int_eq x y) refl)
