-- Nearness as a sum over positions. Assumes nothing.
use Prim.Native.Nat.{ℕ, zero, suc}
use mathlib.Core.Path.{◌≡◌, refl, sym, ap, ◌∙◌}
use mathlib.Core.List.{List, [], ◌∷◌}
use lib.ListN.{length, length-map}
use lib.IntN.{ℤ, pos, ◌-ℤ◌, ◌*ℤ◌}
use Rattle.bits.specs.Number.{sum_to}
use Rattle.bits.proofs.Sum.{sum-ext}
use Rattle.e8.specs.Energy.{sq}
use Rattle.frames.proofs.Frame.{at}
use Rattle.frames.proofs.Distance.{distance-sum}
use Rattle.near_frames.specs.Near.{frame_in_256ths, nearness}

in256-length : (f : List ℤ) → length (frame_in_256ths f) ≡ length f
unfolding frame_in_256ths
in256-length f = length-map f (λ z. pos 256 *ℤ z)

in256-at : (f : List ℤ) (p : ℕ) → at (frame_in_256ths f) p ≡ pos 256 *ℤ at f p
unfolding frame_in_256ths
in256-at [] zero = refl
in256-at [] (suc p) = refl
in256-at (z ∷ f) zero = refl
in256-at (z ∷ f) (suc p) = in256-at f p

pub nearness-sum : (n : ℕ) (f t : List ℤ) → length f ≡ n → length t ≡ n → nearness f t ≡ sum_to n (λ p. sq (pos 256 *ℤ at f p -ℤ at t p))
unfolding nearness
nearness-sum n f t lf lt =
    distance-sum (frame_in_256ths f) t (in256-length f ∙ lf ∙ sym lt)
    ∙ ap (λ (m : ℕ). sum_to m (λ p. sq (at (frame_in_256ths f) p -ℤ at t p))) (in256-length f ∙ lf)
    ∙ sum-ext n (λ p h. ap (λ (z : ℤ). sq (z -ℤ at t p)) (in256-at f p))
