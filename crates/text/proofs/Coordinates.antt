-- Laws of the text of coordinates. Assumes nothing.
use Prim.Native.Nat.{ℕ, suc, ◌^◌, ◌≤◌, ◌<◌}
use native.Mathlib.Omega.{arith}
use mathlib.Core.Path.{◌≡◌, refl, ap, ◌∙◌}
use mathlib.Core.List.{List, [], ◌∷◌, ◌++◌, append_assoc, append-nil}
use lib.IntN.{ℤ, pos, negsuc, nat_abs}
use lib.ListN.{length, take, get_or}
use lib.Seq.{take-suc}
use mir.Syntax.{w32}
use mir.Val.{SFits}
use Rattle.text.specs.Text.{signed_of}
use Rattle.text.specs.Line.{coordinates_of}
use Rattle.text.proofs.Decimal.{length-signed}

-- an i32 is at most 11 bytes long
pub coordinate-short : (z : ℤ) → SFits w32 z → length (signed_of z) ≤ 11
coordinate-short z f = length-signed 9 z (small z f)
  where
    small : (z : ℤ) → SFits w32 z → nat_abs z < 10 ^ 10
    small (pos n) f = omega (arith, f.sfits)
    small (negsuc n) f = omega (arith, f.sfits)

coordinates-append : (s t : List ℤ) → coordinates_of (s ++ t) ≡ coordinates_of s ++ coordinates_of t
unfolding coordinates_of
coordinates-append [] t = refl
coordinates-append (z ∷ s) t = simp (coordinates-append s t, append_assoc)

-- one coordinate more
pub coordinates-suc : (s : List ℤ) (i : ℕ) → i < length s → coordinates_of (take (suc i) s) ≡ coordinates_of (take i s) ++ (32 ∷ signed_of (get_or s i (pos 0)))
unfolding coordinates_of
coordinates-suc s i h =
    ap coordinates_of (take-suc s i (pos 0) h)
    ∙ coordinates-append (take i s) (get_or s i (pos 0) ∷ [])
    ∙ ap (λ (l : List ℕ). coordinates_of (take i s) ++ l) (append-nil (32 ∷ signed_of (get_or s i (pos 0))))
