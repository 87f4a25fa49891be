-- A frame written over another of its length from the front: what is written, and when it is all. Assumes nothing.
use Prim.Native.Nat.{ℕ, ◌≤◌}
use mathlib.Core.Path.{◌≡◌, sym, ap, ◌∙◌}
use mathlib.Core.List.{List, ◌++◌}
use native.Mathlib.Omega.{arith}
use lib.ListN.{length, take, drop, length-drop, length-append, take-append-drop}
use lib.Seq.{length-take-le, take-append_seam, take_all}
use lib.IntN.{ℤ}
use Rattle.coordinates.proofs.Filled.{Filled}

-- y has the first m coordinates of f, and behind them those of g
pub record Copied (f g y : List ℤ) (m : ℕ) : Type 0 where
  pub room : m ≤ length f
  pub same : length g ≡ length f
  pub is : y ≡ take m f ++ drop m g

module _ {f g y : List ℤ} {m : ℕ} (c : Copied f g y m) where
  pub copy-long : length y ≡ length f
  copy-long = ap length c.is ∙ length-append (take m f) (drop m g) ∙ omega (arith, length-take-le m f c.room, length-drop m g, c.same, c.room)

  pub copy-begun : take m y ≡ take m f
  copy-begun = ap (take m) c.is ∙ ap (λ (n : ℕ). take n (take m f ++ drop m g)) (sym (length-take-le m f c.room)) ∙ take-append_seam (take m f) (drop m g)

  pub copy-whole : length f ≤ m → y ≡ f
  copy-whole h = sym (take_all m y (omega (arith, copy-long))) ∙ copy-begun ∙ take_all m f h

-- and once y has the first m of f, and the rest of g
pub copy_is : (f g y : List ℤ) (m : ℕ) → Filled f y m → drop m y ≡ drop m g → y ≡ take m f ++ drop m g
copy_is f g y m begun rest = sym (take-append-drop m y) ∙ ap (λ (x : List ℤ). x ++ drop m y) begun.same ∙ ap (λ (x : List ℤ). take m f ++ x) rest
