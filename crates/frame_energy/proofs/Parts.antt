-- The energy of what is left of a frame from a block on. Assumes nothing.
use Prim.Native.Nat.{ℕ, ◌+◌, ◌*◌}
use mathlib.Core.Path.{◌≡◌, sym, ap, ◌∙◌}
use mathlib.Core.List.{List}
use native.Mathlib.Omega.{arith}
use lib.ListN.{drop, take-append-drop}
use lib.Seq.{drop-drop}
use lib.IntN.{ℤ}
use Rattle.e8.specs.Energy.{energy}
use Rattle.e8.specs.Lattice.{part}
use Rattle.e8.proofs.Order.{energy-append}

-- block j, and what comes after it
pub energy-left : (j : ℕ) (f : List ℤ) → energy (drop (8 * j) f) ≡ energy (part j f) + energy (drop (8 * (j + 1)) f)
energy-left j f =
    let e : 8 * j + 8 ≡ 8 * (j + 1) = omega arith in
    ap energy (sym (take-append-drop 8 (drop (8 * j) f)))
    ∙ energy-append (part j f) (drop 8 (drop (8 * j) f))
    ∙ ap (λ (g : List ℤ). energy (part j f) + energy g) (drop-drop 8 (8 * j) f ∙ ap (λ (m : ℕ). drop m f) e)
