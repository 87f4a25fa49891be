-- The energy of a sent frame is bounded, since its length and its scale are. Assumes nothing.
use Prim.Native.Nat.{ℕ, ◌*◌, ◌^◌, ◌≤◌}
use mathlib.Core.Path.{◌≡◌}
use mathlib.Core.Bool.{true}
use mathlib.Core.List.{List}
use native.Mathlib.Nat.{mul-le-mul_right}
use native.Mathlib.Omega.{arith}
use lib.ListN.{length}
use lib.IntN.{ℤ}
use Rattle.e8.specs.Energy.{energy, Within}
use Rattle.e8.proofs.Within.{within-to, energy-within}
use Rattle.frames.specs.Kind.{is_kind, is_grade, scale}
use Rattle.frames.specs.Frame.{numbered_frame}
use Rattle.frames.proofs.Rows.{grade-low}
use Rattle.frames.proofs.Limits.{few-positions, scale-128}
use Rattle.frames.proofs.Demands.{sent-length, sent-within}

-- a frame of at most n coordinates, each at most B in size
pub short-energy : (n B : ℕ) (f : List ℤ) → length f ≤ n → Within B f → energy f ≤ n * (B * B)
short-energy n B f l w = omega (arith, energy-within B f w, mul-le-mul_right (B * B) l)

-- the energy of a sent frame is at most 2^20
pub sent-energy : (k b number : ℕ) (bytes : List ℕ) → is_kind k ≡ true → is_grade b ≡ true → energy (numbered_frame k b number bytes) ≤ 2 ^ 20
sent-energy k b number bytes kind grade = short-energy 64 128 (numbered_frame k b number bytes)
    (omega (arith, sent-length k b kind (grade-low b grade) number bytes, few-positions k kind))
    (within-to (scale k b) 128 (numbered_frame k b number bytes) (scale-128 k b kind grade) (sent-within k b kind (grade-low b grade) number bytes))
