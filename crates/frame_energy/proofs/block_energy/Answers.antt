use Rattle.std.proofs.Common.{◌≡◌, ℕ, ◌+◌, ◌*◌, ◌^◌, ◌≤◌, ℤ, pos, nat_abs, List, get_or, length, refl, ap, ◌∙◌, arith}
use lib.Dec.{T}
use mir.Syntax.{w64}
use mir.Val.{to_z, of_z}
use lib.Ieee.{Float, binary64, add, of_bits, of_fields, of_int, round, in_signed, to_signed}
use lib.Ieee.Casts.{to_signed_in}
use Rattle.integers.proofs.Zed.{tz}
use Rattle.e8.specs.Energy.{sq, energy, Within}
use Rattle.e8.proofs.Within.{within-at, energy-within}
use Rattle.coordinates.proofs.Reading.{read, plain, plain_size}
use Rattle.frame_energy.proofs.Whole.{whole, back, Apart, apart_none, apart_more, apart-all}
use Rattle.frame_energy.proofs.block_energy.Goals as goal

-- 0.0
none : of_bits binary64 0 ≡ whole 0
unfolding of_bits of_fields of_int round
none = refl

-- the energy is far below 2^53
few : (x : List ℤ) → length x ≡ 8 → Within (2 ^ 24) x → energy x ≤ 2 ^ 53
few x e w = omega (arith, energy-within (2 ^ 24) x w, ap (λ (m : ℕ). m * (2 ^ 24 * 2 ^ 24)) e)

pub loop-i-init : goal.loop-i-init
loop-i-init c = apart_none c.args.part.now none

pub square-even-requires : goal.square-even-requires
square-even-requires c =
    let at : ℤ = get_or c.args.part.now (2 * c.loop-i.i) (pos 0) in
    plain_size at (2 ^ 24) (within-at (2 ^ 24) c.args.part.now (2 * c.loop-i.i) c.requires.1) (omega arith)

pub square-odd-requires : goal.square-odd-requires
square-odd-requires c =
    let at : ℤ = get_or c.args.part.now (2 * c.loop-i.i + 1) (pos 0) in
    plain_size at (2 ^ 24) (within-at (2 ^ 24) c.args.part.now (2 * c.loop-i.i + 1) c.requires.1) (omega arith)

-- the square of a coordinate as the code reads it
square-at : (x : List ℤ) (i : ℕ) → Within (2 ^ 24) x → whole (sq (read (get_or x i (pos 0)))) ≡ whole (sq (get_or x i (pos 0)))
square-at x i w = ap (λ (z : ℤ). whole (sq z)) (plain (get_or x i (pos 0)) (omega (arith, within-at (2 ^ 24) x i w)))

pub loop-i-preserved : goal.loop-i-preserved
loop-i-preserved c =
    let x = c.args.part.now in
    let p = square-at x (2 * c.loop-i.i) c.requires.1 in
    let q = square-at x (2 * c.loop-i.i + 1) c.requires.1 in
    let y : c.square-even.result ≡ whole (sq (get_or x (2 * c.loop-i.i) (pos 0))) = cc in
    let z : c.square-odd.result ≡ whole (sq (get_or x (2 * c.loop-i.i + 1) (pos 0))) = cc in
    apart_more c.loop-i.invariant (few x c.requires.0 c.requires.1) (omega arith) y z

-- both sums, and their sum as a whole number
module _ {x : List ℤ} {i : ℕ} {even odd : Float} (a : Apart x i even odd) (all : length x ≤ 2 * i) (f : energy x ≤ 2 ^ 53) where
  counted : T (in_signed binary64 63 (add binary64 even odd)) × (to_signed 63 (add binary64 even odd) ≡ pos (energy x))
  counted = rw (apart-all a f all) (back (energy x) f)

  result : to_z w64 (of_z w64 (to_signed 63 (add binary64 even odd))) ≡ pos (energy x)
  result = tz {w = w64} {z = to_signed 63 (add binary64 even odd)} refl (record { sfits = to_signed_in 63 (add binary64 even odd) }) ∙ counted.1

pub float_to_int-sum : goal.float_to_int-sum
float_to_int-sum c = (counted c.loop-i.invariant (omega arith) (few c.args.part.now c.requires.0 c.requires.1)).0

pub overflow_cast-result : goal.overflow_cast-result
overflow_cast-result c =
    let f = few c.args.part.now c.requires.0 c.requires.1 in
    rw (result c.loop-i.invariant (omega arith) f) (tt, record { fits = omega (arith, f) })

pub returns : goal.returns
returns c = ap nat_abs (result c.loop-i.invariant (omega arith) (few c.args.part.now c.requires.0 c.requires.1))
