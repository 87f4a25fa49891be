use Rattle.std.proofs.Common.{◌≡◌, ℕ, ◌+◌, ◌*◌, ◌<◌, List, length, get_or, drop, refl, sym, ap, ◌∙◌, subst, ℤ, pos, Fits, SFits, w32, to_z, of_z, arith, rules}
use Rattle.integers.proofs.Zed.{tz}
use Rattle.coordinates.proofs.Filled.{Filled, filled_none, filled_next}
use Rattle.four_bytes.specs.FourBytes.{four_at, signed, coordinates_from}
use Rattle.four_bytes.proofs.Laws.{length-coordinates, coordinate-at, four-drop, signed-is}
use Rattle.four_bytes.proofs.take_coordinates.Goals as goal

-- a coordinate that is read is the one to be taken
coordinate : (s : List ℕ) (p n i at w : ℕ) (z : ℤ) → i < n → at ≡ p + 4 * i → w ≡ four_at s at → Fits w32 w → z ≡ to_z w32 w → SFits w32 z
    → to_z w32 (of_z w32 z) ≡ get_or (coordinates_from n (drop p s)) i (pos 0)
coordinate s p n i at w z h a e fits q f =
    tz refl f ∙ signed-is fits f q ∙ ap signed (e ∙ ap (four_at s) a ∙ sym (four-drop s p (4 * i))) ∙ sym (coordinate-at n (drop p s) i h)

pub loop-i-init : goal.loop-i-init
loop-i-init c = filled_none _ _ (sym (length-coordinates (length c.args.frame.now) (drop c.args.p c.args.s.now)))

pub loop-i-preserved : goal.loop-i-preserved
loop-i-preserved c =
    let s = c.args.s.now in
    let p = c.args.p in
    let n : ℕ = length c.args.frame.now in
    let i : ℕ = 2 * c.loop-i.i in
    let all = coordinates_from n (drop p s) in
    let long = length-coordinates n (drop p s) in
    let w : Fits w32 c.four_at.result = search rules in
    let w' : Fits w32 c.four_at-in-loop-i.result = search rules in
    let first = filled_next (pos 0) all _ i _ c.loop-i.invariant (omega (arith, long))
    (coordinate s p n i (p + 8 * c.loop-i.i) c.four_at.result c.cast_signed.result (omega arith) (omega arith) c.four_at.ensures w c.cast_signed.ensures
    (record { sfits = c.cast_signed.type_inv })) in
    let second = filled_next (pos 0) all _ (i + 1) _ first (omega (arith, long))
    (coordinate s p n (i + 1) (p + 8 * c.loop-i.i + 4) c.four_at-in-loop-i.result c.cast_signed-in-loop-i.result (omega arith) (omega arith)
    c.four_at-in-loop-i.ensures w' c.cast_signed-in-loop-i.ensures (record { sfits = c.cast_signed-in-loop-i.type_inv })) in
    let e : i + 1 + 1 ≡ 2 * (c.loop-i.i + 1) = omega arith in
    subst (Filled all _) e second
