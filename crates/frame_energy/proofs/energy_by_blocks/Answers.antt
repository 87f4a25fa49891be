use Rattle.std.proofs.Common.{◌≡◌, ℕ, ◌*◌, ◌/◌, ◌^◌, ◌<◌, ◌≤◌, ℤ, List, length, drop, sym, subst, ap, ◌∙◌, arith}
use lib.ListN.{length-take, length-drop, drop_of_length-le}
use Rattle.e8.specs.Energy.{energy, Within}
use Rattle.e8.specs.Lattice.{part}
use Rattle.e8.proofs.Frame.{part-is}
use Rattle.e8.proofs.Within.{energy-within, within-part}
use Rattle.frame_energy.proofs.Parts.{energy-left}
use Rattle.frame_energy.proofs.energy_by_blocks.Goals as goal

-- block j, its length and its energy
eight : (f : List ℤ) (j : ℕ) → j < length f / 8 → length (part j f) ≡ 8
eight f j inside = simp (length-take, length-drop) (omega (arith, inside))

block-low : (f : List ℤ) (j : ℕ) → j < length f / 8 → Within (2 ^ 24) f → energy (part j f) ≤ 2 ^ 51
block-low f j inside w =
    omega (arith, energy-within (2 ^ 24) (part j f) (within-part (2 ^ 24) j f w), ap (λ (m : ℕ). m * (2 ^ 24 * 2 ^ 24)) (eight f j inside))

pub block_energy-sum-requires : goal.block_energy-sum-requires
block_energy-sum-requires c =
    let f = c.args.frame.now in
    let e = part-is c.loop-j.j f in
    (ap length e ∙ eight f c.loop-j.j (omega arith), subst (Within (2 ^ 24)) (sym e) (within-part (2 ^ 24) c.loop-j.j f c.requires.2))

pub overflow_add-sum : goal.overflow_add-sum
overflow_add-sum c =
    let f = c.args.frame.now in
    omega (arith, ap energy (part-is c.loop-j.j f), block-low f c.loop-j.j (omega arith) c.requires.2)

pub loop-j-preserved : goal.loop-j-preserved
loop-j-preserved c =
    let f = c.args.frame.now in
    let e = ap energy (part-is c.loop-j.j f) in
    record {
      inside = omega arith;
      left = omega (arith, e, energy-left c.loop-j.j f);
      low = omega (arith, e, block-low f c.loop-j.j (omega arith) c.requires.2);
    }

pub returns : goal.returns
unfolding energy
returns c =
    let f = c.args.frame.now in
    let l : length f ≤ 8 * c.loop-j.j = omega arith in
    let e : energy (drop (8 * c.loop-j.j) f) ≡ 0 = ap energy (drop_of_length-le f l) in
    omega arith
