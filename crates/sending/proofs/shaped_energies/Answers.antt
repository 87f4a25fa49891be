-- `shaped_energies` meets its contract: what a block adds. Assumes nothing.
use Rattle.std.proofs.Common.{◌≡◌, ℕ, ◌+◌, ◌-◌, ◌*◌, ◌/◌, ◌%◌, ◌^◌, ◌<◌, ◌≤◌, max, List, length, take, drop, sym, ap, ◌∙◌, subst, arith}
use lib.IntN.{ℤ}
use lib.ListN.{length-take, length-drop}
use Rattle.e8.specs.Energy.{energy, Within}
use Rattle.e8.specs.Lattice.{part}
use Rattle.e8.specs.Largest.{largest_to}
use Rattle.e8.proofs.Frame.{part-is}
use Rattle.e8.proofs.Largest.{largest-more}
use Rattle.e8.proofs.Order.{energy-append}
use Rattle.e8.proofs.Within.{energy-within, within-part}
use Rattle.e8.proofs.Blockwise.{taken_made}
use Rattle.sending.proofs.shaped_energies.Goals as goal

-- block j as the code takes it
abbrev block : List ℤ → ℕ → List ℤ
block f j = take (8 * j + 8 - 8 * j) (drop (8 * j) f)

-- and what it adds
module _ (f : List ℤ) (j : ℕ) where
  takes : j < length f / 8 → Within (2 ^ 10) f → (length (block f j) ≡ 8) × Within (2 ^ 10) (block f j)
  takes inside near = (simp (length-take, length-drop) (omega arith), subst (Within (2 ^ 10)) (sym (part-is j f)) (within-part (2 ^ 10) j f near))

  low : j < length f / 8 → Within (2 ^ 10) f → energy (block f j) ≤ 8388608
  low inside near =
      let t = takes inside near in
      omega (arith, energy-within (2 ^ 10) (block f j) t.1, ap (λ (m : ℕ). m * (2 ^ 10 * 2 ^ 10)) t.0)

  more : length f % 8 ≡ 0 → energy (take (8 * (j + 1)) f) ≡ energy (take (8 * j) f) + energy (block f j)
  more whole =
      ap energy ((taken_made (length f / 8) f (omega arith)).more j) ∙ energy-append (take (8 * j) f) (part j f)
      ∙ ap (λ (b : List ℤ). energy (take (8 * j) f) + energy b) (sym (part-is j f))

  largest : largest_to (j + 1) f ≡ max (largest_to j f) (energy (block f j))
  largest = largest-more j f ∙ ap (λ (b : List ℤ). max (largest_to j f) (energy b)) (sym (part-is j f))

pub block_energy-block-requires : goal.block_energy-block-requires
block_energy-block-requires c = takes c.args.frame.now c.loop-j.j (omega arith) c.requires.2

pub overflow_add-energy : goal.overflow_add-energy
overflow_add-energy c = omega (arith, low c.args.frame.now c.loop-j.j (omega arith) c.requires.2)

pub loop-j-preserved : goal.loop-j-preserved
loop-j-preserved c =
    let f = c.args.frame.now in
    let j = c.loop-j.j in
    record {
      sum = omega (arith, more f j c.requires.0);
      small = omega (arith, low f j (omega arith) c.requires.2);
      most = omega (arith, largest f j);
    }
