use Rattle.std.proofs.Common.{◌≡◌, ℕ, ◌+◌, ◌^◌, ◌≤◌, ◌<◌, Bool, true, false, cond, ltb, length, refl, sym, ap, ◌∙◌, subst, arith}
use native.Mathlib.Numerals.{add-one}
use lib.ListN.{length-take, length-drop}
use borrow.Author.Tests.{lt-ltb, le-ltb}
use Rattle.e8.specs.Energy.{energy as energy-of, Within}
use Rattle.e8.specs.Lattice.{part}
use Rattle.e8.proofs.Frame.{part-is}
use Rattle.e8.proofs.Within.{within-part}
use Rattle.frames.specs.Free.{first_least}
use Rattle.filling_search.proofs.first_least.Goals as goal
use Rattle.filling_search.proofs.first_least.Goals.{then-energy-least, else-energy-least}
use Rattle.filling_search.proofs.first_least.Invariants.{at_block}

-- ---- the search, one number more

first_one : (e : ℕ → ℕ) → 0 ≡ first_least e 1
unfolding first_least
first_one e = go (ltb (e 0) (e 0))
  where
    go : (t : Bool) → ◌≡◌ {A = ℕ} 0 (cond t 0 0)
    go true = refl
    go false = refl

module _ (e : ℕ → ℕ) (j best : ℕ) (so : best ≡ first_least e j) where
  less-here : e j < e best → j ≡ first_least e (j + 1)
  unfolding first_least
  less-here h = rw (add-one j, ← so, lt-ltb (e j) (e best) h) refl

  no_less : e best ≤ e j → best ≡ first_least e (j + 1)
  unfolding first_least
  no_less h = rw (add-one j, ← so, le-ltb (e j) (e best) h) refl

pub loop-j-init : goal.loop-j-init
loop-j-init c = (first_one (at_block c.args.blocks.now), c.block_energy-least.ensures)

pub block_energy-energy-requires : goal.block_energy-energy-requires
block_energy-energy-requires c =
    let f = c.args.blocks.now in
    let j = c.loop-j.j in
    let e = part-is j f in
    let eight : length (part j f) ≡ 8 = simp (length-take, length-drop) (omega arith) in
    (ap length e ∙ eight, subst (Within (2 ^ 10)) (sym e) (within-part (2 ^ 10) j f c.requires.3))

pub loop-j-preserved : goal.loop-j-preserved
loop-j-preserved c =
    let f = c.args.blocks.now in
    let e = at_block f in
    let j = c.loop-j.j in
    let best = c.loop-j.best in
    let so = c.loop-j.invariant.0 in
    let at : c.loop-j.least ≡ e best = c.loop-j.invariant.1 in
    let here : c.block_energy-energy.result ≡ e j = c.block_energy-energy.ensures ∙ ap energy-of (part-is j f) in (
      elim c.if-energy-least.branch [
        | then-energy-least w ↦ w.best-is ∙ less-here e j best so (omega (arith, w.if-energy-least.true, at, here))
        | else-energy-least w ↦ w.best-is ∙ no_less e j best so (omega (arith, w.if-energy-least.false, at, here))
      ],
      elim c.if-energy-least.branch [
        | then-energy-least w ↦ w.least-is ∙ here ∙ sym (ap e w.best-is)
        | else-energy-least w ↦ w.least-is ∙ at ∙ sym (ap e w.best-is)
      ],
    )
