use Rattle.std.proofs.Common.{◌≡◌, refl, sym, ◌∙◌, pos, w32, arith}
use Rattle.integers.proofs.Zed.{tz}
use Rattle.coordinates.proofs.Filled.{filled_none, filled_next}
use Rattle.samples.specs.Sample.{samples_in_256ths}
use Rattle.samples.proofs.Samples.{fit-each, samples-length, samples-at}
use Rattle.samples.proofs.all_256ths.Goals as goal

pub loop-i-init : goal.loop-i-init
loop-i-init c = let xs = c.args.samples.now in filled_none (samples_in_256ths xs) c.args.out.now (sym (samples-length xs ∙ c.requires.0))

pub to_256ths-requires : goal.to_256ths-requires
to_256ths-requires c = fit-each c.args.samples.now c.requires.1 c.loop-i.i c.loop-i-test.true

pub loop-i-preserved : goal.loop-i-preserved
loop-i-preserved c =
    let xs = c.args.samples.now in
    filled_next (pos 0) (samples_in_256ths xs) c.loop-i.out c.loop-i.i _ c.loop-i.invariant (omega (arith, samples-length xs))
    (tz {w = w32} refl (record { sfits = c.to_256ths.type_inv }) ∙ c.to_256ths.ensures ∙ sym (samples-at xs c.loop-i.i))
