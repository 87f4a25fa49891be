use Rattle.std.proofs.Common.{◌≡◌, ℕ, true, false, List, length, ℤ, sym, ap, ◌∙◌, subst, arith}
use Rattle.std.specs.Prelude.{Float}
use Rattle.e8.specs.Energy.{Within}
use Rattle.samples.specs.Sample.{samples_in_256ths}
use Rattle.samples.proofs.Samples.{samples-length, samples-within}
use Rattle.near_frames.specs.Near.{some_near, near_frame, near_cost}
use Rattle.near_reading.specs.Answer.{near_number}
use Rattle.near_reading.specs.Claims.{Readable}
use Rattle.near_reading.proofs.Tests.{parts-refused, parts-near, message-kept}
use Rattle.near_reading.proofs.Outcome.{number-16, number-0, near-message}
use Rattle.near_reading.proofs.read_fit.Goals as goal

pub locate-requires : goal.locate-requires
locate-requires c =
    let xs = c.args.samples.now in
    let e = c.all_256ths.ensures in
    (c.requires.0, ap length e ∙ samples-length xs ∙ c.requires.2, c.requires.5, subst (Within 32768) (sym e) (samples-within xs c.requires.3))

-- the samples in 256ths, as the search has them
module _ (k b : ℕ) (xs : List Float) (bytes : List ℕ) (r : Readable k b xs (length bytes)) (t : List ℤ) (whole : t ≡ samples_in_256ths xs) where
  far : false ≡ some_near k t → near_number k b xs (length bytes) ≡ 16
  far found = number-16 k b xs bytes r (ap (some_near k) (sym whole) ∙ sym found)

  near : true ≡ some_near k t → near_number k b xs (length bytes) ≡ 0
  near found = number-0 k b xs bytes r (ap (some_near k) (sym whole) ∙ sym found)

pub returns-in_default : goal.returns-in_default
returns-in_default c =
    let k = c.args.kind in
    let b = c.args.grade in
    let xs = c.args.samples.now in
    let bytes = c.args.message.now in
    let whole = c.all_256ths.ensures in
    let r : Readable k b xs (length bytes) =
    record { kind = c.requires.0; grade = c.requires.1; samples = c.requires.2; bytes = c.requires.6; fit = c.requires.3 } in
    let z : near_number k b xs (length bytes) ≡ 16 = far k b xs bytes r c.all_256ths.new.out whole c.in_default.ensures.found in
    record {
      number = omega (arith, z);
      cost = parts-refused k b xs (length bytes) (λ e. omega (arith, e, z));
      message = sym (message-kept k b xs bytes (λ e. omega (arith, e, z)));
      whole = whole;
      frame = c.locate.ensures.frame ∙ ap (λ (t : List ℤ). near_frame k t c.args.frame.now) whole;
    }

pub returns : goal.returns
returns c =
    let k = c.args.kind in
    let b = c.args.grade in
    let xs = c.args.samples.now in
    let bytes = c.args.message.now in
    let whole = c.all_256ths.ensures in
    let r : Readable k b xs (length bytes) =
    record { kind = c.requires.0; grade = c.requires.1; samples = c.requires.2; bytes = c.requires.6; fit = c.requires.3 } in
    let z : near_number k b xs (length bytes) ≡ 0 = near k b xs bytes r c.all_256ths.new.out whole c.in-Some.ensures.found in
    let f : c.locate.new.frame ≡ near_frame k (samples_in_256ths xs) c.args.frame.now =
    c.locate.ensures.frame ∙ ap (λ (t : List ℤ). near_frame k t c.args.frame.now) whole in
    record {
      number = sym z;
      cost = c.in-Some.ensures.cost ∙ ap (near_cost k) whole ∙ sym (parts-near k b xs (length bytes) z);
      message = c.read_open.ensures.message
          ∙ near-message k b xs bytes r (ap (some_near k) (sym whole) ∙ sym c.in-Some.ensures.found) c.args.frame.now _ _ f c.read_open.ensures.number;
      whole = whole;
      frame = f;
    }
