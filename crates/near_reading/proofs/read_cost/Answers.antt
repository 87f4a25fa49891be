use Rattle.std.proofs.Common.{◌≡◌, ℕ, ◌≤◌, List, length, sym, ◌∙◌, arith}
use Rattle.std.specs.Prelude.{Float, Err}
use Rattle.std.proofs.lemmas.List.{length-take-le}
use Rattle.std.proofs.lemmas.Result.{err_from_is_err_and}
use Rattle.refusals.specs.Number.{code}
use Rattle.near_frames.proofs.NearKinds.{size}
use Rattle.near_reading.specs.Answer.{near_refusal, near_number}
use Rattle.near_reading.proofs.Figures.{in_one_is}
use Rattle.near_reading.proofs.Tests.{readable, number-refused, parts-refused, message-kept, some}
use Rattle.near_reading.proofs.read_cost.Goals as goal

short : (k b : ℕ) (xs : List Float) (n : ℕ) → 0 ≡ near_refusal k b xs n → length xs ≤ 32
short k b xs n e = let r = readable k b xs n (sym e) in omega (arith, r.samples, (size k r.kind).positions)

pub returns-in_err-test : goal.returns-in_err-test
returns-in_err-test c =
    let p = err_from_is_err_and c.from_residual.result c.from_residual.ensures.1 in
    let e = c.in_err-test.field-0.0 in
    let k = c.args.kind in
    let b = c.args.grade in
    let xs = c.args.samples.now in
    let bytes = c.args.message.now in
    let is : code e ≡ near_refusal k b xs (length bytes) = c.in_err-test.ensures in
    let same : near_number k b xs (length bytes) ≡ code e = number-refused k b xs (length bytes) (λ z. some e (is ∙ z)) ∙ sym is in
    let h : near_number k b xs (length bytes) ≡ 0 → ⊥ = λ z. some e (sym same ∙ z) in
    let none = parts-refused k b xs (length bytes) h in
    rw (p.1, p.2) (record {
      number = sym same;
      cost = none;
      figures = in_one_is k b xs (length bytes) (Err e) (sym same) none;
      message = sym (message-kept k b xs bytes h);
    })

pub slice_bounds-whole-end : goal.slice_bounds-whole-end
slice_bounds-whole-end c = short c.args.kind c.args.grade c.args.samples.now (length c.args.message.now) c.in_ok-test.ensures

pub slice_bounds-read_fit-end : goal.slice_bounds-read_fit-end
slice_bounds-read_fit-end c =
    sym (length-take-le _ _ (short c.args.kind c.args.grade c.args.samples.now (length c.args.message.now) c.in_ok-test.ensures))

pub slice_bounds-frame-end : goal.slice_bounds-frame-end
slice_bounds-frame-end c = short c.args.kind c.args.grade c.args.samples.now (length c.args.message.now) c.in_ok-test.ensures

pub slice_bounds-read_fit-end-2 : goal.slice_bounds-read_fit-end-2
slice_bounds-read_fit-end-2 c =
    sym (length-take-le _ _ (short c.args.kind c.args.grade c.args.samples.now (length c.args.message.now) c.in_ok-test.ensures))

pub read_fit-requires : goal.read_fit-requires
read_fit-requires c =
    let k = c.args.kind in
    let b = c.args.grade in
    let xs = c.args.samples.now in
    let n = length c.args.message.now in
    let h = short k b xs n c.in_ok-test.ensures in
    let r = readable k b xs n (sym c.in_ok-test.ensures) in
    (r.kind, r.grade, r.samples, r.fit, length-take-le _ _ h ∙ r.samples, length-take-le _ _ h ∙ r.samples, r.bytes)
