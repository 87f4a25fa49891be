-- `write_listing` meets its contract and ends: each turn takes the line at the place that the one before it gave, and goes further in the sheet. Assumes
-- nothing.
use Prim.Native.Nat.{ℕ, ◌+◌, ◌-◌, ◌*◌, ◌≤◌}
use native.Mathlib.Omega.{arith}
use mathlib.Core.Path.{◌≡◌, sym, ap, ◌∙◌, subst⁻¹}
use mathlib.Core.Bool.{true, false}
use mathlib.Core.List.{List}
use lib.ListN.{length, take}
use lib.Seq.{length-take-le}
use borrow.Author.Rules.{rules}
use Rattle.listing.specs.Places.{line_on, next_on, line_into, next_into}
use Rattle.printing.specs.Printing.{one_more, goes_on}
use Rattle.printing.specs.declared.Printed.{Printed}
use Rattle.printing.proofs.Taking.{Taken, FromHere, put-length, goes_on_lem, from_first, printed-over, begins, begun-taken, all-taken}
use Rattle.printing.proofs.Taking.{lines-few, line-is, line-given, line_taken, line-further, line-answered}
use Rattle.printing.proofs.write_listing.Statement.{statement}
use Rattle.printing.proofs.write_listing.Tie as tie

abbrev invariant-loop-out : tie.invariant-loop-out
invariant-loop-out sheet to out₀ printed₀ out printed = (length out ≡ 1024) × Taken sheet printed × FromHere sheet printed × (printed.bytes ≤ 1024 * (printed.lines + 1))

abbrev decreases-loop-out : tie.decreases-loop-out
decreases-loop-out sheet to out₀ printed₀ out printed = length sheet - printed.place.at

-- the places before those of the needs: the first line put, the turn's beginning and its line
abbrev first : tie.After-hand-handed invariant-loop-out decreases-loop-out → tie.After-begin-first invariant-loop-out decreases-loop-out
first c = c.before.before.before

abbrev put : tie.After-hand-handed-in-loop-out invariant-loop-out decreases-loop-out → tie.After-line-line invariant-loop-out decreases-loop-out
put c = c.before.before.before

abbrev test : tie.After-line-line invariant-loop-out decreases-loop-out → tie.In-loop-out invariant-loop-out decreases-loop-out
test c = c.before.before.before

abbrev turn : tie.In-loop-out invariant-loop-out decreases-loop-out → tie.At-loop-out invariant-loop-out decreases-loop-out
turn c = c.before.before

-- the sheet
abbrev of : tie.At-loop-out invariant-loop-out decreases-loop-out → List ℕ
of c = c.before.before.before.before.before.before.before.before.args.sheet.now

-- what was handed over before the turn
abbrev so_far : tie.After-line-line invariant-loop-out decreases-loop-out → Printed
so_far c = (turn (test c)).loop-out.printed

-- the beginning is handed over whole
first-long : (b : tie.After-begin-first invariant-loop-out decreases-loop-out) → b.begin-first.result.length ≡ length (take b.begin-first.result.length b.begin-first.new.out)
first-long b = sym (length-take-le b.begin-first.result.length b.begin-first.new.out (omega (arith, b.begin-first.ensures.1.0, b.begin-first.auto.out)))

-- there is a further line
further-line : (c : tie.In-loop-out invariant-loop-out decreases-loop-out) → goes_on (turn c).loop-out.printed (length (of (turn c))) ≡ true
further-line c = sym c.before.goes_on.ensures ∙ c.loop-out-test.true

-- the room for a line keeps its length
same-room : (c : tie.After-line-line invariant-loop-out decreases-loop-out) → length c.line-line.new.out ≡ 1024
same-room c = c.line-line.auto.out ∙ (turn (test c)).loop-out.invariant.0

-- the line is that at the place reached, and is handed over whole
line-long : (c : tie.After-line-line invariant-loop-out decreases-loop-out) → c.line-line.result.length ≡ length (take c.line-line.result.length c.line-line.new.out)
line-long c =
    sym (length-take-le c.line-line.result.length c.line-line.new.out (omega (arith, same-room c, (turn (test c)).loop-out.invariant.0, c.line-line.ensures.1.0)))

line-bytes : (c : tie.After-line-line invariant-loop-out decreases-loop-out) → c.line-line.result.length ≡ length (line_into 1024 (of (turn (test c))) (so_far c).place)
line-bytes c =
    let a = turn (test c) in
    put-length c.line-line.ensures.0 ∙ ap (λ (n : ℕ). length (line_into n (of a) (so_far c).place)) a.loop-out.invariant.0

bytes-handed : (c : tie.After-hand-handed-in-loop-out invariant-loop-out decreases-loop-out)
    → c.hand-handed-in-loop-out.result.bytes ≡ length (line_into 1024 (of (turn (test (put c)))) (so_far (put c)).place)
bytes-handed c = c.hand-handed-in-loop-out.ensures ∙ sym (line-long (put c)) ∙ line-bytes (put c)

line-short : (c : tie.After-line-line invariant-loop-out decreases-loop-out) → length (line_on (of (turn (test c))) (so_far c).place) ≤ 1024
line-short c =
    let a = turn (test c) in
    omega (arith, ap length (line-is (of a) (so_far c) a.loop-out.invariant.1 (further-line (test c))), line-bytes c, c.line-line.ensures.1.0, a.loop-out.invariant.0)

-- so what was handed over has that line more, and stands at the place after it
given : (c : tie.After-one_more-printed invariant-loop-out decreases-loop-out)
    → let l = put c.before.before in
    let s = of (turn (test l)) in
    c.one_more-printed.result ≡ one_more (so_far l) (length (line_on s (so_far l).place)) (next_on s (so_far l).place) c.before.before.hand-handed-in-loop-out.result.whole
given c =
    let h = c.before.before in
    let l = put h in
    let a = turn (test l) in
    line-given (of a) (so_far l) a.loop-out.invariant.1 (further-line (test l)) c.one_more-printed.result h.hand-handed-in-loop-out.result.whole (bytes-handed h)
    (l.line-line.ensures.1.1.0 ∙ ap (λ (n : ℕ). next_into n (of a) (so_far l).place) a.loop-out.invariant.0) c.one_more-printed.ensures

slice-aggregate-begin : tie.Need-slice_bounds-begin-end invariant-loop-out decreases-loop-out
slice-aggregate-begin c = search rules

begin-requires : tie.Need-begin-first-requires invariant-loop-out decreases-loop-out
begin-requires c κs = search rules

array-share-prefix-out : tie.Need-slice_bounds-out-end invariant-loop-out decreases-loop-out
array-share-prefix-out c = search rules

slice-aggregate-hand : tie.Need-slice_bounds-hand-end invariant-loop-out decreases-loop-out
slice-aggregate-hand c = first-long c.before.before

hand-requires : tie.Need-hand-handed-requires invariant-loop-out decreases-loop-out
hand-requires c κs = search rules

loop-holds : tie.Need-loop-out-init invariant-loop-out decreases-loop-out
loop-holds c =
    let h = c.before in
    let b = first h in
    let s = b.before.before.before.args.sheet.now in
    let e = begins s h.hand-handed.result.whole (h.hand-handed.ensures ∙ sym (first-long b) ∙ put-length b.begin-first.ensures.0) b.begin-first.ensures.1.1 in (
      b.begin-first.auto.out,
      subst⁻¹ (Taken s) e (begun-taken s h.hand-handed.result.whole),
      subst⁻¹ (FromHere s) e (from_first s h.hand-handed.result.whole),
      omega (arith, h.hand-handed.ensures, first-long b, b.begin-first.ensures.1.0),
    )

goes-on-requires : tie.Need-goes_on-requires invariant-loop-out decreases-loop-out
goes-on-requires c κs = search rules

slice-aggregate-line : tie.Need-slice_bounds-line-end invariant-loop-out decreases-loop-out
slice-aggregate-line c = search rules

line-requires : tie.Need-line-line-requires invariant-loop-out decreases-loop-out
line-requires c κs = search rules

array-share-prefix-out-2 : tie.Need-slice_bounds-out-end-in-loop-out invariant-loop-out decreases-loop-out
array-share-prefix-out-2 c = search rules

slice-aggregate-hand-2 : tie.Need-slice_bounds-hand-end-in-loop-out invariant-loop-out decreases-loop-out
slice-aggregate-hand-2 c = line-long c.before.before

hand-requires-2 : tie.Need-hand-handed-requires-in-loop-out invariant-loop-out decreases-loop-out
hand-requires-2 c κs = search rules

one-more-requires : tie.Need-one_more-printed-requires invariant-loop-out decreases-loop-out
one-more-requires c κs =
    let h = c.before in
    let a = turn (test (put h)) in
    let f = lines-few (of a) a.loop-out.printed a.loop-out.invariant.1 (further-line (test (put h))) in
    (omega (arith, f), omega (arith, f, a.loop-out.invariant.3, bytes-handed h, line-bytes (put h), (put h).line-line.ensures.1.0, a.loop-out.invariant.0))

loop-less : tie.Need-loop-out-smaller invariant-loop-out decreases-loop-out
loop-less c =
    let l = put c.before.before in
    let a = turn (test l) in
    let e = further-line (test l) in
    let h = goes_on_lem (so_far l) (length (of a)) e in
    let k = line-further (of a) (so_far l) a.loop-out.invariant.1 e c.one_more-printed.result c.before.before.hand-handed-in-loop-out.result.whole (given c) in
    omega (arith, h, k)

loop-again : tie.Need-loop-out-preserved invariant-loop-out decreases-loop-out
loop-again c =
    let l = put c.before.before in
    let a = turn (test l) in
    let t = a.loop-out.invariant.1 in
    let e = further-line (test l) in
    let r = c.one_more-printed.result in
    let w = c.before.before.hand-handed-in-loop-out.result.whole in (
      same-room l,
      line_taken (of a) (so_far l) t e r w (given c),
      line-answered (of a) (so_far l) t e r w (given c) a.loop-out.invariant.2,
      subst⁻¹ (λ (x : Printed). x.bytes ≤ 1024 * (x.lines + 1)) (given c) (omega (arith, a.loop-out.invariant.3, line-short l)),
    )

returns : tie.Need-returns invariant-loop-out decreases-loop-out
returns c =
    let a = c.before.before in
    let p = a.loop-out.printed in
    let t = a.loop-out.invariant.1 in
    let e : goes_on p (length (of a)) ≡ false = sym c.before.goes_on.ensures ∙ c.loop-out-test.false in
    (t.place, (t.bytes, (all-taken (of a) p t e, printed-over (of a) p e a.loop-out.invariant.2)))

pub write_listing_spec : {M : Type 1} → statement M
write_listing_spec =
    tie.close
    (tie.spec
    invariant-loop-out
    decreases-loop-out
    slice-aggregate-begin
    begin-requires
    array-share-prefix-out
    slice-aggregate-hand
    hand-requires
    loop-holds
    goes-on-requires
    slice-aggregate-line
    line-requires
    array-share-prefix-out-2
    slice-aggregate-hand-2
    hand-requires-2
    one-more-requires
    loop-less
    loop-again
    returns)
