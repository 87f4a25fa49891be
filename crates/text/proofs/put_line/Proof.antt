-- `text::put_line` meets its contract: after each call, what is put so far. Assumes nothing.
use Prim.Native.Nat.{ℕ, ◌+◌, ◌*◌, ◌≤◌}
use native.Mathlib.Omega.{arith}
use mathlib.Core.List.{List, [], ◌∷◌, ◌++◌}
use lib.ListN.{length}
use borrow.Author.Rules.{rules}
use Rattle.text.specs.Text.{decimal_of}
use Rattle.text.specs.Line.{coordinates_of, line_of}
use Rattle.text.proofs.Buffer.{Within, within_none, within_more}
use Rattle.text.proofs.Decimal.{length-decimal}
use Rattle.text.proofs.put_line.Statement.{statement}
use Rattle.text.proofs.put_line.Tie as tie

-- the text s is put within n bytes, from the place that the function was given on
abbrev SoFar : tie.Start → ℕ → List ℕ → ℕ → List ℕ → Type 0
SoFar c n s r o = Within c.args.out.now c.args.at n s r o

-- where the function starts, seen from each call
abbrev start₁ : tie.After-put_decimal-a → tie.Start
start₁ c = c.before.before.before

abbrev start₂ : tie.After-put_byte-b → tie.Start
start₂ c = start₁ c.before.before.before.before

abbrev start₃ : tie.After-put_decimal-c → tie.Start
start₃ c = start₂ c.before.before.before.before

abbrev start₄ : tie.After-put_byte-d → tie.Start
start₄ c = start₃ c.before.before.before.before

abbrev start₅ : tie.After-put_decimal-e → tie.Start
start₅ c = start₄ c.before.before.before.before

abbrev start₆ : tie.After-put_coordinates-f → tie.Start
start₆ c = start₅ c.before.before.before.before

-- the line, and its beginnings up to each space
abbrev to_grade : tie.Start → List ℕ
to_grade c = decimal_of c.args.kind ++ (32 ∷ [])

abbrev to_energy : tie.Start → List ℕ
to_energy c = to_grade c ++ decimal_of c.args.grade ++ (32 ∷ [])

kind-short : (c : tie.Start) → length (decimal_of c.args.kind) ≤ 3
kind-short c = length-decimal 2 c.args.kind (omega (arith, c.ranges.kind))

grade-short : (c : tie.Start) → length (decimal_of c.args.grade) ≤ 3
grade-short c = length-decimal 2 c.args.grade (omega (arith, c.ranges.grade))

energy-short : (c : tie.Start) → length (decimal_of c.args.energy) ≤ 20
energy-short c = length-decimal 19 c.args.energy (omega (arith, c.ranges.energy))

far₁ : (c : tie.After-put_decimal-a) → SoFar (start₁ c) 3 (decimal_of (start₁ c).args.kind) c.put_decimal-a.result c.put_decimal-a.new.out
far₁ c =
    let s = start₁ c in
    within_more 3 (within_none s.args.out.now s.args.at) c.put_decimal-a.ensures (kind-short s) (omega (arith, s.requires))

far₂ : (c : tie.After-put_byte-b) → SoFar (start₂ c) 4 (to_grade (start₂ c)) c.put_byte-b.result c.put_byte-b.new.out
far₂ c = within_more 1 (far₁ c.before.before.before.before) c.put_byte-b.ensures (omega arith) (omega (arith, (start₂ c).requires))

far₃ : (c : tie.After-put_decimal-c)
    → SoFar (start₃ c) 7 (to_grade (start₃ c) ++ decimal_of (start₃ c).args.grade) c.put_decimal-c.result c.put_decimal-c.new.out
far₃ c = within_more 3 (far₂ c.before.before.before.before) c.put_decimal-c.ensures (grade-short (start₃ c)) (omega (arith, (start₃ c).requires))

far₄ : (c : tie.After-put_byte-d) → SoFar (start₄ c) 8 (to_energy (start₄ c)) c.put_byte-d.result c.put_byte-d.new.out
far₄ c = within_more 1 (far₃ c.before.before.before.before) c.put_byte-d.ensures (omega arith) (omega (arith, (start₄ c).requires))

far₅ : (c : tie.After-put_decimal-e)
    → SoFar (start₅ c) 28 (to_energy (start₅ c) ++ decimal_of (start₅ c).args.energy) c.put_decimal-e.result c.put_decimal-e.new.out
far₅ c = within_more 20 (far₄ c.before.before.before.before) c.put_decimal-e.ensures (energy-short (start₅ c)) (omega (arith, (start₅ c).requires))

far₆ : (c : tie.After-put_coordinates-f)
    → let s = start₆ c in
    SoFar s (28 + 12 * length s.args.frame.now) (to_energy s ++ decimal_of s.args.energy ++ coordinates_of s.args.frame.now)
    c.put_coordinates-f.result c.put_coordinates-f.new.out
far₆ c =
    let s = start₆ c in
    let e = c.put_coordinates-f.ensures in
    within_more (12 * length s.args.frame.now) (far₅ c.before.before.before.before) e.0
    (omega (arith, e.0.after, e.1)) (omega (arith, s.requires))

put-decimal-requires : tie.Need-put_decimal-a-requires
put-decimal-requires c κs = let s = c.before.before in omega (arith, kind-short s, s.requires)

put-byte-requires : tie.Need-put_byte-b-requires
put-byte-requires c κs = let p = c.before.before.before in omega (arith, far₁ p, (start₁ p).requires)

put-decimal-requires-2 : tie.Need-put_decimal-c-requires
put-decimal-requires-2 c κs = let p = c.before.before.before in omega (arith, far₂ p, grade-short (start₂ p), (start₂ p).requires)

put-byte-requires-2 : tie.Need-put_byte-d-requires
put-byte-requires-2 c κs = let p = c.before.before.before in omega (arith, far₃ p, (start₃ p).requires)

put-decimal-requires-3 : tie.Need-put_decimal-e-requires
put-decimal-requires-3 c κs = let p = c.before.before.before in omega (arith, far₄ p, energy-short (start₄ p), (start₄ p).requires)

put-coordinates-requires : tie.Need-put_coordinates-f-requires
put-coordinates-requires c κs = let p = c.before.before.before in omega (arith, far₅ p, (start₅ p).requires)

put-byte-requires-3 : tie.Need-put_byte-requires
put-byte-requires-3 c κs = let p = c.before.before.before in omega (arith, far₆ p, (start₆ p).requires)

same_length : tie.Need-shape_of-out
same_length c = search rules

returns : tie.Need-returns
unfolding line_of
returns c =
    let b = c.before.before in
    let p = b.before.before.before.before in
    let w = within_more 1 (far₆ p) b.put_byte.ensures (omega arith) (omega (arith, (start₆ p).requires)) in
    (w.put, omega (arith, w.most))

pub put_line_spec : {M : Type 1} → statement M
put_line_spec =
    tie.close
    (tie.spec
    put-decimal-requires
    put-byte-requires
    put-decimal-requires-2
    put-byte-requires-2
    put-decimal-requires-3
    put-coordinates-requires
    put-byte-requires-3
    same_length
    returns)
