-- `coordinate` meets its contract: from the last level to the first, what stands over the levels passed so far. Assumes nothing.
use Rattle.std.proofs.Common.{◌≡◌, ℕ, suc, ◌+◌, ◌-◌, ◌*◌, ◌^◌, ◌≤◌, ◌<◌, true, List, length, take, drop, get_or, pos, sym, ap, ap₂, ◌∙◌, subst, arith, w32}
use native.Mathlib.Nat.{mul-le-mul}
use lib.ListN.{length-drop, drop_of_length-le}
use lib.Pow.{pow_mono}
use lib.Seq.{drop-cons, take_all}
use mir.Facts.{to_z_pos}
use Rattle.bits.specs.Message.{message_bit}
use Rattle.reed_muller.specs.Level.{dimension, codeword}
use Rattle.reed_muller.proofs.Codeword.{codeword-small}
use Rattle.frames.specs.Kind.{is_kind, degrees, levels as levels-of, dimensions, level_bits}
use Rattle.frames.specs.Message.{stacked}
use Rattle.frames.proofs.Lengths.{level-end}
use Rattle.frames.proofs.Limits.{tabled, few-levels, few-level-bits, degree-fits, level-piece}
use Rattle.kind_table.specs.Table.{row_of}
use Rattle.kind_table.specs.declared.Kind.{Kind}
use Rattle.kind_table.proofs.Entry.{entry-levels, entry-bits, entry-degree}
use Rattle.leader.proofs.Stack.{stacked-below}
use Rattle.bench_plain.proofs.Place.{over}
use Rattle.bench_plain.proofs.coordinate.Goals as goal

-- level i, over which the others stand
over-next : (k : ℕ) (bytes : List ℕ) (s p from i : ℕ) → i < levels-of k
    → codeword (get_or (degrees k) i 0) k (λ t. message_bit bytes (from + t)) p + 2 * over k bytes s p (from + dimension (get_or (degrees k) i 0) k) (suc i)
    ≡ over k bytes s p from i
unfolding stacked levels-of
over-next k bytes s p from i h = sym (ap (λ (rs : List ℕ). stacked k rs (message_bit bytes) from s p) (drop-cons (degrees k) i 0 h))

-- what stands over the levels passed so far is small
over-small : (k : ℕ) (bytes : List ℕ) (s p from i x : ℕ) → is_kind k ≡ true → s < 2 ^ 16 → x ≡ over k bytes s p from i → x < 2 ^ 19
unfolding levels-of
over-small k bytes s p from i x kind h e =
    let rs : List ℕ = drop i (degrees k) in
    let l : length rs ≤ 3 = omega (arith, length-drop i (degrees k), few-levels k kind) in
    let f : 2 ^ length rs * (s + 1) ≤ 2 ^ 3 * 2 ^ 16 =
    mul-le-mul {n₁ = 2 ^ length rs} {m₁ = s + 1} {n₂ = 2 ^ 3} {m₂ = 2 ^ 16} (pow_mono {j = 3} l) (omega arith) in
    omega (arith, stacked-below k rs (message_bit bytes) from s p)

-- what a turn knows of its level: it is one of the kind, its degree, and its piece of the message
record Turn (k : ℕ) (r : Kind) (i from : ℕ) : Type 0 where
  inside : i < levels-of k
  three : i < 3
  degree : get_or r.degrees i 0 ≡ get_or (degrees k) i 0
  fits : get_or r.degrees i 0 ≤ k
  begins : from ≡ dimensions k (take i (degrees k)) + dimension (get_or r.degrees i 0) k
  room : from ≤ level_bits k
  few : level_bits k ≤ 112

turn : (k : ℕ) (r : Kind) → r ≡ row_of k → is_kind k ≡ true → (n from : ℕ) → 0 < n → n ≤ levels-of k → from ≡ dimensions k (take n (degrees k))
    → Turn k r (n - 1) from
turn k r is kind n from some inside begins =
    let i = n - 1 in
    let h : i < levels-of k = omega arith in
    let d : get_or r.degrees i 0 ≡ get_or (degrees k) i 0 = entry-degree k r is kind i h in
    let m : n ≡ i + 1 = omega arith in
    let e : from ≡ dimensions k (take i (degrees k)) + dimension (get_or (degrees k) i 0) k =
    begins ∙ ap (λ (n : ℕ). dimensions k (take n (degrees k))) m ∙ level-end k i h in record {
      inside = h;
      three = omega (arith, few-levels k kind);
      degree = d;
      fits = subst (λ (r : ℕ). r ≤ k) (sym d) (degree-fits k kind i h);
      begins = e ∙ ap (λ (r : ℕ). dimensions k (take i (degrees k)) + dimension r k) (sym d);
      room = omega (arith, e, (level-piece k i kind h).inside);
      few = few-level-bits k kind;
    }

pub loop-i-init : goal.loop-i-init
unfolding level_bits levels-of stacked
loop-i-init c =
    let s = c.args in
    let k = s.kind in
    let r = c.row-row.result in
    let n = entry-levels k r c.row-row.ensures in
    let b = entry-bits k r c.row-row.ensures in record {
      inside = omega (arith, n);
      begins = b ∙ sym (ap (dimensions k) (take_all r.levels (degrees k) (omega (arith, n))));
      stands =
          sym (ap (λ (rs : List ℕ). stacked k rs (message_bit s.message.now) r.bits s.s s.p) (drop_of_length-le (degrees k) {i = r.levels} (omega (arith, n))));
    }

pub offset_bounds-row-i : goal.offset_bounds-row-i
offset_bounds-row-i c = omega (arith, few-levels c.args.kind c.requires.0)

pub bounds-row-i : goal.bounds-row-i
bounds-row-i c = omega (arith, few-levels c.args.kind c.requires.0)

pub dimension_of-from-requires : goal.dimension_of-from-requires
dimension_of-from-requires c =
    let l = c.loop-i in
    let t = turn c.args.kind _ c.row-row.ensures c.requires.0 l.i l.from (omega arith) l.invariant.inside l.invariant.begins in
    (tabled c.args.kind c.requires.0, t.fits)

pub overflow_sub-from : goal.overflow_sub-from
overflow_sub-from c =
    let l = c.loop-i in
    let t = turn c.args.kind _ c.row-row.ensures c.requires.0 l.i l.from (omega arith) l.invariant.inside l.invariant.begins in
    omega (arith, t.begins)

pub value_at-requires : goal.value_at-requires
value_at-requires c =
    let l = c.loop-i in
    let t = turn c.args.kind _ c.row-row.ensures c.requires.0 l.i l.from (omega arith) l.invariant.inside l.invariant.begins in
    (tabled c.args.kind c.requires.0, t.fits, omega (arith, t.room, t.few), omega (arith, t.begins, t.room))

pub overflow_mul-x : goal.overflow_mul-x
overflow_mul-x c =
    let l = c.loop-i in
    omega (arith, over-small c.args.kind c.args.message.now c.args.s c.args.p l.from l.i l.x c.requires.0 c.requires.2 l.invariant.stands)

pub overflow_add-x : goal.overflow_add-x
overflow_add-x c =
    let l = c.loop-i in
    let v : c.value_at.result < 2 = subst (λ (v : ℕ). v < 2) (sym c.value_at.ensures) (codeword-small _ c.args.kind _ _) in
    omega (arith, over-small c.args.kind c.args.message.now c.args.s c.args.p l.from l.i l.x c.requires.0 c.requires.2 l.invariant.stands)

pub loop-i-preserved : goal.loop-i-preserved
loop-i-preserved c =
    let l = c.loop-i in
    let s = c.args in
    let k = s.kind in
    let bit = message_bit s.message.now in
    let i = l.i - 1 in
    let r = get_or (degrees k) i 0 in
    let f = l.from - c.dimension_of-from.result in
    let t = turn k _ c.row-row.ensures c.requires.0 l.i l.from (omega arith) l.invariant.inside l.invariant.begins in
    let e : l.from ≡ f + dimension r k = omega (arith, t.begins, ap (λ (n : ℕ). dimension n k) t.degree) in
    let n : l.i ≡ suc i = omega arith in
    let x : l.x ≡ over k s.message.now s.s s.p (f + dimension r k) (suc i) =
    l.invariant.stands ∙ ap₂ (λ (g j : ℕ). over k s.message.now s.s s.p g j) e n in
    let v : c.value_at.result ≡ codeword r k (λ t. bit (f + t)) s.p = c.value_at.ensures ∙ ap (λ (r : ℕ). codeword r k (λ t. bit (f + t)) s.p) t.degree in record {
      inside = omega arith;
      begins = omega (arith, t.begins);
      stands = omega (arith, v, x, over-next k s.message.now s.s s.p f i t.inside);
    }

pub overflow_cast-result : goal.overflow_cast-result
overflow_cast-result c =
    let l = c.loop-i in
    omega (arith, over-small c.args.kind c.args.message.now c.args.s c.args.p l.from l.i l.x c.requires.0 c.requires.2 l.invariant.stands)

pub returns : goal.returns
returns c =
    let l = c.loop-i in
    let s = c.args in
    let k = s.kind in
    let small = over-small k s.message.now s.s s.p l.from l.i l.x c.requires.0 c.requires.2 l.invariant.stands in
    let n : l.i ≡ 0 = omega arith in
    let f : l.from ≡ 0 = l.invariant.begins ∙ ap (λ (n : ℕ). dimensions k (take n (degrees k))) n in
    to_z_pos w32 {n = l.x} (omega (arith, small)) ∙ ap pos (l.invariant.stands ∙ ap₂ (λ (g j : ℕ). over k s.message.now s.s s.p g j) f n)
