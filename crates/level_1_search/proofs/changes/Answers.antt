use Rattle.std.proofs.Common.{◌≡◌, ℕ, ◌-◌, ◌*◌, ◌%◌, ◌^◌, ◌<◌, ◌≤◌, true, sym, ap, ◌∙◌, refl, arith}
use Rattle.std.proofs.Math.Nat.{div-one}
use Rattle.std.proofs.Math.Pow.{pow_mono}
use Rattle.std.proofs.Math.ListN.{length-set, get_or-replicate}
use Rattle.bits.proofs.Digits.{one_shifted}
use Rattle.near_frames.specs.Near.{near_kind}
use Rattle.near_frames.proofs.NearKinds.{size}
use Rattle.level_1_search.proofs.Counted.{cost_from, from_read, partial-more, passed_first, too_far, no_word, passed_on, changed-found, changed-none}
use Rattle.level_1_search.proofs.changes.Goals as goal

-- a number of the search, and how many places it has
record Counted (n w : ℕ) : Type 0 where
  few : n ≤ 32
  low : w < 2 ^ n
  short : w < 2 ^ 32

few : (k n : ℕ) → near_kind k ≡ true → n ≡ 2 ^ k → n ≤ 32
few k n kind e = omega (arith, (size k kind).positions)

end_is : (n : ℕ) → n ≤ 32 → 1 * 2 ^ n % 2 ^ 64 ≡ 2 ^ n
end_is n h = one_shifted n 64 (omega arith)

counted : (k n w : ℕ) → near_kind k ≡ true → n ≡ 2 ^ k → w < 1 * 2 ^ n % 2 ^ 64 → Counted n w
counted k n w kind e h =
    let f : n ≤ 32 = few k n kind e in
    let l : w < 2 ^ n = omega (arith, end_is n f) in
    record { few = f; low = l; short = omega (arith, pow_mono {i = n} {j = 32} f) }

pub overflow_shl-end : goal.overflow_shl-end
overflow_shl-end c = omega (arith, few c.args.kind c.args.n c.requires.0 c.requires.1)

pub next-init : goal.next-init
next-init c =
    (refl, passed_first (get_or-replicate 33 c.args.n 0 0 (omega (arith, few c.args.kind c.args.n c.requires.0 c.requires.1))) c.requires.3)

pub bounds-sums-first : goal.bounds-sums-first
bounds-sums-first c =
    let w = counted c.args.kind c.args.n c.next.w c.requires.0 c.requires.1 c.next-test.true in
    omega (arith, w.few, (c.next.invariant.1.ready w.low).within)

pub bit-requires : goal.bit-requires
bit-requires c = omega (arith, few c.args.kind c.args.n c.requires.0 c.requires.1)

pub next_after-w-requires : goal.next_after-w-requires
next_after-w-requires c =
    let w = counted c.args.kind c.args.n c.next.w c.requires.0 c.requires.1 c.next-test.true in
    (omega (arith, w.few), omega (arith, w.short))

pub next-preserved-then-limit-d : goal.next-preserved-then-limit-d
next-preserved-then-limit-d c =
    let w = c.loop-p.w in
    let p = c.loop-p.p - 1 in
    let so = c.loop-p.invariant.2 in
    let n = c.args.n in
    let seen = counted c.args.kind n c.next.w c.requires.0 c.requires.1 c.next-test.true in
    let inside : p ≤ n = omega (arith, so.within) in
    let d = from_read n c.args.costs.now w c.loop-p.p c.loop-p-test.true so.within c.loop-p.invariant.3 c.bit.ensures in (
      c.loop-p.invariant.1,
      passed_on p seen.few (omega (arith, seen.low)) inside
          (λ u h. c.next.invariant.1.none u (omega arith))
          (too_far w p c.requires.1 inside (omega (arith, d)))
          (omega arith) so c.next_after-w.ensures,
    )

pub bounds-sums-p : goal.bounds-sums-p
bounds-sums-p c = omega (arith, few c.args.kind c.args.n c.requires.0 c.requires.1)

pub loop-p-preserved : goal.loop-p-preserved
loop-p-preserved c =
    let so = c.loop-p.invariant.2 in
    let d = from_read c.args.n c.args.costs.now c.loop-p.w c.loop-p.p c.loop-p-test.true so.within c.loop-p.invariant.3 c.bit.ensures in (
      c.loop-p.invariant.0,
      length-set c.loop-p.sums (c.loop-p.p - 1) _ ∙ c.loop-p.invariant.1,
      partial-more so c.loop-p-test.true (omega (arith, few c.args.kind c.args.n c.requires.0 c.requires.1)) d (omega arith),
      d,
    )

pub returns-then-is_second : goal.returns-then-is_second
returns-then-is_second c =
    let so = c.loop-p.invariant.2 in
    let n = c.args.n in
    let z : c.loop-p.p ≡ 0 = omega arith in
    let e : c.loop-p.d ≡ cost_from n c.args.costs.now c.loop-p.w 0 = c.loop-p.invariant.3 ∙ ap (cost_from n c.args.costs.now c.loop-p.w) z in
    changed-found c.requires.1 (omega (arith, (counted c.args.kind n c.next.w c.requires.0 c.requires.1 c.next-test.true).low))
    (λ u h. c.next.invariant.1.none u (omega arith)) e (omega (arith, e, so.low 0 (omega arith) (omega arith)))
    (sym c.is_second.ensures ∙ c.if-is_second.true)

pub next-preserved : goal.next-preserved
next-preserved c =
    let w = c.loop-p.w in
    let so = c.loop-p.invariant.2 in
    let seen = counted c.args.kind c.args.n c.next.w c.requires.0 c.requires.1 c.next-test.true in (
      c.loop-p.invariant.1,
      passed_on 0 seen.few (omega (arith, seen.low)) (omega arith)
          (λ u h. c.next.invariant.1.none u (omega arith))
          (no_word w (sym c.is_second.ensures ∙ c.if-is_second.false))
          (omega arith) so (omega (arith, div-one w)),
    )

pub returns : goal.returns
returns c =
    changed-none c.requires.1
    (omega (arith, end_is c.args.n (few c.args.kind c.args.n c.requires.0 c.requires.1)))
    c.next.invariant.1
