use Rattle.std.proofs.Common.{◌≡◌, ℕ, ◌+◌, ◌*◌, ◌%◌, ◌^◌, ◌<◌, ◌≤◌, List, length, get_or, ℤ, pos, ◌-ℤ◌, true, ap, ◌∙◌, refl, below_more, add-one, arith, rules}
use Rattle.bits.specs.Number.{sum_to, bit_of}
use Rattle.bits.proofs.Digits.{one_shifted}
use Rattle.reed_muller.specs.Level.{dimension}
use Rattle.near_frames.specs.Near.{near_kind, near_limit}
use Rattle.near_frames.proofs.NearKinds.{each-near, size}
use Rattle.near_frames.proofs.Frames.{limit-low}
use Rattle.costs.specs.Costs.{parity_costs, parity_cost}
use Rattle.costs.proofs.Nearest.{gap-small}
use Rattle.costs.proofs.Costs.{parity-costs-length, parity-costs-at}
use Rattle.search.specs.Search.{first_word}
use Rattle.search.proofs.Steps.{bits_are, steps-are, word_none}
use Rattle.search.proofs.Tries.{tried-far, tried-searched, found-pair, all-tried}
use Rattle.search.proofs.first.first_level.Goals as goal

-- the number of codewords
few : (k : ℕ) → near_kind k ≡ true → dimension 1 k ≤ 32
few k kind = omega (arith, bits_are k kind, (size k kind).high)

count-is : (k : ℕ) → near_kind k ≡ true → (d : ℕ) → d ≡ dimension 1 k → 1 * 2 ^ d % 2 ^ 64 ≡ 2 ^ dimension 1 k
count-is k kind d e = rw e (one_shifted (dimension 1 k) 64 (omega (arith, few k kind)))

limit-pos : (k : ℕ) → near_kind k ≡ true → 0 < near_limit k
limit-pos = each-near (λ k. 0 < near_limit k) (omega arith) (omega arith) (omega arith)

no-sum : (f : ℕ → ℕ) → 0 ≡ sum_to 0 f
unfolding sum_to
no-sum f = refl

-- a sample of a codeword
module _ (ts : List ℤ) (costs : List ℕ) (a p b : ℕ) (held : costs ≡ parity_costs ts) (inside : p < length ts) (digit : b ≡ bit_of a p) where
  parity : get_or costs (2 * p + b) 0 ≡ parity_cost ts a p
  parity = rw (held, digit) (parity-costs-at ts p (bit_of a p) inside (omega arith))

  small : get_or costs (2 * p + b) 0 ≤ 2 ^ 20
  small = omega (arith, parity, gap-small 256 (omega arith) (get_or ts p (pos 0) -ℤ pos (256 * bit_of a p)))

  sum : (d : ℕ) → d ≡ sum_to p (parity_cost ts a) → d + get_or costs (2 * p + b) 0 ≡ sum_to (p + 1) (parity_cost ts a)
  unfolding sum_to
  sum d e = rw (add-one p) (omega (arith, e, parity))

pub dimension_of-requires : goal.dimension_of-requires
dimension_of-requires c = let z = size c.args.kind c.requires.0 in ((z.low, omega (arith, z.high)), omega (arith, z.low))

pub overflow_shl-count : goal.overflow_shl-count
overflow_shl-count c = omega (arith, few c.args.kind c.requires.0)

pub next-init : goal.next-init
next-init c = (λ j l. absurd (omega arith), word_none c.args.kind c.requires.0)

pub next_word-word-requires : goal.next_word-word-requires
next_word-word-requires c =
    let k = c.args.kind in (
      c.requires.0,
      steps-are,
      omega arith,
      omega (arith, count-is k c.requires.0 c.dimension_of.result c.dimension_of.ensures, ap (λ (n : ℕ). 2 ^ n) (bits_are k c.requires.0)),
      c.next.invariant.1 ∙ ap (first_word k) (omega arith),
    )

pub loop-p-init : goal.loop-p-init
loop-p-init c = (no-sum (parity_cost c.args.samples.now c.next.word), omega (arith, limit-pos c.args.kind c.requires.0))

pub bit-requires : goal.bit-requires
bit-requires c = omega (arith, (size c.args.kind c.requires.0).positions)

pub bounds-costs-p : goal.bounds-costs-p
bounds-costs-p c = omega (arith, ap length c.requires.4, parity-costs-length c.args.samples.now)

pub overflow_add-d-in-loop-p : goal.overflow_add-d-in-loop-p
overflow_add-d-in-loop-p c =
    record {
      fits = omega (
        arith,
        limit-low c.args.kind c.requires.0,
        small c.args.samples.now c.args.costs.now c.next.word c.loop-p.p c.bit.result c.requires.4 c.loop-p-test.true c.bit.ensures,
      );
    }

pub next-preserved-then-limit-d : goal.next-preserved-then-limit-d
next-preserved-then-limit-d c =
    let ts = c.args.samples.now in
    let p = c.loop-p.p in
    let far = tried-far c.args.kind ts c.next.i c.next.word c.next.invariant.1 (p + 1) (omega arith)
    (omega (arith, sum ts c.args.costs.now c.next.word p c.bit.result c.requires.4 c.loop-p-test.true c.bit.ensures c.loop-p.d c.loop-p.invariant.0)) in
    (below_more _ _ c.next.invariant.0 far, c.next_word-word.ensures)

pub loop-p-preserved : goal.loop-p-preserved
loop-p-preserved c = (
  sum c.args.samples.now c.args.costs.now c.next.word c.loop-p.p c.bit.result c.requires.4 c.loop-p-test.true c.bit.ensures c.loop-p.d c.loop-p.invariant.0,
  omega arith,
)

pub returns-in-Some : goal.returns-in-Some
returns-in-Some c =
    found-pair c.args.kind c.args.samples.now c.next.i c.next.word c.next.invariant.1 c.requires.0 c.in-Some.ensures

pub next-preserved : goal.next-preserved
next-preserved c =
    let none = tried-searched c.args.kind c.args.samples.now c.next.i c.next.word c.next.invariant.1 (search rules) in
    (below_more _ _ c.next.invariant.0 none, c.next_word-word.ensures)

pub returns : goal.returns
returns c =
    all-tried c.args.kind c.args.samples.now c.requires.0 c.requires.1
    (λ j l. c.next.invariant.0 j (omega (arith, l, count-is c.args.kind c.requires.0 c.dimension_of.result c.dimension_of.ensures)))
