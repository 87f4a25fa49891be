use Rattle.std.proofs.Common.{◌≡◌, ℕ, ◌+◌, ◌-◌, ◌*◌, ◌%◌, ◌^◌, ◌≤◌, ◌<◌, List, get_or, true, bit_xor, ap, ◌∙◌, arith}
use Rattle.std.proofs.Math.Pow.{pow_mono, pow_pos}
use Rattle.std.specs.Int.Count.{count_trailing_zeros}
use Rattle.bits.proofs.Digits.{one_shifted}
use Rattle.near_frames.specs.Near.{near_kind}
use Rattle.near_frames.proofs.NearKinds.{size}
use Rattle.level_1_search.proofs.Carry.{first_of, first-within}
use Rattle.search.specs.Search.{first_word, step_words}
use Rattle.search.proofs.Steps.{step_is, next-is}
use Rattle.search.proofs.first.next_word.Goals as goal

modulus : (k : ℕ) → near_kind k ≡ true → 1 * 2 ^ (1 * 2 ^ k % 2 ^ 64) % 2 ^ 64 ≡ 2 ^ (2 ^ k)
modulus k kind =
    let z = size k kind in
    ap (λ (n : ℕ). 1 * 2 ^ n % 2 ^ 64) (one_shifted k 64 (omega (arith, z.high))) ∙ one_shifted (2 ^ k) 64 (omega (arith, z.positions))

module _ (k i : ℕ) (kind : near_kind k ≡ true) (one : 1 ≤ i) (few : i ≤ 2 ^ (k + 1)) where
  low : i < 2 ^ 7
  low = omega (arith, pow_mono {i = k + 1} {j = 6} (omega (arith, (size k kind).high)))

  -- the table has an entry for it
  inside : count_trailing_zeros 64 i < 7
  inside = omega (arith, first_of i 7 one, first-within i 7 low (omega arith))

  next : (steps : List ℕ) (word : ℕ) → steps ≡ step_words → word ≡ first_word k (i - 1)
      → bit_xor word (get_or steps (count_trailing_zeros 64 i) 0 % (1 * 2 ^ (1 * 2 ^ k % 2 ^ 64) % 2 ^ 64)) ≡ first_word k i
  next steps word e w = rw (e, w, modulus k kind, step_is k kind (count_trailing_zeros 64 i) inside) (next-is k i one (omega (arith, low)))

pub bounds-steps-i : goal.bounds-steps-i
bounds-steps-i c = inside c.args.kind c.args.i c.requires.0 c.requires.2 c.requires.3

pub overflow_shl-result : goal.overflow_shl-result
overflow_shl-result c = omega (arith, (size c.args.kind c.requires.0).high)

pub overflow_shl-result-2 : goal.overflow_shl-result-2
overflow_shl-result-2 c =
    let z = size c.args.kind c.requires.0 in
    omega (arith, one_shifted c.args.kind 64 (omega (arith, z.high)), z.positions)

pub nonzero_rem-result : goal.nonzero_rem-result
nonzero_rem-result c = omega (arith, modulus c.args.kind c.requires.0, pow_pos (2 ^ c.args.kind))

pub returns : goal.returns
returns c = next c.args.kind c.args.i c.requires.0 c.requires.2 c.requires.3 c.args.steps.now c.args.word c.requires.1 c.requires.4
