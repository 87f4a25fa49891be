-- The block's numbers stand over the levels from i on: over none at 3, and over all of them at 0.
use Rattle.std.proofs.Common.{◌≡◌, ℕ, suc, ◌+◌, ◌-◌, ◌*◌, ◌/◌, ◌%◌, ◌^◌, ◌<◌, ◌≤◌, cond, ltb, List, get_or, refl, sym, ap, ap₂, ◌∙◌, arith}
use native.Mathlib.Nat.{zero-add, mul-le-mul}
use lib.Pow.{pow_mono}
use Rattle.bits.specs.Number.{table, number}
use Rattle.bits.specs.Message.{message_bit}
use Rattle.bits.proofs.Message.{bytes-are, number_bit, message-small}
use Rattle.bits.proofs.Digits.{digit, digit-small, digit-from}
use Rattle.bits.proofs.Table.{table_at, table-ext}
use Rattle.e8.specs.Rows.{ints}
use Rattle.frames.specs.Message.{widths, numbers}
use Rattle.frames.proofs.Numbers.{total, total-widths}
use Rattle.leader.specs.Words.{over_levels}
use Rattle.leader.proofs.BlockNumbers.{numbers-length, numbers-below, numbers-ext}
use Rattle.leader.proofs.Stack.{over-ext, over_below, over-more}
use Rattle.leader.proofs.block.Goals as goal

-- number o of the block
abbrev own : List ℕ → ℕ → ℕ → ℕ → ℕ
own message from b o = get_or (numbers (message_bit message) from (widths b)) o 0

-- number o over the levels from i on
abbrev made : List ℕ → ℕ → ℕ → ℕ → List ℕ → ℕ → ℕ → ℕ → ℕ
made message from b n words q i o = over_levels (n - i) (λ t. digit (get_or words (i + t) 0) (q + o)) (own message from b o)

record Stands (message : List ℕ) (from b n : ℕ) (words : List ℕ) (q i : ℕ) (x : List ℕ) : Type 0 where
  high : b ≤ 4
  few : n ≤ 3
  is : x ≡ table 8 (made message from b n words q i)

module _ {message : List ℕ} {from b n : ℕ} {words : List ℕ} {q : ℕ} where
  number-at : {i : ℕ} {x : List ℕ} → Stands message from b n words q i x → (o : ℕ) → o < 8 → get_or x o 0 ≡ made message from b n words q i o
  number-at {i} s o l = ap (λ (y : List ℕ). get_or y o 0) s.is ∙ table_at (made message from b n words q i) 8 o l

  -- no coordinate passes 255
  small : {i : ℕ} {x : List ℕ} → Stands message from b n words q i x → (o : ℕ) → o < 8 → get_or x o 0 < 256
  small {i} s o l =
      let v : ℕ = own message from b o in
      let h : v < 32 = numbers-below (message_bit message) (message-small message) from b o s.high l in
      let few : 2 ^ (n - i) ≤ 8 = pow_mono {j = 3} (omega (arith, s.few)) in
      let p : 2 ^ (n - i) * (v + 1) ≤ 8 * 32 = mul-le-mul {m₁ = v + 1} {m₂ = 32} few (omega arith) in
      omega (arith, number-at s o l, over_below (n - i) (λ t. digit (get_or words (i + t) 0) (q + o)) v (λ t. digit-small (get_or words (i + t) 0) (q + o)))

  -- over level i too
  one_more : (i : ℕ) {x y : List ℕ} → Stands message from b n words q (suc i) x
      → y ≡ table 8 (λ o. cond (ltb i n) (get_or words i 0 / 2 ^ q / 2 ^ o % 2 + 2 * get_or x o 0) (get_or x o 0)) → Stands message from b n words q i y
  one_more i s e = record {
    high = s.high;
    few = s.few;
    is = e ∙ table-ext 8 (λ o l.
        ap₂ (λ (d y : ℕ). cond (ltb i n) (d + 2 * y) y) (digit-from (get_or words i 0) q o) (number-at s o l)
        ∙ over-more n i (λ t. digit (get_or words t 0) (q + o)) (own message from b o));
  }

  all_there : {x : List ℕ} → Stands message from b n words q 0 x
      → x ≡ table 8 (λ o. over_levels n (λ i. digit (get_or words i 0) (q + o)) (own message from b o))
  all_there s = s.is ∙ table-ext 8 (λ o l. let z : n - 0 ≡ n = omega arith in
      ap (λ (m : ℕ). over_levels m (λ t. digit (get_or words (0 + t) 0) (q + o)) (own message from b o)) z
      ∙ over-ext n (own message from b o) (λ i u. ap (λ (t : ℕ). digit (get_or words t 0) (q + o)) (zero-add i)))

-- the numbers of the message bits are over no level yet
none_yet : (n : ℕ) (words : List ℕ) (q : ℕ) {message : List ℕ} {from b bits : ℕ} {x : List ℕ} → 1 ≤ b → b ≤ 4 → n ≤ 3
    → bits ≡ number (8 * b) (λ t. message_bit message (from + t)) → x ≡ numbers (digit bits) 0 (widths b) → Stands message from b n words q 3 x
unfolding over_levels
none_yet n words q {message} {from} {b} {bits} low high few e made = record {
  high = high;
  few = few;
  is = made ∙ numbers-ext (digit bits) (message_bit message) 0 from (widths b) each
      ∙ sym (bytes-are ns (λ o. get_or ns o 0) (λ o h. refl))
      ∙ ap (λ (m : ℕ). table m (λ o. get_or ns o 0)) (numbers-length (message_bit message) from (widths b))
      ∙ table-ext 8 (λ o l. let z : n - 3 ≡ 0 = omega arith in rw z refl);
}
  where
    ns : List ℕ
    ns = numbers (message_bit message) from (widths b)

    each : (i : ℕ) → i < total (widths b) → digit bits (0 + i) ≡ message_bit message (from + i)
    each i l =
        ap (λ (x : ℕ). digit x (0 + i)) e ∙ ap (digit (number (8 * b) (λ t. message_bit message (from + t)))) (zero-add i)
        ∙ number_bit (λ t. message_bit message (from + t)) (8 * b) (λ t u. message-small message (from + t)) i (omega (arith, total-widths b low))

pub over_level-x-requires : goal.over_level-x-requires
over_level-x-requires c o l =
    let s = none_yet c.args.levels c.args.words c.args.q c.requires.0 c.requires.1 c.requires.2 c.bits_at-bits.ensures c.unpacked-x.ensures in
    omega (arith, small s o l)

pub over_level-x-requires-2 : goal.over_level-x-requires-2
over_level-x-requires-2 c o l =
    let s = none_yet c.args.levels c.args.words c.args.q c.requires.0 c.requires.1 c.requires.2 c.bits_at-bits.ensures c.unpacked-x.ensures in
    let t = one_more 2 s c.over_level-x.ensures in
    omega (arith, small t o l)

pub over_level-x-requires-3 : goal.over_level-x-requires-3
over_level-x-requires-3 c o l =
    let s = none_yet c.args.levels c.args.words c.args.q c.requires.0 c.requires.1 c.requires.2 c.bits_at-bits.ensures c.unpacked-x.ensures in
    let t = one_more 1 (one_more 2 s c.over_level-x.ensures) c.over_level-x-2.ensures in
    omega (arith, small t o l)

pub signed-requires : goal.signed-requires
signed-requires c o l =
    let s = none_yet c.args.levels c.args.words c.args.q c.requires.0 c.requires.1 c.requires.2 c.bits_at-bits.ensures c.unpacked-x.ensures in
    let t = one_more 0 (one_more 1 (one_more 2 s c.over_level-x.ensures) c.over_level-x-2.ensures) c.over_level-x-3.ensures in
    omega (arith, small t o l)

pub returns : goal.returns
returns c =
    let s = none_yet c.args.levels c.args.words c.args.q c.requires.0 c.requires.1 c.requires.2 c.bits_at-bits.ensures c.unpacked-x.ensures in
    let t = one_more 0 (one_more 1 (one_more 2 s c.over_level-x.ensures) c.over_level-x-2.ensures) c.over_level-x-3.ensures in
    c.signed.ensures ∙ ap ints (all_there t)
