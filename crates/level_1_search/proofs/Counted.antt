-- The search over the changes of a word: what they cost from a place on, and which of them are behind. Assumes nothing.
use Prim.Native.Nat.{ℕ, suc, ◌+◌, ◌-◌, ◌*◌, ◌/◌, ◌%◌, ◌^◌, ◌≤◌, ◌<◌}
use mathlib.Core.Path.{◌≡◌, refl, sym, ap, ◌∙◌, subst}
use mathlib.Core.Bool.{true, false, true≢false}
use mathlib.Core.List.{List}
use native.Mathlib.Nat.{sub_self, div-one}
use native.Mathlib.Decide.{dec_lt, ℕ_discrete}
use native.Mathlib.Omega.{arith}
use lib.Pow.{pow_pos, pow_mono}
use lib.Bits.{bit_xor}
use lib.Count.{count_trailing_zeros}
use lib.ListN.{length, get_or, set}
use lib.Seq.{get_or-set_same, get_or-set_other}
use Rattle.bits.specs.Number.{sum_to, bit_of}
use Rattle.bits.proofs.Sum.{sum-ext, sum-split, sum_first}
use Rattle.reed_muller.specs.Level.{belongs}
use Rattle.level_1_search.specs.Changes.{change_cost, first_place, Open, Changed}
use Rattle.level_1_search.proofs.Carry.{agree-later, after, after_more, after-agree, after-fits, zeros-from, carry-agree, first-of-zero, first_of, first-within}

module _ (n : ℕ) (costs : List ℕ) where
  -- the cost of the changes w from place q on
  abbrev pub cost_from : ℕ → ℕ → ℕ
  cost_from w q = sum_to (n - q) (λ i. change_cost costs w (q + i))

  from_end : (w : ℕ) → cost_from w n ≡ 0
  unfolding sum_to
  from_end w = ap (λ (m : ℕ). sum_to m (λ i. change_cost costs w (n + i))) (sub_self n)

  from_start : (w : ℕ) → cost_from w 0 ≡ sum_to n (change_cost costs w)
  from_start w =
      let z : n - 0 ≡ n = omega arith in
      ap (λ (m : ℕ). sum_to m (λ i. change_cost costs w (0 + i))) z ∙ sum-ext n (λ i l. let e : 0 + i ≡ i = omega arith in ap (change_cost costs w) e)

  -- one place more
  from_more : (w p : ℕ) → 0 < p → p ≤ n → cost_from w (p - 1) ≡ cost_from w p + change_cost costs w (p - 1)
  from_more w p h l =
      let e : n - (p - 1) ≡ suc (n - p) = omega arith in
      ap (λ (m : ℕ). sum_to m (λ i. change_cost costs w (p - 1 + i))) e
      ∙ sum_first (n - p) (λ i. change_cost costs w (p - 1 + i))
      ∙ omega (
        arith,
        ap (change_cost costs w) first,
        sum-ext (n - p) {f = λ i. change_cost costs w (p - 1 + suc i)} {g = λ i. change_cost costs w (p + i)}
            (λ i k. let s : p - 1 + suc i ≡ p + i = omega arith in ap (change_cost costs w) s),
      )
    where
      first : p - 1 + 0 ≡ p - 1
      first = omega arith

  -- so it is with the digit that is read there
  pub from_read : (w p : ℕ) {d b : ℕ} → 0 < p → p ≤ n → d ≡ cost_from w p → b ≡ bit_of w (p - 1) → d + get_or costs (2 * (p - 1) + b) 0 ≡ cost_from w (p - 1)
  from_read w p h l e r = omega (arith, from_more w p h l, e, ap (λ (i : ℕ). get_or costs (2 * (p - 1) + i) 0) r)

  -- it is part of the whole
  from-within : (w q : ℕ) → q ≤ n → cost_from w q ≤ sum_to n (change_cost costs w)
  from-within w q l =
      let e : q + (n - q) ≡ n = omega arith in
      omega (arith, sum-split q (n - q) (change_cost costs w), ap (λ (m : ℕ). sum_to m (change_cost costs w)) e)

  -- the same for changes that agree from there on
  from-agree : (u w q : ℕ) → u / 2 ^ q ≡ w / 2 ^ q → cost_from u q ≡ cost_from w q
  from-agree u w q e =
      sum-ext (n - q) (λ i l. ap (λ (b : ℕ). get_or costs (2 * (q + i) + b % 2) 0) (agree-later u w q (q + i) (omega arith) e))

-- the sums from place p on are those of the changes w, and below the limit
pub record Partial (n limit : ℕ) (costs sums : List ℕ) (w p : ℕ) : Type 0 where
  pub within : p ≤ n
  pub held : (q : ℕ) → p ≤ q → q ≤ n → get_or sums q 0 ≡ cost_from n costs w q
  pub low : (q : ℕ) → p ≤ q → q ≤ n → cost_from n costs w q < limit

module _ {n limit : ℕ} {costs sums : List ℕ} where
  -- at first, for no changes
  partial-first : get_or sums n 0 ≡ 0 → 1 ≤ limit → Partial n limit costs sums 0 n
  partial-first e l = record {
    within = omega arith;
    held = λ q h k. let s : q ≡ n = omega arith in subst (λ (i : ℕ). get_or sums i 0 ≡ cost_from n costs 0 i) (sym s) (e ∙ sym (from_end n costs 0));
    low = λ q h k. let s : q ≡ n = omega arith in omega (arith, ap (cost_from n costs 0) s, from_end n costs 0);
  }

  module _ {w p : ℕ} (so : Partial n limit costs sums w p) where
    -- and from the place before on, once its sum is there
    pub partial-more : {d : ℕ} → 0 < p → p ≤ length sums → d ≡ cost_from n costs w (p - 1) → d < limit → Partial n limit costs (set sums (p - 1) d) w (p - 1)
    partial-more {d} h room e l = record {
      within = omega (arith, so.within);
      held = λ q a b. held' q a b (ℕ_discrete q (p - 1));
      low = λ q a b. low' q a b (ℕ_discrete q (p - 1));
    }
      where
        held' : (q : ℕ) → p - 1 ≤ q → q ≤ n → Dec (q ≡ p - 1) → get_or (set sums (p - 1) d) q 0 ≡ cost_from n costs w q
        held' q a b (yes s) =
            subst (λ (i : ℕ). get_or (set sums (p - 1) d) i 0 ≡ cost_from n costs w i) (sym s) (get_or-set_same sums (p - 1) d 0 (omega arith) ∙ e)
        held' q a b (no s) = get_or-set_other sums (p - 1) q d 0 s ∙ so.held q (omega arith) b

        low' : (q : ℕ) → p - 1 ≤ q → q ≤ n → Dec (q ≡ p - 1) → cost_from n costs w q < limit
        low' q a b (yes s) = omega (arith, l, e, ap (cost_from n costs w) s)
        low' q a b (no s) = so.low q (omega arith) b

    -- they are those of any changes that agree with w from a later place on
    partial-agree : (v q : ℕ) → p ≤ q → q ≤ n → v / 2 ^ q ≡ w / 2 ^ q → Partial n limit costs sums v q
    partial-agree v q h l e = record {
      within = l;
      held = λ i a b. so.held i (omega arith) b ∙ sym (same i a);
      low = λ i a b. omega (arith, same i a, so.low i (omega arith) b);
    }
      where
        same : (i : ℕ) → q ≤ i → cost_from n costs v i ≡ cost_from n costs w i
        same i a = from-agree n costs v w i (agree-later v w q i a e)

-- where the search stands: no changes before w are open, and the sums are those of w from its first place on
pub record Passed (k : ℕ) (costs : List ℕ) (base limit n : ℕ) (sums : List ℕ) (w : ℕ) : Type 0 where
  pub none : (u : ℕ) → u < w → Open k costs base limit u → ⊥
  pub ready : w < 2 ^ n → Partial n limit costs sums w (first_place w n)

-- no changes that agree with w from p on are open
abbrev pub Closed : ℕ → List ℕ → ℕ → ℕ → ℕ → ℕ → Type 0
Closed k costs base limit w p = (u : ℕ) → u / 2 ^ p ≡ w / 2 ^ p → Open k costs base limit u → ⊥

-- so it is with w alone where w makes no word
pub no_word : {k base limit : ℕ} {costs : List ℕ} → (w : ℕ) → belongs 3 k (bit_of (bit_xor base w)) ≡ false → Closed k costs base limit w 0
no_word {k} {base} w e u a o = true≢false (sym o.word ∙ ap (λ (v : ℕ). belongs 3 k (bit_of (bit_xor base v))) same ∙ e)
  where
    same : u ≡ w
    same = sym (div-one u) ∙ a ∙ div-one w

module _ {k base limit n : ℕ} {costs : List ℕ} where
  pub passed_first : {sums : List ℕ} → get_or sums n 0 ≡ 0 → 1 ≤ limit → Passed k costs base limit n sums 0
  passed_first {sums} e l = record {
    none = λ u h o. absurd (omega arith);
    ready = λ h. subst (Partial n limit costs sums 0) (sym (first-of-zero n)) (partial-first e l);
  }

  -- and where w is too far by place p
  pub too_far : (w p : ℕ) → n ≡ 2 ^ k → p ≤ n → limit ≤ cost_from n costs w p → Closed k costs base limit w p
  too_far w p e l h u a o =
      omega (arith, h, from-agree n costs u w p a, from-within n costs u p l, ap (λ (m : ℕ). sum_to m (change_cost costs u)) e, o.within)

  -- all that agree with w from p on are left
  module _ {sums : List ℕ} {w q v : ℕ} (p : ℕ) (small : n ≤ 32) (low : w < 2 ^ n) (l : p ≤ n) where
    pub passed_on : ((u : ℕ) → u < w → Open k costs base limit u → ⊥) → Closed k costs base limit w p → q ≤ p + 1 → Partial n limit costs sums w q
        → v ≡ after w p → Passed k costs base limit n sums v
    passed_on none closed h so e =
        subst (Passed k costs base limit n sums) (sym e) (record { none = λ u a. behind u a (dec_lt u w); ready = ready })
      where
        behind : (u : ℕ) → u < after w p → Dec (u < w) → Open k costs base limit u → ⊥
        behind u a (yes b) = none u b
        behind u a (no b) = closed u (after-agree w p u (omega arith) a)

        fits : after w p < 2 ^ 64
        fits = omega (arith, after-fits w p n low l, pow_mono {i = n} {j = 32} small)

        first : first_place (after w p) n ≡ count_trailing_zeros 64 (after w p) + 1
        first = first_of (after w p) n (omega (arith, after_more w p))

        ready : after w p < 2 ^ n → Partial n limit costs sums (after w p) (first_place (after w p) n)
        ready b =
            partial-agree so (after w p) (first_place (after w p) n)
            (omega (arith, first, zeros-from w p fits (omega arith), h))
            (first-within (after w p) n b (omega arith))
            (subst (λ (i : ℕ). after w p / 2 ^ i ≡ w / 2 ^ i) (sym first) (carry-agree w p fits (omega arith)))

  -- what is found, and what is not
  pub changed-found : {w c : ℕ} → n ≡ 2 ^ k → w < 2 ^ n → ((u : ℕ) → u < w → Open k costs base limit u → ⊥)
      → c ≡ cost_from n costs w 0 → c < limit → belongs 3 k (bit_of (bit_xor base w)) ≡ true → Changed k costs base limit true w c
  changed-found {w} e l none h r b = record {
    low = omega (arith, l, ap (λ (m : ℕ). 2 ^ m) e);
    opened = λ t. record { word = b; within = omega (arith, r, h, whole) };
    first = λ t. none;
    costs-it = λ t. h ∙ whole;
    none = λ t. absurd (true≢false t);
    no_word = λ t. absurd (true≢false t);
    no-cost = λ t. absurd (true≢false t);
  }
    where
      whole : cost_from n costs w 0 ≡ sum_to (2 ^ k) (change_cost costs w)
      whole = from_start n costs w ∙ ap (λ (m : ℕ). sum_to m (change_cost costs w)) e

  pub changed-none : {sums : List ℕ} {w : ℕ} → n ≡ 2 ^ k → 2 ^ n ≤ w → Passed k costs base limit n sums w → Changed k costs base limit false 0 0
  changed-none e l so = record {
    low = pow_pos (2 ^ k);
    opened = λ t. absurd (true≢false (sym t));
    first = λ t. absurd (true≢false (sym t));
    costs-it = λ t. absurd (true≢false (sym t));
    none = λ t u h. so.none u (omega (arith, l, h, ap (λ (m : ℕ). 2 ^ m) e));
    no_word = λ t. refl;
    no-cost = λ t. refl;
  }
