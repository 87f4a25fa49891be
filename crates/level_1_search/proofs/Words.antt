-- The words that changes of the nearest word of level 1 make, and their costs. Assumes nothing.
use Prim.Native.Nat.{ℕ, ◌+◌, ◌*◌, ◌%◌, ◌^◌, ◌<◌}
use mathlib.Core.Path.{◌≡◌, refl, sym, ap, ◌∙◌}
use mathlib.Core.Bool.{true, false, true≢false}
use mathlib.Core.List.{List}
use native.Mathlib.Omega.{arith}
use lib.Bits.{bit_xor, xor_lt}
use lib.ListN.{length}
use lib.IntN.{ℤ}
use Rattle.bits.specs.Number.{sum_to, bit_of}
use Rattle.bits.proofs.Sum.{sum-ext}
use Rattle.bits.proofs.Digits.{xor-digit}
use Rattle.reed_muller.specs.Level.{belongs}
use Rattle.reed_muller.proofs.Belongs.{belongs-cong}
use Rattle.near_frames.specs.Near.{near_limit}
use Rattle.costs.specs.Costs.{cost_at, cost, change_costs}
use Rattle.costs.proofs.Costs.{change-costs-at}
use Rattle.level_1_search.specs.Changes.{change_cost, Open, Changed, Searched}

module _ (t : List ℤ) (a base : ℕ) where
  -- the cost of changes is that of the word that they make
  change-is : (w p : ℕ) → p < length t → change_cost (change_costs t a base) w p ≡ cost t a (bit_xor base w) p
  change-is w p l =
      change-costs-at t a base p (bit_of w p) l (omega arith) ∙ ap (λ (b : ℕ). cost_at 512 t p (bit_of a p + 2 * b)) (sym (xor-digit base w p))

  module _ (k : ℕ) (e : length t ≡ 2 ^ k) where
    change-sum : (w : ℕ) → sum_to (2 ^ k) (change_cost (change_costs t a base) w) ≡ sum_to (2 ^ k) (cost t a (bit_xor base w))
    change-sum w = sum-ext (2 ^ k) (λ p l. change-is w p (omega arith))

    -- changed back
    again : (v p : ℕ) → bit_of (bit_xor base (bit_xor base v)) p ≡ bit_of v p
    again v p = omega (arith, xor-digit base (bit_xor base v) p, xor-digit base v p)

    -- the changes that make v are open
    open-word : (limit v : ℕ) → belongs 3 k (bit_of v) ≡ true → sum_to (2 ^ k) (cost t a v) < limit → Open k (change_costs t a base) base limit (bit_xor base v)
    open-word limit v b l = record {
      word = belongs-cong 3 k (bit_of (bit_xor base (bit_xor base v))) (bit_of v) (λ p h. ap (λ (x : ℕ). x % 2) (again v p)) ∙ b;
      within = omega (
        arith,
        l,
        change-sum (bit_xor base v),
        sum-ext (2 ^ k) {f = cost t a (bit_xor base (bit_xor base v))} {g = cost t a v}
            (λ p h. ap (λ (x : ℕ). cost_at 512 t p (bit_of a p + 2 * x)) (again v p)),
      );
    }

    module _ (low : base < 2 ^ (2 ^ k)) (limit : ℕ) (limit_is : limit ≡ near_limit k) where
      pub searched-found : (w c : ℕ) → Changed k (change_costs t a base) base limit true w c → Searched k t a true (bit_xor base w) c
      searched-found w c h = record {
        low = xor_lt (2 ^ k) base w low h.low;
        word = λ x. (h.opened refl).word;
        costs = λ x. h.costs-it refl ∙ change-sum w;
        within = λ x. omega (arith, h.costs-it refl, (h.opened refl).within, limit_is);
        none = λ x. absurd (true≢false x);
        no_word = λ x. absurd (true≢false x);
        no-cost = λ x. absurd (true≢false x);
      }

      pub searched-none : Changed k (change_costs t a base) base limit false 0 0 → Searched k t a false 0 0
      searched-none h = record {
        low = h.low;
        word = λ x. absurd (true≢false (sym x));
        costs = λ x. absurd (true≢false (sym x));
        within = λ x. absurd (true≢false (sym x));
        none = λ x v l b u. h.none refl (bit_xor base v) (xor_lt (2 ^ k) base v low l) (open-word limit v b (omega (arith, u, limit_is)));
        no_word = λ x. refl;
        no-cost = λ x. refl;
      }
