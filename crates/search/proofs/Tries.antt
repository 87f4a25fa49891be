-- The search over the codewords of level 0: each number is tried, and with all of them every near frame. Assumes nothing.
use Prim.Native.Nat.{ℕ, ◌+◌, ◌-◌, ◌*◌, ◌%◌, ◌^◌, ◌≤◌, ◌<◌}
use mathlib.Core.Path.{◌≡◌, refl, sym, ap, ◌∙◌}
use mathlib.Core.Bool.{true, false, true≢false}
use mathlib.Core.List.{List}
use native.Mathlib.Nat.{mod-eq_of_lt}
use native.Mathlib.Omega.{arith}
use lib.ListN.{length, get_or}
use lib.IntN.{ℤ, pos, ◌-ℤ◌}
use lib.Pow.{pow_pos}
use Rattle.bits.specs.Number.{sum_to, bit_of}
use Rattle.bits.proofs.Sum.{sum-ext, sum-add, sum-split}
use Rattle.reed_muller.specs.Level.{belongs, dimension, codeword}
use Rattle.reed_muller.proofs.Belongs.{belongs-cong, codeword-belongs}
use Rattle.near_frames.specs.Near.{near_kind, near_limit, IsNear, some_near, near_frame, near_cost}
use Rattle.near_frames.proofs.NearKinds.{size}
use Rattle.near_frames.proofs.Frames.{limit-low, near-is, far-is}
use Rattle.costs.specs.Costs.{gap, cost, candidate, parity_cost}
use Rattle.costs.proofs.Residue.{parity-nearer}
use Rattle.level_1_search.specs.Changes.{Searched}
use Rattle.search.specs.Search.{first_word, FoundPair}
use Rattle.search.proofs.Pairs.{pair_of, frame-of, numbered}
use Rattle.search.proofs.Steps.{word_lt, word-digit}

-- the first m terms, each of them at most that of a longer sum
sum_below : (m n : ℕ) (f g : ℕ → ℕ) → m ≤ n → ((i : ℕ) → f i ≤ g i) → sum_to m f ≤ sum_to n g
sum_below m n f g h l =
    let e : n ≡ m + (n - m) = omega arith in
    let u : sum_to m g ≡ sum_to m (λ i. f i + (g i - f i)) = sum-ext m (λ i k. omega (arith, l i)) in
    omega (arith, ap (λ (i : ℕ). sum_to i g) e, sum-split m (n - m) g, u, sum-add m f (λ i. g i - f i))

-- the number j is tried: no word that is the codeword of j makes, with any word of level 1, a frame within the limit
pub record Tried (k : ℕ) (t : List ℤ) (j : ℕ) : Type 0 where
  pub none : (a b : ℕ) → ((p : ℕ) → p < 2 ^ k → bit_of a p ≡ codeword 1 k (bit_of j) p) → b < 2 ^ (2 ^ k) → belongs 3 k (bit_of b) ≡ true
      → sum_to (2 ^ k) (cost t a b) < near_limit k → ⊥

module _ (k : ℕ) (t : List ℤ) (j w : ℕ) (held : w ≡ first_word k j) where
  is : (p : ℕ) → p < 2 ^ k → bit_of w p ≡ codeword 1 k (bit_of j) p
  is p h = ap (λ (x : ℕ). bit_of x p) held ∙ word-digit k j p h

  same : (a b : ℕ) → ((p : ℕ) → p < 2 ^ k → bit_of a p ≡ codeword 1 k (bit_of j) p) → sum_to (2 ^ k) (cost t a b) ≡ sum_to (2 ^ k) (cost t w b)
  same a b e = sum-ext (2 ^ k) (λ p h. ap (λ (x : ℕ). gap 512 (get_or t p (pos 0) -ℤ pos (256 * (x + 2 * bit_of b p)))) (e p h ∙ sym (is p h)))

  -- its first samples are too far from its parities
  pub tried-far : (p : ℕ) → p ≤ 2 ^ k → near_limit k ≤ sum_to p (parity_cost t w) → Tried k t j
  tried-far p h l = record {
    none = λ a b e lb wb s. omega (
      arith,
      l,
      s,
      same a b e,
      sum_below p (2 ^ k) (parity_cost t w) (cost t w b) h (λ q. parity-nearer (get_or t q (pos 0)) (bit_of w q) (bit_of b q)),
    );
  }

  -- no word of level 1 goes with it
  pub tried-searched : Searched k t w false 0 0 → Tried k t j
  tried-searched h = record { none = λ a b e lb wb s. h.none refl b lb wb (omega (arith, s, same a b e)) }

  -- one does
  pub found-pair : {b c : ℕ} → near_kind k ≡ true → Searched k t w true b c → FoundPair k t true w b c
  found-pair kind h = record {
    low-a = omega (arith, held, word_lt k j);
    low-b = h.low;
    word-a = λ z. belongs-cong 1 k (bit_of w) (codeword 1 k (bit_of j)) (λ p l. ap (λ (x : ℕ). x % 2) (is p l))
        ∙ codeword-belongs 1 k (omega (arith, (size k kind).low)) (bit_of j);
    word-b = λ z. h.word refl;
    costs = λ z. h.costs refl;
    within = λ z. h.within refl;
    none = λ z. absurd (true≢false z);
    no-a = λ z. absurd (true≢false z);
    no-b = λ z. absurd (true≢false z);
    no-cost = λ z. absurd (true≢false z);
  }

-- all are tried
pub all-tried : (k : ℕ) (t : List ℤ) → near_kind k ≡ true → length t ≡ 2 ^ k → ((j : ℕ) → j < 2 ^ dimension 1 k → Tried k t j)
    → FoundPair k t false 0 0 0
all-tried k t kind long all = record {
  low-a = pow_pos (2 ^ k);
  low-b = pow_pos (2 ^ k);
  word-a = λ z. absurd (true≢false (sym z));
  word-b = λ z. absurd (true≢false (sym z));
  costs = λ z. absurd (true≢false (sym z));
  within = λ z. absurd (true≢false (sym z));
  none = λ z. none;
  no-a = λ z. refl;
  no-b = λ z. refl;
  no-cost = λ z. refl;
}
  where
    none : (f : List ℤ) → IsNear k t f → ⊥
    none f near =
        let pair = pair_of k kind t long f near.coded (omega (arith, near.close, limit-low k kind)) in
        let num = numbered 1 k (omega (arith, (size k kind).low)) (bit_of pair.a) pair.word-a in
        (all num.bits num.low).none pair.a pair.b
        (λ p h. sym (num.is p h ∙ mod-eq_of_lt (omega arith))) pair.low-b pair.word-b (omega (arith, pair.costs, near.close))

-- ---- the frame of the words found

module _ (k : ℕ) (t : List ℤ) (kind : near_kind k ≡ true) (long : length t ≡ 2 ^ k) where
  -- it is the near frame
  pub found-near : {a b c : ℕ} → FoundPair k t true a b c → (f : List ℤ) → length f ≡ 2 ^ k
      → ((p : ℕ) → p < length t → get_or f p (pos 0) ≡ candidate t a b p)
      → (some_near k t ≡ true) × ((lent : List ℤ) → near_frame k t lent ≡ f) × (near_cost k t ≡ c)
  found-near {a} {b} pair f l e =
      let g = frame-of k kind t long a b (pair.word-a refl) (pair.word-b refl) f l (λ p h. e p (omega (arith, h, long))) in
      let n = near-is k kind t f (record { samples = long; coded = g.0; close = omega (arith, g.1, pair.costs refl, pair.within refl) }) in
      (n.0, n.1, n.2 ∙ g.1 ∙ sym (pair.costs refl))

  pub found_none : FoundPair k t false 0 0 0 → (some_near k t ≡ false) × ((lent : List ℤ) → near_frame k t lent ≡ lent) × (near_cost k t ≡ 0)
  found_none pair = far-is k kind t (pair.none refl)
