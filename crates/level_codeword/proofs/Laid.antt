-- Message bits laid at their masks, some at a time; all of them laid are the bits at the places of the masks. For every r ≤ m.
-- Assumes nothing.
use Prim.Native.Nat.{ℕ, suc, ◌+◌, ◌-◌, ◌*◌, ◌%◌, ◌^◌, ◌≤◌, ◌<◌}
use mathlib.Core.Path.{◌≡◌, refl, sym, ap, ap₂, ◌∙◌}
use mathlib.Core.List.{List}
use native.Mathlib.Nat.{zero-mul, div-one, mod-lt, mod-eq_of_lt}
use native.Mathlib.Decide.{dec_lt, ℕ_discrete}
use native.Mathlib.Numerals.{add-one}
use native.Mathlib.Omega.{arith}
use lib.Dec.{eqb, lit<}
use lib.Bits.{bit_xor, xor_lt}
use lib.Pow.{pow_mono}
use lib.ListN.{get_or, take}
use lib.Seq.{get_or-take}
use borrow.Author.Tests.{eq-eqb, ne_eqb}
use Rattle.bits.specs.Number.{given, sum_to, number}
use Rattle.bits.proofs.Sum.{sum-ext, sum-split, sum-zero, sum-term, sum-at-most}
use Rattle.bits.proofs.Message.{number_lt, number-ext, number_of, number-shorter, digit-of}
use Rattle.bits.proofs.Digits.{digit, digit-past, xor-digit, shift-digit, shift-low}
use Rattle.reed_muller.specs.Level.{order, place, dimension}
use Rattle.level_codeword.specs.Laid.{laid}
use Rattle.level_tables.proofs.MaskTables.{Right, dimension-entry, short}
use Rattle.reed_muller.proofs.Order.{order-place, order_below, place-order, dimension-mono}

-- a bit b at digit a of a number of W digits
bit_at : (b a W S : ℕ) → b < 2 → S < W → digit (b * 2 ^ a % 2 ^ W) S ≡ given (eqb a S) b
bit_at b a W S small h = go (ℕ_discrete a S) (dec_lt S a)
  where
    go : Dec (a ≡ S) → Dec (S < a) → digit (b * 2 ^ a % 2 ^ W) S ≡ given (eqb a S) b
    go (yes e) d =
        let z : S - a ≡ 0 = omega arith in
        rw (eq-eqb a S e)
        (shift-digit b a W S (omega arith) h ∙ ap (digit b) z ∙ ap (λ (x : ℕ). x % 2) (div-one b) ∙ mod-eq_of_lt small)
    go (no n) (yes l) = rw (ne_eqb a S n) (shift-low b a W S l h)
    go (no n) (no k) = rw (ne_eqb a S n) (shift-digit b a W S (omega arith) h ∙ digit-past b 1 (S - a) small (omega arith))

laid-small : (n : ℕ) (mask bit : ℕ → ℕ) (S : ℕ) → laid n mask bit S < 2
unfolding laid
laid-small n mask bit S = mod-lt _ (lit< tt)

pub laid_none : (mask bit : ℕ → ℕ) (S : ℕ) → laid 0 mask bit S ≡ 0
unfolding laid sum_to
laid_none mask bit S = refl

-- one bit more, in a word of W digits
module _ (W k : ℕ) (mask bit : ℕ → ℕ) (small : bit k < 2) (w : ℕ) where
  pub laid_more : (S : ℕ) → S < W → digit w S ≡ laid k mask bit S → digit (bit_xor w (bit k * 2 ^ mask k % 2 ^ W)) S ≡ laid (k + 1) mask bit S
  unfolding laid sum_to
  laid_more S h so =
      rw add-one (xor-digit w (bit k * 2 ^ mask k % 2 ^ W) S ∙ omega (arith, so, bit_at (bit k) (mask k) W S small h))

-- those from n on, after the first n
module _ (W n k : ℕ) (mask bit : ℕ → ℕ) where
  laid_both : (S : ℕ) → (laid n mask bit S + laid k (λ i. mask (n + i)) (λ i. bit (n + i)) S) % 2 ≡ laid (n + k) mask bit S
  unfolding laid
  laid_both S = omega (arith, sum-split n k (λ i. given (eqb (mask i) S) (bit i)))

  laid-join : {x y : ℕ} → x ≡ number W (laid n mask bit) → y ≡ number W (laid k (λ i. mask (n + i)) (λ i. bit (n + i)))
      → bit_xor x y ≡ number W (laid (n + k) mask bit)
  laid-join {x} {y} ex ey =
      number_of (bit_xor x y) W (xor_lt W x y (rw ex (number_lt _ W first_small)) (rw ey (number_lt _ W next_small))) (λ S l.
      xor-digit x y S ∙ ap₂ (λ (a b : ℕ). (a + b) % 2) (digit-of ex first_small S l) (digit-of ey next_small S l) ∙ laid_both S)
    where
      first_small : (S : ℕ) → S < W → laid n mask bit S < 2
      first_small S l = laid-small n mask bit S

      next_small : (S : ℕ) → S < W → laid k (λ i. mask (n + i)) (λ i. bit (n + i)) S < 2
      next_small S l = laid-small k (λ i. mask (n + i)) (λ i. bit (n + i)) S

-- ---- all bits of a message laid at their masks

module _ (m : ℕ) where
  abbrev mask_at : ℕ → ℕ
  mask_at k = get_or (order m) k 0

  module _ (n bits : ℕ) (room : n ≤ 2 ^ m) (few : bits < 2 ^ n) (S : ℕ) where
    term : ℕ → ℕ
    term k = given (eqb (mask_at k) S) (digit bits k)

    other : (k : ℕ) → (mask_at k ≡ S → ⊥) → term k ≡ 0
    unfolding term
    other k h = rw (ne_eqb (mask_at k) S h)

    past-masks : 2 ^ m ≤ S → laid n mask_at (digit bits) S ≡ 0
    unfolding laid term
    past-masks l = ap (λ (x : ℕ). x % 2) (sum-zero n term (λ k h. other k (λ e. omega (arith, l, order_below m k (omega arith), e))))

    -- the bit at the place of a mask is the only one that has it
    at-mask : S < 2 ^ m → laid n mask_at (digit bits) S ≡ digit bits (place (order m) S)
    unfolding laid term
    at-mask l = go (dec_lt (place (order m) S) n)
      where
        there : (k : ℕ) → k < n → mask_at k ≡ S → k ≡ place (order m) S
        there k h e = sym (order-place m k (omega arith)) ∙ ap (place (order m)) e

        here : term (place (order m) S) ≡ digit bits (place (order m) S)
        here = rw (eq-eqb (mask_at (place (order m) S)) S (place-order m S l).1)

        go : Dec (place (order m) S < n) → sum_to n term % 2 ≡ digit bits (place (order m) S)
        go (yes d) =
            omega (
              arith,
              here,
              sum-at-most n term (place (order m) S) (λ k h e. other k (λ i. e (there k h i))),
              sum-term n term (place (order m) S) d,
            )
        go (no d) =
            ap (λ (x : ℕ). x % 2) (sum-zero n term (λ k h. other k (λ e. omega (arith, there k h e))))
            ∙ sym (digit-past bits n (place (order m) S) few (omega arith))

  laid-all : (n bits W : ℕ) → n ≤ 2 ^ m → bits < 2 ^ n → 2 ^ m ≤ W
      → number W (laid n mask_at (digit bits)) ≡ number (2 ^ m) (λ S. digit bits (place (order m) S))
  laid-all n bits W room few long =
      number-shorter (2 ^ m) W long (λ S l. past-masks n bits room few S l) ∙ number-ext (2 ^ m) (λ S l. at-mask n bits room few S l)

-- ---- as the code lays them: eight at a time, from a table, in a number of 64 digits

-- the bits of the first n masks of a table
abbrev pub laid_bits : List ℕ → ℕ → ℕ → ℕ → ℕ
laid_bits masks bits n = laid n (λ k. get_or masks k 0) (digit bits)

pub none_laid : (masks : List ℕ) (bits : ℕ) → number 64 (laid_bits masks bits 0) ≡ 0
none_laid masks bits = sum-zero 64 _ (λ S _. ap (λ (x : ℕ). x * 2 ^ S) (laid_none (λ k. get_or masks k 0) (digit bits) S) ∙ zero-mul (2 ^ S))

-- eight more
pub eight_more : (masks : List ℕ) (bits n : ℕ) {w y : ℕ} → w ≡ number 64 (laid_bits masks bits n)
    → y ≡ number 64 (laid 8 (λ k. get_or masks (n + k) 0) (λ k. digit bits (n + k))) → bit_xor w y ≡ number 64 (laid_bits masks bits (n + 8))
eight_more masks bits n = laid-join 64 n 8 (λ k. get_or masks k 0) (digit bits)

-- the first `len` masks are enough for degrees up to j
module _ {m n : ℕ} (e : m ≡ n) {os ps ds : List ℕ} (t : Right n os ps ds) (len bits r j : ℕ) where
  pub spread-all : bits < 2 ^ dimension r m → j < suc n → get_or ds j 0 ≤ len → len ≤ 2 ^ n → r ≤ j
      → number 64 (laid_bits (take len os) bits len) ≡ number (2 ^ m) (λ S. digit bits (place (order m) S))
  unfolding laid
  spread-all few inside enough room h =
      let most : dimension r n ≤ len = omega (arith, dimension-mono r j n h, dimension-entry refl t j inside) in
      let less : bits < 2 ^ len = omega (arith, few, ap (λ (x : ℕ). 2 ^ dimension r x) e, pow_mono most) in
      number-ext 64 (λ S _. ap (λ (x : ℕ). x % 2) (sum-ext len (λ k l. ap (λ (y : ℕ). given (eqb y S) (digit bits k)) (get_or-take len os k 0 l))))
      ∙ ap (λ (xs : List ℕ). number 64 (laid_bits xs bits len)) t.orders ∙ laid-all n len bits 64 room less (short t.tabled)
      ∙ ap (λ (x : ℕ). number (2 ^ x) (λ S. digit bits (place (order x) S))) (sym e)
