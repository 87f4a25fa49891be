-- The test of the bits of the masks, held in a number of W digits, and the words of the masks with more than r bits set. Assumes nothing.
use Prim.Native.Nat.{ℕ, ◌+◌, ◌-◌, ◌*◌, ◌%◌, ◌^◌, ◌≤◌, ◌<◌}
use mathlib.Core.Path.{◌≡◌, refl, sym, ap, ◌∙◌}
use mathlib.Core.Bool.{Bool, true, false, true≢false}
use mathlib.Core.List.{List, [], ◌∷◌}
use native.Mathlib.Nat.{zero-mul, mod-lt}
use native.Mathlib.Decide.{dec_lt, dec_le}
use native.Mathlib.Omega.{arith}
use lib.Dec.{eqb, ltb, lit<}
use lib.Bits.{bit_and}
use lib.Count.{ones}
use lib.Pow.{pow_pos}
use lib.ListN.{get_or}
use borrow.Author.Tests.{eq-eqb, ne_eqb, lt-ltb, le-ltb}
use Rattle.bits.specs.Number.{sum_to, table, given, number}
use Rattle.bits.proofs.Sum.{sum-zero}
use Rattle.bits.proofs.Table.{table_at}
use Rattle.bits.proofs.Message.{number_of, digit-of}
use Rattle.bits.proofs.Digits.{digit, digit-none, and-clear, and-keep, shift-digit, shift-low}
use Rattle.reed_muller.specs.Level.{weight, clear_above}
use Rattle.reed_muller.proofs.Belongs.{clear-true, clear_zero}

-- 0 is the number with no digit set
no-digits : (x W : ℕ) → x < 2 ^ W → ((p : ℕ) → p < W → digit x p ≡ 0) → x ≡ 0
no-digits x W l h = number_of x W l h ∙ sum-zero W _ (λ p u. zero-mul (2 ^ p))

-- whether mask S has more than r bits set
abbrev above : ℕ → ℕ → ℕ
above r S = given (ltb r (weight S)) 1

above-small : (r S : ℕ) → above r S < 2
above-small r S = go (ltb r (weight S))
  where
    go : (t : Bool) → given t 1 < 2
    go true = lit< tt
    go false = lit< tt

module _ (W r m b h : ℕ) (room : 2 ^ m ≤ W) (heavy : h ≡ number W (above r)) where
  heavy-digit : (S : ℕ) → S < W → digit h S ≡ above r S
  heavy-digit = digit-of heavy (λ S l. above-small r S)

  -- as the code computes it
  abbrev tested-bits : ℕ
  tested-bits = bit_and b h * 2 ^ (W - 2 ^ m) % 2 ^ W

  at-heavy : (S : ℕ) → S < 2 ^ m → r < weight S → digit (bit_and b h) S ≡ digit b S
  at-heavy S l w = and-keep b h S (heavy-digit S (omega arith) ∙ rw (lt-ltb r (weight S) w))

  at-light : (S : ℕ) → S < 2 ^ m → weight S ≤ r → digit (bit_and b h) S ≡ 0
  at-light S l w = and-clear b h S (heavy-digit S (omega arith) ∙ rw (le-ltb r (weight S) w))

  none_above : tested-bits ≡ 0 → (S : ℕ) → S < 2 ^ m → r < weight S → digit b S ≡ 0
  none_above e S l w =
      let back : W - 2 ^ m + S - (W - 2 ^ m) ≡ S = omega arith in
      sym (at-heavy S l w) ∙ ap (digit (bit_and b h)) (sym back)
      ∙ sym (shift-digit (bit_and b h) (W - 2 ^ m) W (W - 2 ^ m + S) (omega arith) (omega arith))
      ∙ ap (λ (x : ℕ). digit x (W - 2 ^ m + S)) e ∙ digit-none (W - 2 ^ m + S)

  none_left : ((S : ℕ) → S < 2 ^ m → r < weight S → digit b S ≡ 0) → tested-bits ≡ 0
  none_left z = no-digits tested-bits W (mod-lt _ (pow_pos W)) (λ p u. go p u (dec_lt p (W - 2 ^ m)))
    where
      here : (S : ℕ) → S < 2 ^ m → Dec (weight S ≤ r) → digit (bit_and b h) S ≡ 0
      here S l (yes w) = at-light S l w
      here S l (no w) = let u : r < weight S = omega arith in at-heavy S l u ∙ z S l u

      go : (p : ℕ) → p < W → Dec (p < W - 2 ^ m) → digit tested-bits p ≡ 0
      go p u (yes l) = shift-low (bit_and b h) (W - 2 ^ m) W p l u
      go p u (no l) =
          shift-digit (bit_and b h) (W - 2 ^ m) W p (omega arith) u
          ∙ here (p - (W - 2 ^ m)) (omega arith) (dec_le (weight (p - (W - 2 ^ m))) r)

  pub held-clear : eqb tested-bits 0 ≡ clear_above r (digit b) (2 ^ m)
  held-clear = go (clear_above r (digit b) (2 ^ m)) refl
    where
      go : (t : Bool) → clear_above r (digit b) (2 ^ m) ≡ t → eqb tested-bits 0 ≡ t
      go true e = eq-eqb tested-bits 0 (none_left (clear_zero r (digit b) (2 ^ m) e))
      go false e = ne_eqb tested-bits 0 (λ z. true≢false (sym (clear-true r (digit b) (2 ^ m) (none_above z)) ∙ e))

-- the words of the masks below 64 with more than r bits set
abbrev heavy-words : List ℕ
heavy-words = 18446744073709551614 ∷ 18446744069414518504 ∷ 18446461400418674816 ∷ 18368186720584761344 ∷ 16753531353454084096 ∷ 9223372036854775808 ∷ 0 ∷ []

heavy-words-right : heavy-words ≡ table 7 (λ r. number 64 (above r))
unfolding table sum_to ones
heavy-words-right = refl

pub heavy-word : (r : ℕ) → r < 7 → get_or heavy-words r 0 ≡ number 64 (above r)
heavy-word r hr = ap (λ (xs : List ℕ). get_or xs r 0) heavy-words-right ∙ table_at (λ r. number 64 (above r)) 7 r hr
