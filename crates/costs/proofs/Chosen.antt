-- The nearest word of level 1, written from the last coordinate to the first, with the costs of its changes. Assumes nothing.
use Prim.Native.Nat.{ℕ, ◌+◌, ◌-◌, ◌*◌, ◌/◌, ◌%◌, ◌^◌, ◌≤◌, ◌<◌}
use mathlib.Core.Path.{◌≡◌, sym, ap, ap₂, ◌∙◌, subst}
use mathlib.Core.Bool.{Bool, true, false}
use mathlib.Core.List.{List}
use native.Mathlib.Decide.{ℕ_discrete}
use native.Mathlib.Omega.{arith}
use lib.Pow.{pow_pos}
use lib.Dec.{ltb}
use lib.ListN.{length, get_or, set, length-set}
use lib.Seq.{get_or-set_same, get_or-set_other}
use lib.IntN.{ℤ}
use borrow.Author.Tests.{lt-ltb, le-ltb}
use Rattle.bits.specs.Number.{table, given, bit_of}
use Rattle.bits.proofs.Message.{number_lt, number_bit, number_of, bytes-are}
use Rattle.bits.proofs.Digits.{digits_more, digits-fit}
use Rattle.costs.specs.Costs.{cost_at, nearest_word, change_costs}

-- two values written before those that stand there already
stored-before : (g : ℕ → ℕ) (f : List ℕ) (n p v w : ℕ) → p + 1 < length f → v ≡ g p → w ≡ g (p + 1)
    → ((q : ℕ) → p + 2 ≤ q → q < n → get_or f q 0 ≡ g q) → (q : ℕ) → p ≤ q → q < n → get_or (set (set f p v) (p + 1) w) q 0 ≡ g q
stored-before g f n p v w room e k so q l h = go (ℕ_discrete q p) (ℕ_discrete q (p + 1))
  where
    go : Dec (q ≡ p) → Dec (q ≡ p + 1) → get_or (set (set f p v) (p + 1) w) q 0 ≡ g q
    go (yes s) t =
        ap (λ (i : ℕ). get_or (set (set f p v) (p + 1) w) i 0) s ∙ get_or-set_other (set f p v) (p + 1) p w 0 (λ z. omega arith)
        ∙ get_or-set_same f p v 0 (omega arith) ∙ e ∙ ap g (sym s)
    go (no s) (yes t) =
        ap (λ (i : ℕ). get_or (set (set f p v) (p + 1) w) i 0) t ∙ get_or-set_same (set f p v) (p + 1) w 0 (omega (arith, room, length-set f p v)) ∙ k ∙ ap g (sym t)
    go (no s) (no t) = get_or-set_other (set f p v) (p + 1) q w 0 t ∙ get_or-set_other f p q v 0 s ∙ so q (omega arith) h

module _ (t : List ℤ) (a : ℕ) where
  -- its bit at p
  abbrev choice : ℕ → ℕ
  choice p = given (ltb (cost_at 512 t p (bit_of a p + 2)) (cost_at 512 t p (bit_of a p))) 1

  choice-small : (p : ℕ) → choice p < 2
  choice-small p = go (ltb (cost_at 512 t p (bit_of a p + 2)) (cost_at 512 t p (bit_of a p)))
    where
      go : (b : Bool) → given b 1 < 2
      go true = omega arith
      go false = omega arith

  choice-one : (p : ℕ) → cost_at 512 t p (bit_of a p + 2) < cost_at 512 t p (bit_of a p) → choice p ≡ 1
  choice-one p h = rw (lt-ltb (cost_at 512 t p (bit_of a p + 2)) (cost_at 512 t p (bit_of a p)) h)

  choice-zero : (p : ℕ) → cost_at 512 t p (bit_of a p) ≤ cost_at 512 t p (bit_of a p + 2) → choice p ≡ 0
  choice-zero p h = rw (le-ltb (cost_at 512 t p (bit_of a p + 2)) (cost_at 512 t p (bit_of a p)) h)

  pub nearest-low : nearest_word t a < 2 ^ length t
  unfolding nearest_word
  nearest-low = number_lt choice (length t) (λ p l. choice-small p)

  nearest-bit : (p : ℕ) → p < length t → bit_of (nearest_word t a) p ≡ choice p
  unfolding nearest_word
  nearest-bit = number_bit choice (length t) (λ p l. choice-small p)

  -- what stands at i
  abbrev entry : ℕ → ℕ
  entry i = cost_at 512 t (i / 2) (bit_of a (i / 2) + 2 * ((choice (i / 2) + i % 2) % 2))

  entry_at : (p b : ℕ) → b < 2 → (x : ℕ) → (choice p + b) % 2 ≡ x → entry (2 * p + b) ≡ cost_at 512 t p (bit_of a p + 2 * x)
  entry_at p b l x e =
      let q : (2 * p + b) / 2 ≡ p = omega arith in
      let r : (2 * p + b) % 2 ≡ b = omega arith in
      ap₂ (λ (q r : ℕ). cost_at 512 t q (bit_of a q + 2 * ((choice q + r) % 2))) q r ∙ ap (λ (y : ℕ). cost_at 512 t p (bit_of a p + 2 * y)) e

  -- the bits and costs from p on are there
  pub record Chosen (costs : List ℕ) (word p : ℕ) : Type 0 where
    pub within : p ≤ length t
    pub long : length costs ≡ 2 * length t
    pub bits : (i : ℕ) → p + i < length t → bit_of word i ≡ choice (p + i)
    pub fits : word < 2 ^ (length t - p)
    pub held : (i : ℕ) → 2 * p ≤ i → i < 2 * length t → get_or costs i 0 ≡ entry i

  pub chosen-first : (costs : List ℕ) → length costs ≡ 2 * length t → Chosen costs 0 (length t)
  chosen-first costs e = record {
    within = omega arith;
    long = e;
    bits = λ i h. absurd (omega arith);
    fits = pow_pos (length t - length t);
    held = λ i l h. absurd (omega arith);
  }

  module _ (costs : List ℕ) (word p : ℕ) (so : Chosen costs word p) (h : 0 < p) where
    abbrev q : ℕ
    q = p - 1

    more : (b x y : ℕ) → b ≡ choice q → x ≡ entry (2 * q) → y ≡ entry (2 * q + 1) → Chosen (set (set costs (2 * q) x) (2 * q + 1) y) (2 * word + b) q
    more b x y e u v = record {
      within = omega (arith, so.within);
      long = length-set (set costs (2 * q) x) (2 * q + 1) y ∙ length-set costs (2 * q) x ∙ so.long;
      bits = subst (λ (c : ℕ). (i : ℕ) → q + i < length t → bit_of (2 * word + c) i ≡ choice (q + i)) (sym e)
          (digits_more choice (length t) p word h (choice-small q) so.bits);
      fits = subst (λ (c : ℕ). 2 * word + c < 2 ^ (length t - q)) (sym e)
          (digits-fit choice (length t) p word h (choice-small q) so.within so.fits);
      held = stored-before entry costs (2 * length t) (2 * q) x y (omega (arith, so.long, so.within)) u v (λ i l. so.held i (omega arith));
    }

    -- x is the cost of bit 0, y that of bit 1: 1 costs less
    pub chosen-one : (x y : ℕ) → x ≡ cost_at 512 t (p - 1) (bit_of a (p - 1)) → y ≡ cost_at 512 t (p - 1) (bit_of a (p - 1) + 2) → y < x
        → Chosen (set (set costs (2 * (p - 1)) y) (2 * (p - 1) + 1) x) (2 * word + 1) (p - 1)
    chosen-one x y z o l = more 1 y x (sym is)
        (o ∙ sym (ap entry s ∙ entry_at q 0 (omega arith) 1 (omega (arith, is))))
        (z ∙ ap (cost_at 512 t q) r ∙ sym (entry_at q 1 (omega arith) 0 (omega (arith, is))))
      where
        is : choice (p - 1) ≡ 1
        is = choice-one (p - 1) (omega (arith, z, o, l))

        s : 2 * (p - 1) ≡ 2 * (p - 1) + 0
        s = omega arith

        r : bit_of a (p - 1) ≡ bit_of a (p - 1) + 2 * 0
        r = omega arith

    -- 1 does not cost less
    pub chosen-zero : (x y : ℕ) → x ≡ cost_at 512 t (p - 1) (bit_of a (p - 1)) → y ≡ cost_at 512 t (p - 1) (bit_of a (p - 1) + 2) → x ≤ y
        → Chosen (set (set costs (2 * (p - 1)) x) (2 * (p - 1) + 1) y) (2 * word) (p - 1)
    chosen-zero x y z o l = subst (λ (v : ℕ). Chosen (set (set costs (2 * q) x) (2 * q + 1) y) v q) w (more 0 x y (sym is)
        (z ∙ ap (cost_at 512 t q) r ∙ sym (ap entry s ∙ entry_at q 0 (omega arith) 0 (omega (arith, is))))
        (o ∙ sym (entry_at q 1 (omega arith) 1 (omega (arith, is)))))
      where
        is : choice (p - 1) ≡ 0
        is = choice-zero (p - 1) (omega (arith, z, o, l))

        s : 2 * (p - 1) ≡ 2 * (p - 1) + 0
        s = omega arith

        r : bit_of a (p - 1) ≡ bit_of a (p - 1) + 2 * 0
        r = omega arith

        w : 2 * word + 0 ≡ 2 * word
        w = omega arith

  module _ (costs : List ℕ) (word : ℕ) (so : Chosen costs word 0) where
    pub chosen-word : word ≡ nearest_word t a
    unfolding nearest_word
    chosen-word =
        let n : length t - 0 ≡ length t = omega arith in
        number_of word (length t) (subst (λ (m : ℕ). word < 2 ^ m) n so.fits)
        (λ i l. let z : 0 + i ≡ i = omega arith in so.bits i (omega arith) ∙ ap choice z)

    pub chosen-costs : costs ≡ change_costs t a (nearest_word t a)
    unfolding change_costs
    chosen-costs = sym (bytes-are costs g (λ i l. let j : i < 2 * length t = omega (arith, l, so.long) in sym (so.held i (omega arith) j ∙ same i j))) ∙ ap (λ (n : ℕ). table n g) so.long
      where
        g : ℕ → ℕ
        g i = cost_at 512 t (i / 2) (bit_of a (i / 2) + 2 * ((bit_of (nearest_word t a) (i / 2) + i % 2) % 2))

        same : (i : ℕ) → i < 2 * length t → entry i ≡ g i
        same i l = ap (λ (b : ℕ). cost_at 512 t (i / 2) (bit_of a (i / 2) + 2 * ((b + i % 2) % 2))) (sym (nearest-bit (i / 2) (omega arith)))
