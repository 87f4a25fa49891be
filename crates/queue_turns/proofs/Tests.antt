-- The tests that a queue makes before anything is sent: the answer by those that were passed, and what an answer of 0 says. Assumes nothing.
use Prim.Native.Nat.{ℕ, ◌*◌, ◌/◌, ◌%◌, ◌^◌, ◌≤◌}
use mathlib.Core.Path.{◌≡◌, ap, ◌∙◌}
use mathlib.Core.Bool.{true}
use native.Mathlib.Nat.{mul_comm, mul-div_cancel_left, mul-mod_right, div-add-mod'}
use native.Mathlib.Omega.{arith}
use lib.Dec.{eqb}
use lib.Pow.{pow_pos}
use borrow.Author.Tests.{eq-eqb, ne_eqb, eqb-true}
use Rattle.frames.specs.Kind.{is_kind, is_grade, message_bytes}
use Rattle.frames.proofs.Limits.{some_bits, bytes-hold}
use Rattle.frames.proofs.Refusals.{passed}
use Rattle.queue_turns.specs.Queue.{queue_refusal}

-- a message has a byte
pub some_bytes : (k b : ℕ) → is_kind k ≡ true → is_grade b ≡ true → 1 ≤ message_bytes k b
some_bytes k b kind grade = omega (arith, some_bits k b kind grade, bytes-hold k b)

-- a whole number of pieces of m
whole : (x m : ℕ) → x % m ≡ 0 → x ≡ m * (x / m)
whole x m e = omega (arith, div-add-mod' x m, mul_comm m (x / m))

module _ (k b bytes n : ℕ) (good : (is_kind k ≡ true) × (is_grade b ≡ true)) where
  pub cut-message : (bytes % message_bytes k b ≡ 0 → ⊥) → 3 ≡ queue_refusal k b bytes n
  unfolding queue_refusal
  cut-message e = simp (good.0, good.1, ne_eqb _ _ e)

  module _ (messages : bytes % message_bytes k b ≡ 0) where
    other_length : (n ≡ 2 ^ k * (bytes / message_bytes k b) → ⊥) → 4 ≡ queue_refusal k b bytes n
    unfolding queue_refusal
    other_length e = simp (good.0, good.1, messages, ne_eqb _ _ e)

    -- a frame is cut, or there are more or fewer than messages
    pub cut-frame : (n % 2 ^ k ≡ 0 → ⊥) → 4 ≡ queue_refusal k b bytes n
    cut-frame e = other_length (λ q. e (ap (λ (x : ℕ). x % 2 ^ k) q ∙ mul-mod_right (2 ^ k) (bytes / message_bytes k b)))

    pub other-number : (n / 2 ^ k ≡ bytes / message_bytes k b → ⊥) → 4 ≡ queue_refusal k b bytes n
    other-number e = other_length (λ q. e (ap (λ (x : ℕ). x / 2 ^ k) q ∙ mul-div_cancel_left (bytes / message_bytes k b) (pow_pos k)))

    pub all_fit : n % 2 ^ k ≡ 0 → n / 2 ^ k ≡ bytes / message_bytes k b → 0 ≡ queue_refusal k b bytes n
    unfolding queue_refusal
    all_fit r q =
        let e : n ≡ 2 ^ k * (bytes / message_bytes k b) = whole n (2 ^ k) r ∙ ap (λ (x : ℕ). 2 ^ k * x) q in
        simp (good.0, good.1, messages, eq-eqb _ _ e)

-- back: what a queue has that passes them
pub record Fits (k b bytes n : ℕ) : Type 0 where
  pub kind : is_kind k ≡ true
  pub grade : is_grade b ≡ true
  pub messages : bytes ≡ message_bytes k b * (bytes / message_bytes k b)
  pub coordinates : n ≡ 2 ^ k * (bytes / message_bytes k b)

pub fits : (k b bytes n : ℕ) → queue_refusal k b bytes n ≡ 0 → Fits k b bytes n
unfolding queue_refusal
fits k b bytes n e =
    let e₁ = passed (is_kind k) 0 _ e in
    let e₂ = passed (is_grade b) 1 _ e₁.1 in
    let e₃ = passed (eqb (bytes % message_bytes k b) 0) 2 _ e₂.1 in
    let e₄ = passed (eqb n (2 ^ k * (bytes / message_bytes k b))) 3 0 e₃.1 in
    record {
      kind = e₁.0;
      grade = e₂.0;
      messages = whole bytes (message_bytes k b) (eqb-true _ _ e₃.0);
      coordinates = eqb-true _ _ e₄.0;
    }
