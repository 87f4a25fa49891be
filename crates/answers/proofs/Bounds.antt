-- What is reported by the functions that are exported: energies fit a signed number (at most 2^20 for a sent frame, 2^54 for a frame that
-- is read), and the answer is made from them and the refusal number; an account is that of its lent numbers, since its changeover stays.
-- Assumes nothing.
use Prim.Native.Nat.{ℕ, zero, suc, ◌^◌, ◌≤◌}
use mathlib.Core.Path.{◌≡◌, refl, sym, ap, subst, ◌∙◌}
use mathlib.Core.Bool.{Bool, true, false, cond}
use mathlib.Core.List.{List}
use native.Mathlib.Omega.{arith}
use lib.Dec.{eqb}
use lib.IntN.{ℤ, pos, negsuc, neg_ℤ, nat_abs}
use lib.Ieee.{Float}
use borrow.Author.Tests.{eqb-true, eq-eqb, ne_eqb}
use Rattle.e8.specs.Energy.{energy}
use Rattle.frames.specs.Free.{quiet_frame}
use Rattle.frames.specs.Sending.{send_refusal, energy_sent, LeastOfFillings}
use Rattle.frames.specs.Reading.{largest_read, open_refusal, strict_refusal, energy_read}
use Rattle.frames.proofs.Accepted.{all-passed}
use Rattle.frames.proofs.Refusals.{accepted, range-within}
use Rattle.frames.proofs.Limits.{few-positions}
use Rattle.frames.proofs.Bounds.{short-energy}
use Rattle.free_bits.proofs.ReadBack.{quiet-energy-small}
use Rattle.free_bits.proofs.Strict.{strict-passed}
use Rattle.power_account.specs.declared.Account.{Account}
use Rattle.power_account.specs.Counted.{number_for, counted_refusal}
use Rattle.power_account.proofs.Answers.{passed}
use Rattle.near_reading.specs.Answer.{near_number, near_distance}
use Rattle.answers.specs.Answer.{answer_of, send_answer, open_answer, strict_answer, account_of, counted_answer, near_code, near_held}

-- the energy that stands with a refusal number says nothing
answer-is : (number e : ℕ) → answer_of number (cond (eqb number 0) e 0) ≡ answer_of number e
unfolding answer_of
answer-is number e = go (eqb number 0)
  where
    go : (v : Bool) → cond v (pos (cond v e 0)) (neg_ℤ (pos number)) ≡ cond v (pos e) (neg_ℤ (pos number))
    go true = refl
    go false = refl

-- what is promised where sending answers 0, where the answer is an energy: no refusal's is
is_negative : ℤ → ℕ
is_negative (pos n) = 0
is_negative (negsuc n) = 1

module _ (k b f number : ℕ) (bytes : List ℕ) (frame : List ℤ) where
  pub least-answer : (refusal e : ℕ) → (refusal ≡ 0 → LeastOfFillings k b f number bytes frame e)
      → (r : ℤ) → r ≡ answer_of refusal e → (e' : ℕ) → r ≡ pos e' → LeastOfFillings k b f number bytes frame e'
  unfolding answer_of is_negative
  least-answer zero e h r q e' p = subst (LeastOfFillings k b f number bytes frame) (ap nat_abs (sym q ∙ p)) (h refl)
  least-answer (suc n) e h r q e' p =
      let is = q ∙ ap (λ (t : Bool). cond t (pos e) (negsuc n)) (ne_eqb (suc n) 0 (λ z. omega (arith, z))) in
      let o : ◌≡◌ {A = ℕ} 1 0 = ap is_negative (sym is ∙ p) in
      absurd (omega (arith, o))

pub send-answer : (refusal k b f number : ℕ) (bytes : List ℕ) (n : ℕ) → refusal ≡ send_refusal k b f bytes n
    → answer_of refusal (energy_sent refusal k b f number bytes) ≡ send_answer k b f number bytes n
unfolding send_answer energy_sent
send-answer refusal k b f number bytes n e =
    answer-is refusal (energy (quiet_frame k b f number bytes)) ∙ ap (λ (m : ℕ). answer_of m (energy (quiet_frame k b f number bytes))) e

pub open-answer : (refusal k b f : ℕ) (frame : List ℤ) (n : ℕ) → refusal ≡ open_refusal k b f frame n
    → answer_of refusal (energy_read refusal frame) ≡ open_answer k b f frame n
unfolding open_answer energy_read
open-answer refusal k b f frame n e = answer-is refusal (energy frame) ∙ ap (λ (m : ℕ). answer_of m (energy frame)) e

pub strict-answer : (refusal k b f number : ℕ) (frame : List ℤ) (n : ℕ) → refusal ≡ strict_refusal k b f number frame n
    → answer_of refusal (energy_read refusal frame) ≡ strict_answer k b f number frame n
unfolding strict_answer energy_read
strict-answer refusal k b f number frame n e = answer-is refusal (energy frame) ∙ ap (λ (m : ℕ). answer_of m (energy frame)) e

-- an answer that is 0 unless a test is passed
either : (t : Bool) (e B : ℕ) → (t ≡ true → e ≤ B) → cond t e 0 ≤ B
either true e B h = h refl
either false e B h = omega arith

pub sent-fits : (refusal k b f number : ℕ) (bytes : List ℕ) (n : ℕ) → refusal ≡ send_refusal k b f bytes n → energy_sent refusal k b f number bytes ≤ 2 ^ 54
unfolding energy_sent
sent-fits refusal k b f number bytes n e = either (eqb refusal 0) (energy (quiet_frame k b f number bytes)) (2 ^ 54) (λ t.
    let p = all-passed k b f bytes n (sym e ∙ eqb-true refusal 0 t) in
    omega (arith, quiet-energy-small k b f p.kind p.grade p.few number bytes))

pub taken-energy : (k b f : ℕ) (frame : List ℤ) (n : ℕ) → open_refusal k b f frame n ≡ 0 → energy frame ≤ 2 ^ 54
taken-energy k b f frame n e =
    let a = accepted k b f frame n e in
    omega (arith, short-energy 64 largest_read frame (omega (arith, a.coordinates, few-positions k a.kind)) (range-within frame a.range))

pub open-fits : (refusal k b f : ℕ) (frame : List ℤ) (n : ℕ) → refusal ≡ open_refusal k b f frame n → energy_read refusal frame ≤ 2 ^ 54
unfolding energy_read
open-fits refusal k b f frame n e = either (eqb refusal 0) (energy frame) (2 ^ 54) (λ t. taken-energy k b f frame n (sym e ∙ eqb-true refusal 0 t))

pub strict-fits : (refusal k b f number : ℕ) (frame : List ℤ) (n : ℕ) → refusal ≡ strict_refusal k b f number frame n → energy_read refusal frame ≤ 2 ^ 54
unfolding energy_read
strict-fits refusal k b f number frame n e =
    either (eqb refusal 0) (energy frame) (2 ^ 54) (λ t. taken-energy k b f frame n (strict-passed k b f number frame n (sym e ∙ eqb-true refusal 0 t)).0)

-- ---- sending with an account: the energy and the answer, by the refusal refusal

module _ (k b f : ℕ) (bytes : List ℕ) (n : ℕ) (a : Account) (refusal : ℕ) (is : refusal ≡ counted_refusal k b f bytes n a) where
  pub counted-fits : energy_sent refusal k b f (number_for a) bytes ≤ 2 ^ 54
  unfolding energy_sent
  counted-fits = either (eqb refusal 0) (energy (quiet_frame k b f (number_for a) bytes)) (2 ^ 54) (λ t.
      let p = all-passed k b f bytes n (passed k b f bytes n a (sym is ∙ eqb-true refusal 0 t)) in
      omega (arith, quiet-energy-small k b f p.kind p.grade p.few (number_for a) bytes))

  pub counted-answer : answer_of refusal (energy_sent refusal k b f (number_for a) bytes) ≡ counted_answer k b f bytes n a
  unfolding counted_answer energy_sent
  counted-answer =
      answer-is refusal (energy (quiet_frame k b f (number_for a) bytes)) ∙ ap (λ (m : ℕ). answer_of m (energy (quiet_frame k b f (number_for a) bytes))) is

-- an account of a changeover, from its three other numbers
pub account-of : (a : Account) (changeover : ℕ) → a.changeover ≡ changeover → account_of a.count a.sum a.largest changeover ≡ a
account-of a changeover e = ap (account_of a.count a.sum a.largest) (sym e)

-- ---- the near reading: its answer, and the distance that is held, by the number

module _ (k b : ℕ) (xs : List Float) (n : ℕ) where
  pub near-code : (number : ℕ) → number ≡ near_number k b xs n → answer_of number 0 ≡ near_code k b xs n
  unfolding near_code
  near-code number e = ap (λ (m : ℕ). answer_of m 0) e

  pub near-stored : (lent : Float) → near_number k b xs n ≡ 0 → near_distance k b xs n ≡ near_held k b xs n lent
  unfolding near_held
  near-stored lent e = sym (ap (λ (t : Bool). cond t (near_distance k b xs n) lent) (eq-eqb (near_number k b xs n) 0 e))

  pub near-left : (lent : Float) → (near_number k b xs n ≡ 0 → ⊥) → lent ≡ near_held k b xs n lent
  unfolding near_held
  near-left lent h = sym (ap (λ (t : Bool). cond t (near_distance k b xs n) lent) (ne_eqb (near_number k b xs n) 0 h))
