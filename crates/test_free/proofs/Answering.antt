-- What the exported functions' numbers say is what the library's functions answer. Assumes nothing.
use Prim.Native.Nat.{ℕ, zero, suc}
use mathlib.Core.Path.{◌≡◌, refl, ap, ◌∙◌}
use mathlib.Core.Bool.{cond}
use mathlib.Core.List.{List}
use native.Mathlib.Omega.{arith}
use lib.Dec.{eqb}
use lib.IntN.{ℤ}
use borrow.Author.Tests.{ne_eqb}
use Rattle.e8.specs.Energy.{energy}
use Rattle.frames.specs.Free.{quiet_frame}
use Rattle.frames.specs.Sending.{send_refusal, energy_sent}
use Rattle.frames.specs.Reading.{open_refusal, strict_refusal, energy_read}
use Rattle.power_account.specs.declared.Account.{Account}
use Rattle.power_account.specs.Counted.{number_for, counted_refusal}
use Rattle.answers.specs.Answer.{answer_of, send_answer, open_answer, strict_answer, counted_answer}
use Rattle.test_free.specs.declared.calls.Answer.{Answer}
use Rattle.test_free.specs.declared.calls.Sent.{Sent}
use Rattle.test_free.specs.Judged.{answered, decoded}

abbrev pub together : Answer → Account → Sent
together a c = record { answer = a; account = c }

-- ---- an exported function's number holds the refusal number and the energy

decoded-answer : (n e : ℕ) {a : Answer} {z : ℤ} → a ≡ decoded z → z ≡ answer_of n e → a ≡ answered n (cond (eqb n 0) e 0)
unfolding decoded answer_of
decoded-answer n e p q = p ∙ ap decoded q ∙ go n
  where
    go : (n : ℕ) → decoded (answer_of n e) ≡ answered n (cond (eqb n 0) e 0)
    go zero = refl
    go (suc n) = rw (ne_eqb (suc n) 0 (λ z. omega (arith, z))) refl

module _ (k b f number : ℕ) {a : Answer} {z : ℤ} (is : a ≡ decoded z) where
  pub open-decoded : (x : List ℤ) (n : ℕ) → z ≡ open_answer k b f x n → a ≡ answered (open_refusal k b f x n) (energy_read (open_refusal k b f x n) x)
  unfolding open_answer energy_read
  open-decoded x n p = decoded-answer (open_refusal k b f x n) (energy x) is p

  pub strict-decoded : (x : List ℤ) (n : ℕ) → z ≡ strict_answer k b f number x n
      → a ≡ answered (strict_refusal k b f number x n) (energy_read (strict_refusal k b f number x n) x)
  unfolding strict_answer energy_read
  strict-decoded x n p = decoded-answer (strict_refusal k b f number x n) (energy x) is p

  pub sent-decoded : (m : List ℕ) (n : ℕ) → z ≡ send_answer k b f number m n
      → a ≡ answered (send_refusal k b f m n) (energy_sent (send_refusal k b f m n) k b f number m)
  unfolding send_answer energy_sent
  sent-decoded m n p = decoded-answer (send_refusal k b f m n) (energy (quiet_frame k b f number m)) is p

  pub counted-decoded : (m : List ℕ) (n : ℕ) (c : Account) → z ≡ counted_answer k b f m n c
      → a ≡ answered (counted_refusal k b f m n c) (energy_sent (counted_refusal k b f m n c) k b f (number_for c) m)
  unfolding counted_answer energy_sent
  counted-decoded m n c p = decoded-answer (counted_refusal k b f m n c) (energy (quiet_frame k b f (number_for c) m)) is p
