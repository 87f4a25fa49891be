-- The refusal of sending with an account by its tests, the account by the refusal, and the energies that are counted. Assumes nothing.
use Prim.Native.Nat.{ℕ}
use mathlib.Core.Path.{◌≡◌, refl}
use mathlib.Core.Bool.{Bool, true, false, cond}
use mathlib.Core.List.{List}
use native.Mathlib.Omega.{arith}
use lib.Dec.{eqb}
use borrow.Author.Tests.{ne_eqb, eqb-true, eqb-false}
use Rattle.e8.specs.Energy.{energy}
use Rattle.frames.specs.Free.{quiet_frame}
use Rattle.frames.specs.Sending.{send_refusal}
use Rattle.frames.proofs.Limits.{kind-high}
use Rattle.frames.proofs.Accepted.{all-passed}
use Rattle.free_bits.proofs.ReadBack.{quiet-energy-small}
use Rattle.power_account.specs.declared.Account.{Account}
use Rattle.power_account.specs.Power.{Measured, full, grown}
use Rattle.power_account.specs.Counted.{number_for, counted_refusal, counted_account}

-- ---- the refusal, by the tests

module _ (k b f : ℕ) (m : List ℕ) (n : ℕ) (a : Account) where
  pub by-sending : (send_refusal k b f m n ≡ 0 → ⊥) → send_refusal k b f m n ≡ counted_refusal k b f m n a
  unfolding counted_refusal
  by-sending h = let e : eqb (send_refusal k b f m n) 0 ≡ false = ne_eqb _ _ h in simp e

  pub no_room : send_refusal k b f m n ≡ 0 → full a ≡ true → 11 ≡ counted_refusal k b f m n a
  unfolding counted_refusal
  no_room z h = simp (z, h)

  pub accepts : send_refusal k b f m n ≡ 0 → full a ≡ false → 0 ≡ counted_refusal k b f m n a
  unfolding counted_refusal
  accepts z h = simp (z, h)

  -- back: a refusal of 0 says that sending's tests are passed, and that the account has room
  both : counted_refusal k b f m n a ≡ 0 → (send_refusal k b f m n ≡ 0) × (full a ≡ false)
  unfolding counted_refusal
  both q = go (send_refusal k b f m n) (eqb (send_refusal k b f m n) 0) (full a) refl q
    where
      go : (s : ℕ) (v t : Bool) → eqb s 0 ≡ v → cond v (cond {A = ℕ} t 11 0) s ≡ 0 → (s ≡ 0) × (t ≡ false)
      go s true true e q = absurd (omega arith)
      go s true false e q = (eqb-true s 0 e, refl)
      go s false t e q = absurd (eqb-false s 0 e q)

  pub passed : counted_refusal k b f m n a ≡ 0 → send_refusal k b f m n ≡ 0
  passed q = (both q).0

  pub room : counted_refusal k b f m n a ≡ 0 → full a ≡ false
  room q = (both q).1

-- ---- the account, by the refusal

module _ (refusal k b f : ℕ) (m : List ℕ) (a : Account) where
  pub account-refused : (refusal ≡ 0 → ⊥) → counted_account refusal k b f m a ≡ a
  unfolding counted_account
  account-refused h = rw (ne_eqb refusal 0 h)

  pub account-sent : refusal ≡ 0 → counted_account refusal k b f m a ≡ grown a (quiet_frame k b f (number_for a) m)
  unfolding counted_account
  account-sent z = rw z

-- what is sent for a message that is accepted, under any number, has a power
pub measured : (k b f number : ℕ) (m : List ℕ) (n : ℕ) → send_refusal k b f m n ≡ 0 → (e : ℕ) → e ≡ energy (quiet_frame k b f number m) → Measured e n
measured k b f number m n z e q =
    let p = all-passed k b f m n z in
    record {
      small = omega (arith, q, quiet-energy-small k b f p.kind p.grade p.few number m);
      exponent = k;
      short = omega (arith, kind-high k p.kind);
      is = p.coordinates;
    }
