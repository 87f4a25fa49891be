-- What the place holds that is lent for the one after a written record, and that the energy of a record that is read fits. Assumes nothing.
use Prim.Native.Nat.{ℕ, ◌^◌, ◌≤◌}
use mathlib.Core.Path.{◌≡◌, refl, ap}
use mathlib.Core.Bool.{Bool, true, false, cond}
use mathlib.Core.List.{List}
use native.Mathlib.Omega.{arith}
use lib.Dec.{eqb}
use borrow.Author.Tests.{eqb-true}
use Rattle.e8.specs.Energy.{energy}
use Rattle.frames.specs.Kind.{message_bytes}
use Rattle.records.specs.Record.{kind_at, grade_at, number_at, frame_at, end_at}
use Rattle.records.specs.Writing.{RecordWritten, write_answer}
use Rattle.records.specs.Reading.{RecordRead, read_refusal, refused_by, read_answer}
use Rattle.records.proofs.Tests.{read-passed}
use Rattle.answers.specs.Answer.{write_held}
use Rattle.answers.proofs.Bounds.{taken-energy}
use Rattle.free_bits.proofs.Strict.{strict-passed}

-- ---- the writer

module _ (k b : ℕ) (bytes : List ℕ) (p l : ℕ) (r : RecordWritten) (is : r ≡ write_answer k b bytes p l) where
  pub held : (lent : ℕ) → cond (eqb r.refusal 0) r.next lent ≡ write_held k b bytes p l lent
  unfolding write_held
  held lent = ap (λ (w : RecordWritten). cond (eqb w.refusal 0) w.next lent) is

-- ---- the reader

module _ (s : List ℕ) (p n : ℕ) (r : RecordRead) (is : r ≡ read_answer s p n) where
  -- the energy fits
  pub read_fits : r.energy ≤ 2 ^ 54
  unfolding read_answer
  read_fits = rw is (go (eqb (read_refusal s p n) 0) refl)
    where
      go : (t : Bool) → eqb (read_refusal s p n) 0 ≡ t
          → (cond t (record { refusal = 0; kind = kind_at s p; grade = grade_at s p; number = number_at s p; energy = energy (frame_at s p); next = end_at s p })
          (refused_by (read_refusal s p n))).energy ≤ 2 ^ 54
      go true e =
          let k = kind_at s p in
          let b = grade_at s p in
          taken-energy k b 0 (frame_at s p) (message_bytes k b)
          (strict-passed k b 0 (number_at s p) (frame_at s p) (message_bytes k b) (read-passed s p n (eqb-true (read_refusal s p n) 0 e)).1).0
      go false e = omega arith
