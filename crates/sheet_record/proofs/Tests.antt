-- What a whole record is, and its number. Assumes nothing.
use Prim.Native.Nat.{ℕ, ◌+◌, ◌-◌, ◌^◌, ◌≤◌}
use mathlib.Core.Path.{◌≡◌, ap, ◌∙◌}
use mathlib.Core.Bool.{true, false}
use mathlib.Core.List.{List}
use native.Mathlib.Omega.{arith}
use lib.Dec.{eqb, leb}
use lib.ListN.{length, take, drop}
use borrow.Author.Tests.{eq-eqb, ne_eqb, leb-true}
use Rattle.frames.specs.Kind.{is_kind, is_grade, message_bytes}
use Rattle.frames.specs.Sending.{send_refusal}
use Rattle.frames.proofs.Refusals.{passed}
use Rattle.sheet_record.specs.Record.{marked, kind_at, grade_at, message_at, end_at, record_refusal, record_number}

pub record Whole (s : List ℕ) (p : ℕ) : Type 0 where
  pub kind : is_kind (kind_at s p) ≡ true
  pub grade : is_grade (grade_at s p) ≡ true
  pub ends : end_at s p ≤ length s

pub whole-record : (s : List ℕ) (p : ℕ) → record_refusal s p ≡ 0 → Whole s p
unfolding record_refusal
whole-record s p e =
    let e₁ = passed (marked s p) 9 _ e in
    let e₂ = passed (leb (p + 3) (length s)) 2 _ e₁.1 in
    let e₃ = passed (is_kind (kind_at s p)) 0 _ e₂.1 in
    let e₄ = passed (leb (p + 4) (length s)) 2 _ e₃.1 in
    let e₅ = passed (is_grade (grade_at s p)) 1 _ e₄.1 in
    let e₆ = passed (leb (end_at s p) (length s)) 2 _ e₅.1 in
    record { kind = e₃.0; grade = e₅.0; ends = leb-true _ _ e₆.0 }

-- ---- the number of a record, by its refusal

module _ (s : List ℕ) (p : ℕ) where
  pub number-refused : (record_refusal s p ≡ 0 → ⊥) → record_number s p ≡ record_refusal s p
  unfolding record_number
  number-refused n = let e : eqb (record_refusal s p) 0 ≡ false = ne_eqb _ _ n in simp e

  pub number-sent : record_refusal s p ≡ 0 → record_number s p ≡ send_refusal (kind_at s p) (grade_at s p) 0 (message_at s p) (2 ^ kind_at s p)
  unfolding record_number
  number-sent z = let e : eqb (record_refusal s p) 0 ≡ true = eq-eqb _ _ z in simp e

-- the message, as the code takes it
pub message-is : (s : List ℕ) (p n : ℕ) → n ≡ message_bytes (kind_at s p) (grade_at s p) → take (p + 4 + n - (p + 4)) (drop (p + 4) s) ≡ message_at s p
message-is s p n e = let q : p + 4 + n - (p + 4) ≡ n = omega arith in ap (λ (m : ℕ). take m (drop (p + 4) s)) (q ∙ e)
