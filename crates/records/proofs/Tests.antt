-- The answers of the writer and of the reader by the tests that were passed, and what an answer of 0 says. Assumes nothing.
use Prim.Native.Nat.{ℕ, ◌+◌, ◌^◌, ◌≤◌}
use mathlib.Core.Path.{◌≡◌, refl, sym, ◌∙◌}
use mathlib.Core.Bool.{Bool, true, false, cond}
use mathlib.Core.List.{List}
use lib.Dec.{eqb, leb}
use lib.IntN.{ℤ}
use lib.ListN.{length}
use borrow.Author.Tests.{eq-eqb, ne_eqb, eqb-true, eqb-false, leb-true}
use Rattle.e8.specs.Energy.{energy}
use Rattle.frames.specs.Kind.{is_kind, is_grade}
use Rattle.frames.specs.Sending.{send_refusal, unless, Accepts}
use Rattle.frames.proofs.Refusals.{passed}
use Rattle.octets.specs.Place.{put_at}
use Rattle.records.specs.Record.{sent_record, record_bytes, marked, kind_at, grade_at, number_at, frame_at, end_at}
use Rattle.records.specs.Writing.{write_refusal, write_answer, buffer_after}
use Rattle.records.specs.Reading.{RecordRead, head_refusal, strict_at, read_refusal, refused_by, read_answer, frame_read}

-- where the first answer is 0, the second is given
first-zero : (x next : ℕ) → cond (eqb x 0) next x ≡ 0 → (x ≡ 0) × (next ≡ 0)
first-zero x next e = go (eqb x 0) refl e
  where
    go : (t : Bool) → eqb x 0 ≡ t → cond t next x ≡ 0 → (x ≡ 0) × (next ≡ 0)
    go true z e = (eqb-true x 0 z, e)
    go false z e = absurd (eqb-false x 0 z e)

-- ---- the writer

pub room : (k b : ℕ) (bytes : List ℕ) (p l : ℕ) → send_refusal k b 0 bytes (2 ^ k) ≡ 0 → leb (p + record_bytes k) l ≡ true → 0 ≡ write_refusal k b bytes p l
unfolding write_refusal
room k b bytes p l sent e = rw (eq-eqb (send_refusal k b 0 bytes (2 ^ k)) 0 sent, e)

-- back: what is written
pub record Writable (k b : ℕ) (bytes : List ℕ) (p l : ℕ) : Type 0 where
  pub sent : Accepts k b 0 bytes
  pub fits : p + record_bytes k ≤ l

pub writable : (k b : ℕ) (bytes : List ℕ) (p l : ℕ) → write_refusal k b bytes p l ≡ 0 → Writable k b bytes p l
unfolding write_refusal
writable k b bytes p l e =
    let t = first-zero (send_refusal k b 0 bytes (2 ^ k)) (unless (leb (p + record_bytes k) l) 19 0) e in
    record { sent = t.0; fits = leb-true (p + record_bytes k) l (passed (leb (p + record_bytes k) l) 18 0 t.1).0 }

-- what is answered and left, by the refusal
module _ (k b number : ℕ) (bytes : List ℕ) (p : ℕ) (o : List ℕ) where
  pub write-refused : (refusal : ℕ) → refusal ≡ write_refusal k b bytes p (length o) → (refusal ≡ 0 → ⊥)
      → (record { refusal = refusal; next = 0 } ≡ write_answer k b bytes p (length o)) × (o ≡ buffer_after k b number bytes p o)
  unfolding write_answer buffer_after
  write-refused refusal e n =
      let q : eqb (write_refusal k b bytes p (length o)) 0 ≡ false = ne_eqb _ _ (λ z. n (e ∙ z)) in (rw (q, e), rw q)

  pub write-passed : (refusal : ℕ) → refusal ≡ write_refusal k b bytes p (length o) → refusal ≡ 0
      → (record { refusal = refusal; next = p + record_bytes k } ≡ write_answer k b bytes p (length o))
      × (put_at o p (sent_record k b number bytes) ≡ buffer_after k b number bytes p o)
  unfolding write_answer buffer_after
  write-passed refusal e z =
      let q : eqb (write_refusal k b bytes p (length o)) 0 ≡ true = eq-eqb _ _ (sym e ∙ z) in (rw (q, e), rw q)

-- ---- the reader

module _ (s : List ℕ) (p : ℕ) where
  pub mark-cut : leb (p + 2) (length s) ≡ false → false ≡ marked s p
  unfolding marked
  mark-cut h = simp h

  pub no-mark : (n : ℕ) → marked s p ≡ false → 10 ≡ head_refusal s p n
  unfolding head_refusal
  no-mark n e = simp e

  pub whole : (n : ℕ) → marked s p ≡ true → leb (p + 3) (length s) ≡ true → is_kind (kind_at s p) ≡ true → leb (p + 4) (length s) ≡ true
      → is_grade (grade_at s p) ≡ true → n ≡ 2 ^ kind_at s p → leb (end_at s p) (length s) ≡ true → 0 ≡ head_refusal s p n
  unfolding head_refusal
  whole n mark h₃ kind h₄ grade long h = simp (mark, h₃, kind, h₄, grade, eq-eqb _ _ long, h)

-- back: a whole record
pub record Whole (s : List ℕ) (p n : ℕ) : Type 0 where
  pub mark : marked s p ≡ true
  pub kind : is_kind (kind_at s p) ≡ true
  pub grade : is_grade (grade_at s p) ≡ true
  pub long : n ≡ 2 ^ kind_at s p
  pub ends : end_at s p ≤ length s

pub whole-record : (s : List ℕ) (p n : ℕ) → head_refusal s p n ≡ 0 → Whole s p n
unfolding head_refusal
whole-record s p n e =
    let e₁ = passed (marked s p) 9 _ e in
    let e₂ = passed (leb (p + 3) (length s)) 18 _ e₁.1 in
    let e₃ = passed (is_kind (kind_at s p)) 0 _ e₂.1 in
    let e₄ = passed (leb (p + 4) (length s)) 18 _ e₃.1 in
    let e₅ = passed (is_grade (grade_at s p)) 1 _ e₄.1 in
    let e₆ = passed (eqb n (2 ^ kind_at s p)) 3 _ e₅.1 in
    let e₇ = passed (leb (end_at s p) (length s)) 18 _ e₆.1 in
    record { mark = e₁.0; kind = e₃.0; grade = e₅.0; long = eqb-true _ _ e₆.0; ends = leb-true _ _ e₇.0 }

pub read-passed : (s : List ℕ) (p n : ℕ) → read_refusal s p n ≡ 0 → (head_refusal s p n ≡ 0) × (strict_at s p ≡ 0)
unfolding read_refusal
read-passed s p n e = first-zero (head_refusal s p n) (strict_at s p) e

-- the number that a call answers is that of its tests
pub answered : (s : List ℕ) (p n : ℕ) → (read_answer s p n).refusal ≡ read_refusal s p n
unfolding read_answer
answered s p n = go (read_refusal s p n) _ refl (eqb (read_refusal s p n) 0) refl
  where
    go : (x : ℕ) (r : RecordRead) → r.refusal ≡ 0 → (t : Bool) → eqb x 0 ≡ t → (cond t r (refused_by x)).refusal ≡ x
    go x r z true e = z ∙ sym (eqb-true x 0 e)
    go x r z false e = refl

-- what is answered and left, by the tests
module _ (s : List ℕ) (p : ℕ) (f : List ℤ) where
  pub answer-refused : (read_refusal s p (length f) ≡ 0 → ⊥) → (refused_by (read_refusal s p (length f)) ≡ read_answer s p (length f)) × (f ≡ frame_read s p f)
  unfolding read_answer frame_read
  answer-refused n = let q : eqb (read_refusal s p (length f)) 0 ≡ false = ne_eqb _ _ n in (rw q, rw q)

  module _ (head : head_refusal s p (length f) ≡ 0) where
    strictly : strict_at s p ≡ read_refusal s p (length f)
    unfolding read_refusal
    strictly = rw (eq-eqb (head_refusal s p (length f)) 0 head)

    pub frame_refused : (refusal : ℕ) → refusal ≡ strict_at s p → (refusal ≡ 0 → ⊥)
        → (refused_by refusal ≡ read_answer s p (length f)) × (f ≡ frame_read s p f)
    frame_refused refusal e n =
        let q : refusal ≡ read_refusal s p (length f) = e ∙ strictly in
        let t = answer-refused (λ z. n (q ∙ z)) in (rw q t.0, t.1)

    pub frame-passed : (refusal number e next : ℕ) → refusal ≡ strict_at s p → refusal ≡ 0 → number ≡ number_at s p → e ≡ energy (frame_at s p) → next ≡ end_at s p
        → (record { refusal = refusal; kind = kind_at s p; grade = grade_at s p; number = number; energy = e; next = next } ≡ read_answer s p (length f))
        × (frame_at s p ≡ frame_read s p f)
    unfolding read_answer frame_read
    frame-passed refusal number e next is z i₁ i₂ i₃ =
        let q : eqb (read_refusal s p (length f)) 0 ≡ true = eq-eqb _ _ (sym strictly ∙ sym is ∙ z) in (rw (q, z, i₁, i₂, i₃), rw q)
