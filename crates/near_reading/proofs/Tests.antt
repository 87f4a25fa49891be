-- The tests of the near reading, one by one, the number that they give, and what is answered by the number. Assumes nothing.
use Prim.Native.Nat.{ℕ, ◌^◌, ◌≤◌, ◌<◌}
use mathlib.Core.Path.{◌≡◌, refl, sym, ap, ◌∙◌}
use mathlib.Core.Bool.{Bool, true, false, cond}
use mathlib.Core.List.{List, []}
use native.Mathlib.Omega.{arith}
use lib.Dec.{eqb}
use lib.ListN.{length}
use lib.Ieee.{Float}
use borrow.Author.Tests.{eqb-true, eqb-false, eq-eqb, ne_eqb}
use Rattle.refusals.specs.declared.Refusal.{Refusal}
use Rattle.refusals.specs.declared.Refusal.TheVariants.{TooFar}
use Rattle.refusals.specs.Number.{code}
use Rattle.frames.specs.Kind.{is_grade, message_bytes}
use Rattle.frames.specs.Sending.{unless}
use Rattle.frames.specs.Reading.{fixed_message, message_after}
use Rattle.frames.proofs.Refusals.{passed}
use Rattle.samples.specs.Sample.{all_fit, samples_in_256ths}
use Rattle.near_frames.specs.Near.{near_kind, some_near, near_frame, near_cost}
use Rattle.near_reading.specs.Answer.{near_refusal, near_number, zero64, in_parts, near_distance, near_parts, near_message}
use Rattle.near_reading.specs.Answer.{Near, Far, Refused, number_of, distance_of, near_answer}
use Rattle.near_reading.specs.Claims.{Readable}

-- a refusal has another number than 0
pub some : (r : Refusal) → code r ≡ 0 → ⊥
some r e = grind arith

-- 16 is the number of too far alone
pub not-far : (r : Refusal) → (r ≡ TooFar → ⊥) → code r ≡ 16 → ⊥
not-far r n e = grind (arith, n)

module _ (k b : ℕ) (xs : List Float) (n : ℕ) where
  -- ---- the tests before the search

  -- what passes each test is what the near reading asks
  pub readable : near_refusal k b xs n ≡ 0 → Readable k b xs n
  unfolding near_refusal
  readable e =
      let t₁ = passed (near_kind k) 0 _ e in
      let t₂ = passed (is_grade b) 1 _ t₁.1 in
      let t₄ = passed (eqb (length xs) (2 ^ k)) 3 _ t₂.1 in
      let t₃ = passed (eqb n (message_bytes k b)) 2 _ t₄.1 in
      record {
        kind = t₁.0;
        grade = t₂.0;
        samples = eqb-true (length xs) (2 ^ k) t₄.0;
        bytes = eqb-true n (message_bytes k b) t₃.0;
        fit = (passed (all_fit xs) 14 0 t₃.1).0;
      }

  -- and back
  pub unrefused : Readable k b xs n → near_refusal k b xs n ≡ 0
  unfolding near_refusal
  unrefused r = rw (r.kind, r.grade, eq-eqb (length xs) (2 ^ k) r.samples, eq-eqb n (message_bytes k b) r.bytes, r.fit)

  -- none of them answers 16
  refusal-low : near_refusal k b xs n < 16
  unfolding near_refusal
  refusal-low = go (near_kind k) (is_grade b) (eqb (length xs) (2 ^ k)) (eqb n (message_bytes k b)) (all_fit xs)
    where
      go : (s t u v w : Bool) → unless s 1 (unless t 2 (unless u 4 (unless v 3 (unless w 15 0)))) < 16
      go false t u v w = omega arith
      go true false u v w = omega arith
      go true true false v w = omega arith
      go true true true false w = omega arith
      go true true true true false = omega arith
      go true true true true true = omega arith

  -- ---- the number

  pub number-refused : (near_refusal k b xs n ≡ 0 → ⊥) → near_number k b xs n ≡ near_refusal k b xs n
  unfolding near_number
  number-refused h = rw (ne_eqb (near_refusal k b xs n) 0 h)

  -- past the tests it says whether a frame is near
  pub number_read : Readable k b xs n → near_number k b xs n ≡ unless (some_near k (samples_in_256ths xs)) 16 0
  unfolding near_number
  number_read r = rw (unrefused r)

  -- where it is 0, every test is passed and a frame is near
  pub success : near_number k b xs n ≡ 0 → Readable k b xs n × (some_near k (samples_in_256ths xs) ≡ true)
  success e = go (eqb (near_refusal k b xs n) 0) refl
    where
      go : (t : Bool) → eqb (near_refusal k b xs n) 0 ≡ t → Readable k b xs n × (some_near k (samples_in_256ths xs) ≡ true)
      go true z =
          let r = readable (eqb-true (near_refusal k b xs n) 0 z) in
          (r, (passed (some_near k (samples_in_256ths xs)) 15 0 (sym (number_read r) ∙ e)).0)
      go false z =
          let h = eqb-false (near_refusal k b xs n) 0 z in
          absurd (h (sym (number-refused h) ∙ e))

  -- it is at most 16
  pub number-low : near_number k b xs n ≤ 16
  unfolding near_number
  number-low = go (eqb (near_refusal k b xs n) 0) (some_near k (samples_in_256ths xs))
    where
      go : (s t : Bool) → cond s (unless t 16 0) (near_refusal k b xs n) ≤ 16
      go true true = omega arith
      go true false = omega arith
      go false t = omega (arith, refusal-low)

  -- ---- the answer by the number

  pub parts-refused : (near_number k b xs n ≡ 0 → ⊥) → 0 ≡ near_parts k b xs n
  unfolding near_parts
  parts-refused h = rw (ne_eqb (near_number k b xs n) 0 h)

  pub parts-near : near_number k b xs n ≡ 0 → near_parts k b xs n ≡ near_cost k (samples_in_256ths xs)
  unfolding near_parts
  parts-near e = rw e

  pub distance-none : (near_number k b xs n ≡ 0 → ⊥) → near_distance k b xs n ≡ zero64
  unfolding near_distance
  distance-none h = rw (ne_eqb (near_number k b xs n) 0 h)

  pub answer-refused : (near_number k b xs n ≡ 0 → ⊥) → (near_number k b xs n ≡ 16 → ⊥) → Refused (near_number k b xs n) ≡ near_answer k b xs n
  unfolding near_answer
  answer-refused h g = rw (ne_eqb (near_number k b xs n) 0 h, ne_eqb (near_number k b xs n) 16 g)

  pub answer-far : near_number k b xs n ≡ 16 → Far ≡ near_answer k b xs n
  unfolding near_answer
  answer-far e = rw e

  pub answer-near : near_number k b xs n ≡ 0 → Near (near_distance k b xs n) ≡ near_answer k b xs n
  unfolding near_answer
  answer-near e = rw e

  pub distance-near : near_number k b xs n ≡ 0 → near_distance k b xs n ≡ in_parts (near_cost k (samples_in_256ths xs))
  unfolding near_distance
  distance-near e = rw e

  -- the squared distance in parts tells it
  pub distance-told : near_number k b xs n ≡ 0 → (parts : ℕ) → parts ≡ near_parts k b xs n → in_parts parts ≡ near_distance k b xs n
  distance-told z parts e = ap in_parts (e ∙ parts-near z) ∙ sym (distance-near z)

  -- the paper's number of the answer
  pub case-number : number_of (near_answer k b xs n) ≡ near_number k b xs n
  unfolding near_answer
  case-number = go (eqb (near_number k b xs n) 0) (eqb (near_number k b xs n) 16) refl refl
    where
      go : (s t : Bool) → eqb (near_number k b xs n) 0 ≡ s → eqb (near_number k b xs n) 16 ≡ t
          → number_of (cond s (Near (near_distance k b xs n)) (cond t Far (Refused (near_number k b xs n)))) ≡ near_number k b xs n
      go true t e₀ e = sym (eqb-true (near_number k b xs n) 0 e₀)
      go false true e₀ e = sym (eqb-true (near_number k b xs n) 16 e)
      go false false e₀ e = refl

  -- and its squared distance
  pub case-distance : distance_of (near_answer k b xs n) ≡ near_distance k b xs n
  unfolding near_answer near_distance
  case-distance = go (eqb (near_number k b xs n) 0) (eqb (near_number k b xs n) 16)
    where
      go : (s t : Bool)
          → distance_of (cond s (Near (cond s (in_parts (near_cost k (samples_in_256ths xs))) zero64)) (cond t Far (Refused (near_number k b xs n))))
          ≡ cond s (in_parts (near_cost k (samples_in_256ths xs))) zero64
      go true t = refl
      go false true = refl
      go false false = refl

module _ (k b : ℕ) (xs : List Float) (bytes : List ℕ) where
  -- the lent bytes afterwards, by the number
  pub message-near : near_number k b xs (length bytes) ≡ 0 → near_message k b xs bytes ≡ fixed_message k b 0 (near_frame k (samples_in_256ths xs) [])
  unfolding near_message message_after
  message-near e = rw e

  pub message-kept : (near_number k b xs (length bytes) ≡ 0 → ⊥) → near_message k b xs bytes ≡ bytes
  unfolding near_message message_after
  message-kept h = rw (ne_eqb (near_number k b xs (length bytes)) 0 h)
