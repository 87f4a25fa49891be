-- One recording: its number is that of the near reading, and what is near is one message at one distance, which the near reading gives. Assumes nothing.
use Prim.Native.Nat.{ℕ, ◌^◌, ◌≤◌}
use mathlib.Core.Path.{◌≡◌, refl, sym, ap, ◌∙◌, subst}
use mathlib.Core.Bool.{Bool, true, false, cond}
use mathlib.Core.List.{List, []}
use native.Mathlib.Omega.{arith}
use lib.Dec.{eqb, ltb}
use lib.ListN.{length, replicate, length-replicate}
use lib.Ieee.{Float, lt}
use lib.Ieee.Exact.{HasValue}
use borrow.Author.Tests.{eq-eqb}
use Rattle.floats.proofs.Compare.{lt-parts}
use Rattle.frames.specs.Kind.{is_grade, message_bytes}
use Rattle.frames.specs.Sending.{unless}
use Rattle.frames.specs.Reading.{open_message}
use Rattle.samples.specs.Sample.{all_fit, samples_in_256ths}
use Rattle.samples.proofs.Samples.{samples-length}
use Rattle.near_frames.specs.Near.{near_kind, IsNear, some_near, near_frame}
use Rattle.near_frames.proofs.Frames.{near-is}
use Rattle.near_reading.specs.Answer.{near_refusal, near_number, near_distance, near_message}
use Rattle.near_reading.specs.Claims.{Readable}
use Rattle.near_reading.proofs.Tests.{success}
use Rattle.near_reading.proofs.Claims.{finds, found-one}
use Rattle.recordings.specs.Recording.{recording_number, recording_message, recording_distance, NearTo}
use Rattle.recordings.specs.Claims.{ReadsTo, Judged}

-- the number is that of the near reading with as many bytes lent as a message has
pub as_read : (k b : ℕ) (xs : List Float) (n : ℕ) → n ≡ message_bytes k b → recording_number k b xs ≡ near_number k b xs n
unfolding recording_number near_number near_refusal
as_read k b xs n e =
    rw (eq-eqb n (message_bytes k b) e)
    (go (near_kind k) (is_grade b) (eqb (length xs) (2 ^ k)) (all_fit xs) (some_near k (samples_in_256ths xs)))
  where
    tests : Bool → Bool → Bool → Bool → ℕ
    tests s g l f = unless s 1 (unless g 2 (unless l 4 (unless f 15 0)))

    go : (s g l f h : Bool) → unless s 1 (unless g 2 (unless l 4 (unless f 15 (unless h 16 0))))
        ≡ cond (eqb (tests s g l f) 0) (unless h 16 0) (tests s g l f)
    go false g l f h = refl
    go true false l f h = refl
    go true true false f h = refl
    go true true true false h = refl
    go true true true true h = refl

-- it is one of these
one_of : (k b : ℕ) (xs : List Float) (P : ℕ → Type 0) → P 0 → P 1 → P 2 → P 4 → P 15 → P 16 → P (recording_number k b xs)
unfolding recording_number
one_of k b xs P p₀ p₁ p₂ p₄ p₁₅ p₁₆ = go (near_kind k) (is_grade b) (eqb (length xs) (2 ^ k)) (all_fit xs) (some_near k (samples_in_256ths xs))
  where
    go : (s g l f h : Bool) → P (unless s 1 (unless g 2 (unless l 4 (unless f 15 (unless h 16 0)))))
    go false g l f h = p₁
    go true false l f h = p₂
    go true true false f h = p₄
    go true true true false h = p₁₅
    go true true true true false = p₁₆
    go true true true true true = p₀

pub number-high : (k b : ℕ) (xs : List Float) → recording_number k b xs ≤ 16
number-high k b xs =
    one_of k b xs (λ n. n ≤ 16) (omega arith) (omega arith) (omega arith) (omega arith) (omega arith) (omega arith)

never-3 : (k b : ℕ) (xs : List Float) → recording_number k b xs ≡ 3 → ⊥
never-3 k b xs =
    one_of k b xs (λ n. n ≡ 3 → ⊥) (λ e. omega (arith, e)) (λ e. omega (arith, e)) (λ e. omega (arith, e)) (λ e. omega (arith, e))
    (λ e. omega (arith, e)) (λ e. omega (arith, e))

module _ {k b : ℕ} {xs : List Float} {m : List ℕ} {d : ℕ} (at : NearTo k b xs m d) where
  -- the frame is near
  near : IsNear k (samples_in_256ths xs) at.frame
  near = record { samples = samples-length xs ∙ at.recorded.samples; coded = at.coded; close = at.recorded.inside }

  -- what the near reading asks
  readable : (n : ℕ) → n ≡ message_bytes k b → Readable k b xs n
  readable n e = record {
    kind = at.kind;
    grade = at.grade;
    samples = at.recorded.samples;
    bytes = e;
    fit = at.recorded.fit;
  }

  pub reads-to : (lent : List ℕ) → length lent ≡ message_bytes k b → ReadsTo k b xs lent m d
  reads-to lent e =
      let f = finds k b xs lent (readable (length lent) e) at.frame near in
      record {
        number = f.number;
        message = f.message ∙ at.message;
        exact = subst (λ (n : ℕ). HasValue (near_distance k b xs (length lent)) false n 65536) at.distance f.exact;
      }

  -- every test is passed
  number-0 : recording_number k b xs ≡ 0
  unfolding recording_number
  number-0 = rw (
    at.kind,
    at.grade,
    eq-eqb (length xs) (2 ^ k) at.recorded.samples,
    at.recorded.fit,
    (near-is k at.kind (samples_in_256ths xs) at.frame near).0,
  )

  -- the near frame is this one, and so its message and its distance
  pub one-message : recording_message k b xs ≡ m
  unfolding recording_message
  one-message = ap (open_message k b) ((near-is k at.kind (samples_in_256ths xs) at.frame near).1 []) ∙ at.message

  pub one-distance : recording_distance k xs ≡ d
  unfolding recording_distance
  one-distance = (near-is k at.kind (samples_in_256ths xs) at.frame near).2 ∙ at.distance

-- where the number is 0 the recording is near to its message, at its distance
pub near-to : (k b : ℕ) (xs : List Float) (n : ℕ) → near_number k b xs n ≡ 0 → NearTo k b xs (recording_message k b xs) (recording_distance k xs)
unfolding recording_message recording_distance
near-to k b xs n z =
    let s = (success k b xs n z).0 in
    let found = (found-one k b xs n z).near in
    record {
      kind = s.kind;
      grade = s.grade;
      frame = near_frame k (samples_in_256ths xs) [];
      coded = found.coded;
      recorded = record { samples = s.samples; fit = s.fit; inside = found.close };
      message = refl;
      distance = sym (near-is k s.kind (samples_in_256ths xs) (near_frame k (samples_in_256ths xs) []) found).2;
    }

-- EACH RECORDING IS JUDGED by its near reading
pub judged : (k b : ℕ) (xs : List Float) → Judged k b xs
judged k b xs = record {
  as_read = read;
  never-3 = never-3 k b xs;
  near = number-0;
  near-only = λ z. near-to k b xs (message_bytes k b) (sym read ∙ z);
  one-message = one-message;
  one-distance = one-distance;
  reads = reads-to;
}
  where
    read : recording_number k b xs ≡ near_number k b xs (message_bytes k b)
    read = as_read k b xs (message_bytes k b) refl

-- ---- a near reading whose number is 0

-- its message
pub heard-message : (k b : ℕ) (xs : List Float) (bytes : List ℕ) → near_number k b xs (length bytes) ≡ 0 → near_message k b xs bytes ≡ recording_message k b xs
heard-message k b xs bytes z = (reads-to (near-to k b xs (length bytes) z) bytes (success k b xs (length bytes) z).0.bytes).message

-- its distance, exactly
pub distance-exact : (k b : ℕ) (xs : List Float) (n : ℕ) → near_number k b xs n ≡ 0 → HasValue (near_distance k b xs n) false (recording_distance k xs) 65536
distance-exact k b xs n z =
    let lent : List ℕ = replicate n 0 in
    let e : length lent ≡ n = length-replicate n 0 in
    subst (λ (i : ℕ). HasValue (near_distance k b xs i) false (recording_distance k xs) 65536) e
    (reads-to (near-to k b xs n z) lent (e ∙ (success k b xs n z).0.bytes)).exact

-- two distances: as f64 they compare as the whole numbers that they are parts of
pub closer-exact : (k b : ℕ) (xs ys : List Float) (m n : ℕ) → near_number k b xs m ≡ 0 → near_number k b ys n ≡ 0
    → lt (near_distance k b ys n) (near_distance k b xs m) ≡ ltb (recording_distance k ys) (recording_distance k xs)
closer-exact k b xs ys m n z w =
    lt-parts (near_distance k b ys n) (near_distance k b xs m) (recording_distance k ys) (recording_distance k xs) 65536 (omega arith)
    (distance-exact k b ys n w) (distance-exact k b xs m z)
