-- WHAT REQUEST E6 CLAIMS, sentence by sentence. For every kind of the near reading, every grade and all samples. Assumes nothing.
use Prim.Native.Nat.{ℕ, ◌-◌, ◌*◌, ◌<◌}
use mathlib.Core.Path.{◌≡◌, refl, sym, ap, ◌∙◌, subst}
use mathlib.Core.Bool.{true, false}
use mathlib.Core.List.{List, [], ◌∷◌}
use native.Mathlib.Omega.{arith}
use lib.IntN.{ℤ, pos, ◌-ℤ◌}
use lib.ListN.{length, length-map}
use lib.Pow.{pow_pos}
use lib.Ieee.{Float, binary32, of_int}
use lib.Ieee.Exact.{HasValue}
use Rattle.integers.proofs.Zed.{`◌, #◌, ◌⊖◌, eq! }
use Rattle.e8.specs.Energy.{sq, distance, Within}
use Rattle.e8.proofs.Within.{within-to}
use Rattle.frames.specs.Kind.{is_grade, message_bytes, scale}
use Rattle.frames.specs.Message.{Message}
use Rattle.frames.specs.Frame.{numbered_frame, least_distance}
use Rattle.frames.specs.Reading.{fixed_message}
use Rattle.frames.proofs.Rows.{grade-low}
use Rattle.frames.proofs.Limits.{scale-128}
use Rattle.frames.proofs.Demands.{sent-in-set, sent-length, sent-within}
use Rattle.frames.proofs.Reading.{read-sent}
use Rattle.free_bits.proofs.ReadBack.{none-fixed}
use Rattle.samples.specs.Sample.{samples_in_256ths, samples_of}
use Rattle.samples.proofs.Samples.{samples-of-fit, samples-of-256}
use Rattle.near_frames.specs.Near.{frame_in_256ths, nearness, near_kind, IsNear, near_frame}
use Rattle.near_frames.proofs.NearKinds.{near-is-kind}
use Rattle.near_frames.proofs.Only.{near-only, half-distance}
use Rattle.near_frames.proofs.Frames.{limit-low, near-is, far-is, is-near}
use Rattle.near_reading.specs.Answer.{near_number, near_distance, in_parts, zero64}
use Rattle.near_reading.specs.Claims.{Readable, Finds, FoundOne, FarExactly, ComesBack}
use Rattle.near_reading.proofs.Parts.{parts-value, no-parts}
use Rattle.near_reading.proofs.Tests.{success, distance-near, message-near, message-kept}
use Rattle.near_reading.proofs.Outcome.{long, number-0, number-16}

module _ (k b : ℕ) (xs : List Float) (bytes : List ℕ) (r : Readable k b xs (length bytes)) where
  abbrev t : List ℤ
  t = samples_in_256ths xs

  -- the distance that is given where the frame f is near: f's own
  given-distance : (f : List ℤ) → IsNear k t f → near_distance k b xs (length bytes) ≡ in_parts (nearness f t)
  given-distance f near =
      let n = near-is k r.kind t f near in
      distance-near k b xs (length bytes) (number-0 k b xs bytes r n.0) ∙ ap in_parts n.2

  -- "the near reading finds the coding-set frame at squared distance below 1, 2 or 4, and gives its message, and the exact squared distance as f64"
  pub finds : (f : List ℤ) → IsNear k t f → Finds k b xs bytes f
  finds f near =
      let n = near-is k r.kind t f near in
      let z = number-0 k b xs bytes r n.0 in
      record {
        number = z;
        message = message-near k b xs bytes z ∙ ap (fixed_message k b 0) (n.1 []) ∙ none-fixed k b (near-is-kind k r.kind) r.grade f near.coded;
        exact = subst (λ (x : Float). HasValue x false (nearness f t) 65536) (sym (given-distance f near))
            (parts-value (nearness f t) (omega (arith, near.close, limit-low k r.kind)));
      }

  -- "otherwise it answers too far. It is too far only when no frame of the coding set is that near"
  pub far-exactly : FarExactly k b xs bytes
  far-exactly = record {
    far = λ none. number-16 k b xs bytes r (far-is k r.kind t none).0;
    far-only = λ e f near. omega (arith, e, (finds f near).number);
    kept = λ e. message-kept k b xs bytes (λ z. omega (arith, e, z));
  }

  -- a sent frame that is disturbed by less than half the least distance: its message comes back
  module _ (number : ℕ) (message : List ℕ) (close : 4 * nearness (numbered_frame k b number message) t < 65536 * least_distance k) where
    sent-near : IsNear k t (numbered_frame k b number message)
    sent-near = record {
      samples = long k b xs bytes r;
      coded = sent-in-set k b (near-is-kind k r.kind) r.grade number message;
      close = half-distance k r.kind t (numbered_frame k b number message) close;
    }

    pub comes_back : Message k b message → ComesBack k b number message xs bytes
    comes_back m =
        let found = finds (numbered_frame k b number message) sent-near in
        record {
          success = found.number;
          given = found.message ∙ read-sent k b (near-is-kind k r.kind) r.grade number message m;
          exact = found.exact;
        }

-- where the number is 0, the frame that is found is near, and there is never a second one
pub found-one : (k b : ℕ) (xs : List Float) (n : ℕ) → near_number k b xs n ≡ 0 → FoundOne k (samples_in_256ths xs)
found-one k b xs n e =
    let s = success k b xs n e in
    let near : IsNear k (samples_in_256ths xs) (near_frame k (samples_in_256ths xs) []) = is-near k s.0.kind (samples_in_256ths xs) s.1 in
    record {
      near = near;
      only = λ f other. near-only k s.0.kind (samples_in_256ths xs) f (near_frame k (samples_in_256ths xs) []) other near;
    }

-- ---- no noise

distance_self : (f : List ℤ) → distance f f ≡ 0
unfolding distance sq
distance_self [] = refl
distance_self (z ∷ f) =
    let e : z -ℤ z ≡ pos 0 = eq! (` z ⊖ ` z) (# 0) (omega arith) in
    rw (e, distance_self f)

module _ (k b number : ℕ) (kind : near_kind k ≡ true) (grade : is_grade b ≡ true) (message lent : List ℕ)
    (m : Message k b message) (bytes : length lent ≡ message_bytes k b) where
  abbrev f : List ℤ
  f = numbered_frame k b number message

  small : Within 128 f
  small = within-to (scale k b) 128 f (scale-128 k b (near-is-kind k kind) grade) (sent-within k b (near-is-kind k kind) (grade-low b grade) number message)

  exact : nearness f (samples_in_256ths (samples_of f)) ≡ 0
  unfolding nearness frame_in_256ths
  exact = ap (distance (frame_in_256ths f)) (samples-of-256 f small) ∙ distance_self (frame_in_256ths f)

  -- the samples of a sent frame are read
  pub clean-readable : Readable k b (samples_of f) (length lent)
  unfolding samples_of
  clean-readable = record {
    kind = kind;
    grade = grade;
    samples = length-map f (λ z. of_int binary32 z) ∙ sent-length k b (near-is-kind k kind) (grade-low b grade) number message;
    bytes = bytes;
    fit = samples-of-fit f small;
  }

  close : 4 * nearness f (samples_in_256ths (samples_of f)) < 65536 * least_distance k
  close = omega (arith, exact, pow_pos (k - 1))

  -- its message comes back
  pub clean-comes-back : ComesBack k b number message (samples_of f) lent
  clean-comes-back = comes_back k b (samples_of f) lent clean-readable number message close m

  -- with the distance 0.0
  pub clean-distance : near_distance k b (samples_of f) (length lent) ≡ zero64
  clean-distance =
      given-distance k b (samples_of f) lent clean-readable f (sent-near k b (samples_of f) lent clean-readable number message close)
      ∙ ap in_parts exact ∙ no-parts
