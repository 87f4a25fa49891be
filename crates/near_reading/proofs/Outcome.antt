-- What is answered past the tests, by what the search tells: the near frame's message and distance; or too far. Assumes nothing.
use Prim.Native.Nat.{ℕ, ◌^◌, ◌≤◌, ◌<◌}
use mathlib.Core.Path.{◌≡◌, refl, sym, ap, ◌∙◌}
use mathlib.Core.Bool.{true, false}
use mathlib.Core.List.{List, []}
use native.Mathlib.Omega.{arith}
use lib.ListN.{length, get_or}
use lib.IntN.{ℤ, pos, ◌-ℤ◌, ◌*ℤ◌, nat_abs}
use lib.Ieee.{Float}
use Rattle.integers.proofs.Zed.{`◌, #◌, ◌⊖◌, ◌⊗◌, eq!, eq?, abs-le}
use Rattle.bits.proofs.Sum.{sum-term}
use Rattle.e8.specs.Energy.{sq}
use Rattle.e8.proofs.Within.{within-at, within_all}
use Rattle.frames.specs.Free.{is_free_count}
use Rattle.frames.specs.Reading.{fixed_message, open_refusal, message_after, largest_read, in_range}
use Rattle.frames.proofs.Frame.{at}
use Rattle.frames.proofs.Refusals.{within-range}
use Rattle.frames.proofs.Reading.{inside-taken}
use Rattle.samples.specs.Sample.{samples_in_256ths}
use Rattle.samples.proofs.Samples.{samples-length, samples-within}
use Rattle.near_frames.specs.Near.{IsNear, some_near, near_frame}
use Rattle.near_frames.proofs.NearKinds.{near-is-kind}
use Rattle.near_frames.proofs.Squares.{root-lt, le-abs}
use Rattle.near_frames.proofs.Sum.{nearness-sum}
use Rattle.near_frames.proofs.Frames.{limit-low, near-is, is-near}
use Rattle.near_reading.specs.Answer.{near_number, near_message}
use Rattle.near_reading.specs.Claims.{Readable}
use Rattle.near_reading.proofs.Tests.{number_read, message-near}

-- a whole number less than 2 away from a sample of at most 128
small-number : (z t : ℤ) → nat_abs t ≤ 32768 → sq (pos 256 *ℤ z -ℤ t) < 262144 → nat_abs z ≤ largest_read
unfolding sq
small-number z t h l =
    let s : ℤ = pos 256 *ℤ z -ℤ t in
    let r : nat_abs s < 512 = root-lt (nat_abs s) 512 l in
    let e = eq? (` s) (# 256 ⊗ ` z ⊖ ` t) (eq! (# 256 ⊗ ` z ⊖ ` t) (# 256 ⊗ ` z ⊖ ` t) (omega arith)) in
    abs-le z largest_read (omega (arith, r, h, e, (le-abs s).0, (le-abs t).0)) (omega (arith, r, h, e, (le-abs s).1, (le-abs t).1))

module _ (k b : ℕ) (xs : List Float) (bytes : List ℕ) (r : Readable k b xs (length bytes)) where
  abbrev t : List ℤ
  t = samples_in_256ths xs

  pub long : length t ≡ 2 ^ k
  long = samples-length xs ∙ r.samples

  -- a near frame is one that the open reading takes
  in-range : (f : List ℤ) → IsNear k t f → in_range f ≡ true
  in-range f near = within-range f (within_all largest_read f each)
    where
      each : (p : ℕ) → p < length f → nat_abs (get_or f p (pos 0)) ≤ largest_read
      each p h = small-number (at f p) (at t p) (within-at 32768 t p (samples-within xs r.fit))
          (omega (
            arith,
            near.close,
            limit-low k r.kind,
            nearness-sum (2 ^ k) f t near.coded.long long,
            sum-term (2 ^ k) (λ q. sq (pos 256 *ℤ at f q -ℤ at t q)) p (omega (arith, h, near.coded.long)),
          ))

  pub taken : (f : List ℤ) → IsNear k t f → open_refusal k b 0 f (length bytes) ≡ 0
  unfolding is_free_count
  taken f near = inside-taken k b (near-is-kind k r.kind) r.grade 0 refl f (length bytes) r.bytes near.coded (in-range f near)

  -- ---- none is near

  module _ (none : some_near k t ≡ false) where
    pub number-16 : near_number k b xs (length bytes) ≡ 16
    number-16 = rw (number_read k b xs (length bytes) r, none)

  -- ---- one is near

  module _ (near : some_near k t ≡ true) where
    pub number-0 : near_number k b xs (length bytes) ≡ 0
    number-0 = rw (number_read k b xs (length bytes) r, near)

    -- what the open reading of the near frame leaves, whatever coordinates were lent for it
    pub near-message : (lent f : List ℤ) (number : ℕ) → f ≡ near_frame k t lent → number ≡ open_refusal k b 0 f (length bytes)
        → message_after number k b 0 f bytes ≡ near_message k b xs bytes
    unfolding message_after
    near-message lent f number same e =
        let i : IsNear k t (near_frame k t []) = is-near k r.kind t near in
        let is : f ≡ near_frame k t [] = same ∙ (near-is k r.kind t (near_frame k t []) i).1 lent in
        let z : number ≡ 0 = e ∙ ap (λ (g : List ℤ). open_refusal k b 0 g (length bytes)) is ∙ taken (near_frame k t []) i in
        rw z (ap (fixed_message k b 0) is ∙ sym (message-near k b xs bytes number-0))
