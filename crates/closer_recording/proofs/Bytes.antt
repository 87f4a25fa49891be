-- The bytes that are lent to a near reading: there is room for them, and with them the number is the one without 3; and what the near reading then tells.
-- Assumes nothing.
use Prim.Native.Nat.{ℕ, ◌≤◌, ◌<◌}
use mathlib.Core.Path.{◌≡◌, refl, sym, ap₂, ◌∙◌}
use mathlib.Core.Bool.{Bool, true, false, ◌&&◌, cond}
use mathlib.Core.List.{List}
use native.Mathlib.Omega.{arith}
use lib.ListN.{length}
use lib.Ieee.{Float}
use Rattle.frames.specs.Kind.{is_kind, is_grade, message_bytes}
use Rattle.frames.proofs.Rows.{grade-high}
use Rattle.frames.proofs.Limits.{few-message-bits}
use Rattle.near_frames.specs.Near.{near_kind}
use Rattle.near_frames.proofs.NearKinds.{near-is-kind}
use Rattle.refusals.specs.declared.Refusal.{Refusal}
use Rattle.refusals.specs.Number.{code}
use Rattle.near_reading.specs.Answer.{near_refusal, near_number, near_parts, near_message}
use Rattle.near_reading.proofs.Tests.{some, parts-near}
use Rattle.octets.specs.Same.{same_bytes}
use Rattle.recordings.specs.Choice.{First, Second, Neither, choice}
use Rattle.recordings.proofs.Choices.{at-odds, second-closer, first-closer}
use Rattle.recordings.specs.Recording.{recording_number, recording_message, recording_distance}
use Rattle.recordings.proofs.Recording.{as_read, heard-message}
use Rattle.closer_recording.specs.Room.{room_for}

-- as many as a message has
room-good : (k b : ℕ) → is_kind k ≡ true → is_grade b ≡ true → message_bytes k b ≡ room_for k b
unfolding room_for
room-good k b p q = rw (p, q)

-- a message has at most 46 bytes
pub room-high : (k b : ℕ) → room_for k b ≤ 46
unfolding room_for message_bytes
room-high k b = go (is_kind k) (is_grade b) refl refl
  where
    go : (s t : Bool) → is_kind k ≡ s → is_grade b ≡ t → cond (s && t) (message_bytes k b) 0 ≤ 46
    go false t p q = omega arith
    go true false p q = omega arith
    go true true p q = omega (arith, few-message-bits k b p (grade-high b q))

-- with these bytes the number is that of the recording
room-number : (k b : ℕ) (xs : List Float) (n : ℕ) → n ≡ room_for k b → near_number k b xs n ≡ recording_number k b xs
unfolding recording_number near_number near_refusal
room-number k b xs n e = go (near_kind k) (is_grade b) refl refl
  where
    go : (s t : Bool) → near_kind k ≡ s → is_grade b ≡ t → near_number k b xs n ≡ recording_number k b xs
    go false t p q = rw p
    go true false p q = rw (p, q)
    go true true p q = sym (as_read k b xs n (e ∙ sym (room-good k b (near-is-kind k p) q)))

-- ---- a near reading with these bytes

module _ (k b : ℕ) (xs : List Float) (bytes : List ℕ) (long : length bytes ≡ room_for k b) where
  -- a frame is near: the recording's message, at its distance
  module _ (z : 0 ≡ near_number k b xs (length bytes)) where
    pub heard-number : recording_number k b xs ≡ 0
    heard-number = sym (z ∙ room-number k b xs (length bytes) long)

    pub heard-distance : near_parts k b xs (length bytes) ≡ recording_distance k xs
    unfolding recording_distance
    heard-distance = parts-near k b xs (length bytes) (sym z)

    pub heard-bytes : near_message k b xs bytes ≡ recording_message k b xs
    heard-bytes = heard-message k b xs bytes (sym z)

  -- a refusal: the recording's number
  module _ (r : Refusal) (e : code r ≡ near_number k b xs (length bytes)) where
    pub refused-number : code r ≡ recording_number k b xs
    refused-number = e ∙ room-number k b xs (length bytes) long

    pub refused : recording_number k b xs ≡ 0 → ⊥
    refused z = some r (refused-number ∙ z)

-- ---- both recordings are near: the choice by what is left in the bytes and by the distances

module _ (k b : ℕ) (xs ys : List Float) (one two : List ℕ) (long : (length one ≡ room_for k b) × (length two ≡ room_for k b))
    (p : 0 ≡ near_number k b xs (length one)) (q : 0 ≡ near_number k b ys (length two)) where
  compared : (s : Bool) → s ≡ same_bytes (near_message k b xs one) (near_message k b ys two)
      → same_bytes (recording_message k b xs) (recording_message k b ys) ≡ s
  compared s e = sym (e ∙ ap₂ same_bytes (heard-bytes k b xs one long.0 p) (heard-bytes k b ys two long.1 q))

  pub odds : (s : Bool) → s ≡ same_bytes (near_message k b xs one) (near_message k b ys two) → s ≡ false → Neither 18 ≡ choice k b xs ys
  odds s e differ = at-odds k b xs ys (heard-number k b xs one long.0 p) (heard-number k b ys two long.1 q) (compared s e ∙ differ)

  module _ (s : Bool) (e : s ≡ same_bytes (near_message k b xs one) (near_message k b ys two)) (same : s ≡ true)
      (d₁ d₂ : ℕ) (c₁ : d₁ ≡ near_parts k b xs (length one)) (c₂ : d₂ ≡ near_parts k b ys (length two)) where
    pub second : d₂ < d₁ → Second ≡ choice k b xs ys
    second h = second-closer k b xs ys (heard-number k b xs one long.0 p) (heard-number k b ys two long.1 q) (compared s e ∙ same)
        (omega (arith, h, c₁, c₂, heard-distance k b xs one long.0 p, heard-distance k b ys two long.1 q))

    pub first : d₁ ≤ d₂ → First ≡ choice k b xs ys
    first h = first-closer k b xs ys (heard-number k b xs one long.0 p) (heard-number k b ys two long.1 q) (compared s e ∙ same)
        (omega (arith, h, c₁, c₂, heard-distance k b xs one long.0 p, heard-distance k b ys two long.1 q))
