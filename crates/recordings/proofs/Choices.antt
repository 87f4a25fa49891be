-- The choice, by what both readings give. Assumes nothing.
use Prim.Native.Nat.{ℕ, ◌<◌, ◌≤◌}
use mathlib.Core.Path.{◌≡◌}
use mathlib.Core.Bool.{true, false}
use mathlib.Core.List.{List}
use lib.Ieee.{Float}
use borrow.Author.Tests.{eq-eqb, ne_eqb, le-leb, lt-leb}
use Rattle.octets.specs.Same.{same_bytes}
use Rattle.recordings.specs.Recording.{recording_number, recording_message, recording_distance}
use Rattle.recordings.specs.Choice.{First, Second, Neither, closer, both_heard, choice}

module _ (k b : ℕ) (xs ys : List Float) where
  pub both-refused : (recording_number k b xs ≡ 0 → ⊥) → (recording_number k b ys ≡ 0 → ⊥) → Neither (recording_number k b xs) ≡ choice k b xs ys
  unfolding choice
  both-refused p q = rw (ne_eqb (recording_number k b xs) 0 p, ne_eqb (recording_number k b ys) 0 q)

  pub first-refused : (recording_number k b xs ≡ 0 → ⊥) → recording_number k b ys ≡ 0 → Second ≡ choice k b xs ys
  unfolding choice
  first-refused p q = rw (ne_eqb (recording_number k b xs) 0 p, eq-eqb (recording_number k b ys) 0 q)

  pub second-refused : recording_number k b xs ≡ 0 → (recording_number k b ys ≡ 0 → ⊥) → First ≡ choice k b xs ys
  unfolding choice
  second-refused p q = rw (eq-eqb (recording_number k b xs) 0 p, ne_eqb (recording_number k b ys) 0 q)

  module _ (p : recording_number k b xs ≡ 0) (q : recording_number k b ys ≡ 0) where
    pub at-odds : same_bytes (recording_message k b xs) (recording_message k b ys) ≡ false → Neither 18 ≡ choice k b xs ys
    unfolding choice both_heard
    at-odds e = rw (eq-eqb (recording_number k b xs) 0 p, eq-eqb (recording_number k b ys) 0 q, e)

    module _ (e : same_bytes (recording_message k b xs) (recording_message k b ys) ≡ true) where
      pub second-closer : recording_distance k ys < recording_distance k xs → Second ≡ choice k b xs ys
      unfolding choice both_heard closer
      second-closer h =
          rw (eq-eqb (recording_number k b xs) 0 p, eq-eqb (recording_number k b ys) 0 q, e, lt-leb (recording_distance k xs) (recording_distance k ys) h)

      pub first-closer : recording_distance k xs ≤ recording_distance k ys → First ≡ choice k b xs ys
      unfolding choice both_heard closer
      first-closer h =
          rw (eq-eqb (recording_number k b xs) 0 p, eq-eqb (recording_number k b ys) 0 q, e, le-leb (recording_distance k xs) (recording_distance k ys) h)
