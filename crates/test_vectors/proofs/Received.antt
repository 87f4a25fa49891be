-- The judgements of reading, by the first test that is not passed. Assumes nothing.
use Prim.Native.Nat.{ℕ, ◌≤◌, ◌<◌}
use mathlib.Core.Path.{◌≡◌, refl, sym, ap, ◌∙◌}
use mathlib.Core.Bool.{Bool, true, false}
use mathlib.Core.List.{List}
use lib.IntN.{ℤ}
use lib.ListN.{length}
use borrow.Author.Tests.{le-leb, lt-leb, eq-eqb, ne_eqb}
use Rattle.e8.specs.Energy.{energy}
use Rattle.frames.specs.Reading.{message_after, energy_read}
use Rattle.octets.specs.Same.{same_bytes}
use Rattle.test_vectors.specs.declared.checks.Under.{Under}
use Rattle.test_vectors.specs.Vector.{read_refusal, is_read_as, is_answered}

-- a refusal answers no energy, and leaves the lent bytes
pub no-energy : (r : ℕ) (f : List ℤ) → (r ≡ 0 → ⊥) → energy_read r f ≡ 0
unfolding energy_read
no-energy r f n = rw (ne_eqb r 0 n) refl

pub as_lent : (r k b f : ℕ) (frame : List ℤ) (lent : List ℕ) → (r ≡ 0 → ⊥) → message_after r k b f frame lent ≡ lent
unfolding message_after
as_lent r k b f frame lent n = rw (ne_eqb r 0 n) refl

module _ (strict : Bool) (u : Under) (f : List ℤ) where
  module _ (m : List ℕ) (e : ℕ) where
    pub too_long : 48 < length m → false ≡ is_read_as strict u f m e
    unfolding is_read_as
    too_long h = rw (lt-leb (length m) 48 h) refl

    module _ (room : length m ≤ 48) (r : ℕ) (is : r ≡ read_refusal strict u f (length m)) where
      pub refused : (r ≡ 0 → ⊥) → false ≡ is_read_as strict u f m e
      unfolding is_read_as
      refused n = rw (le-leb (length m) 48 room, ne_eqb (read_refusal strict u f (length m)) 0 (λ z. n (is ∙ z))) refl

      module _ (accepted : r ≡ 0) (g : ℕ) (energy-is : g ≡ energy_read r f) where
        read-energy : g ≡ energy f
        unfolding energy_read
        read-energy = energy-is ∙ rw (eq-eqb r 0 accepted) refl

        pub other-energy : (g ≡ e → ⊥) → false ≡ is_read_as strict u f m e
        unfolding is_read_as
        other-energy n =
            rw (
              le-leb (length m) 48 room,
              eq-eqb (read_refusal strict u f (length m)) 0 (sym is ∙ accepted),
              ne_eqb (energy f) e (λ z. n (read-energy ∙ z)),
            ) refl

        pub compared : g ≡ e → (t : Bool) (x lent : List ℕ) → x ≡ message_after r u.kind u.grade 0 f lent → t ≡ same_bytes x m → t ≡ is_read_as strict u f m e
        unfolding is_read_as message_after
        compared p t x lent message-is q =
            rw (
              le-leb (length m) 48 room,
              eq-eqb (read_refusal strict u f (length m)) 0 (sym is ∙ accepted),
              eq-eqb (energy f) e (sym read-energy ∙ p),
            ) (q ∙ ap (λ (y : List ℕ). same_bytes y m) (message-is ∙ rw (eq-eqb r 0 accepted) refl))

  module _ (n number : ℕ) where
    pub no_room : 48 < n → false ≡ is_answered strict u f n number
    unfolding is_answered
    no_room h = rw (lt-leb n 48 h) refl

    pub other-number : n ≤ 48 → (r : ℕ) → r ≡ read_refusal strict u f n → (r ≡ number → ⊥) → false ≡ is_answered strict u f n number
    unfolding is_answered
    other-number room r is differs = rw (le-leb n 48 room, ne_eqb (read_refusal strict u f n) number (λ z. differs (is ∙ z))) refl

    pub that-number : n ≤ 48 → (r : ℕ) → r ≡ read_refusal strict u f n → r ≡ number → true ≡ is_answered strict u f n number
    unfolding is_answered
    that-number room r is e = rw (le-leb n 48 room, eq-eqb (read_refusal strict u f n) number (sym is ∙ e)) refl
