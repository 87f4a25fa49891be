-- The judgement of sending, by the first test that is not passed. Assumes nothing.
use Prim.Native.Nat.{ℕ, ◌≤◌, ◌<◌}
use mathlib.Core.Path.{◌≡◌, refl, sym, ap, ◌∙◌}
use mathlib.Core.Bool.{Bool, false}
use mathlib.Core.List.{List}
use lib.IntN.{ℤ}
use lib.ListN.{length}
use borrow.Author.Tests.{le-leb, lt-leb, eq-eqb, ne_eqb}
use Rattle.e8.specs.Energy.{energy}
use Rattle.frames.specs.Frame.{numbered_frame}
use Rattle.frames.specs.Sending.{send_refusal, frame_after, energy_sent}
use Rattle.frames.proofs.Accepted.{sent-leaves}
use Rattle.free_bits.proofs.Fillings.{none-quiet}
use Rattle.frames.specs.Reading.{same_frame}
use Rattle.test_vectors.specs.declared.checks.Under.{Under}
use Rattle.test_vectors.specs.Vector.{is_sent_as}

module _ (u : Under) (m : List ℕ) (f : List ℤ) (e : ℕ) where
  pub too_long : 64 < length f → false ≡ is_sent_as u m f e
  unfolding is_sent_as
  too_long h = rw (lt-leb (length f) 64 h) refl

  module _ (room : length f ≤ 64) (r : ℕ) (is : r ≡ send_refusal u.kind u.grade 0 m (length f)) where
    pub refused : (r ≡ 0 → ⊥) → false ≡ is_sent_as u m f e
    unfolding is_sent_as
    refused n = rw (le-leb (length f) 64 room, ne_eqb (send_refusal u.kind u.grade 0 m (length f)) 0 (λ z. n (is ∙ z))) refl

    module _ (accepted : r ≡ 0) (g : ℕ) (energy-is : g ≡ energy_sent r u.kind u.grade 0 u.number m) where
      sent-energy : g ≡ energy (numbered_frame u.kind u.grade u.number m)
      sent-energy =
          energy-is ∙ (sent-leaves r u.kind u.grade 0 u.number m f accepted).1 ∙ ap energy (none-quiet u.kind u.grade u.number m)

      pub other-energy : (g ≡ e → ⊥) → false ≡ is_sent_as u m f e
      unfolding is_sent_as
      other-energy n =
          rw (
            le-leb (length f) 64 room,
            eq-eqb (send_refusal u.kind u.grade 0 m (length f)) 0 (sym is ∙ accepted),
            ne_eqb (energy (numbered_frame u.kind u.grade u.number m)) e (λ z. n (sent-energy ∙ z)),
          ) refl

      pub compared : g ≡ e → (t : Bool) (x lent : List ℤ) → x ≡ frame_after r u.kind u.grade 0 u.number m lent → t ≡ same_frame x f → t ≡ is_sent_as u m f e
      unfolding is_sent_as
      compared p t x lent frame_is q =
          rw (
            le-leb (length f) 64 room,
            eq-eqb (send_refusal u.kind u.grade 0 m (length f)) 0 (sym is ∙ accepted),
            eq-eqb (energy (numbered_frame u.kind u.grade u.number m)) e (sym sent-energy ∙ p),
          ) (q ∙ ap (λ (y : List ℤ). same_frame y f)
          (frame_is ∙ (sent-leaves r u.kind u.grade 0 u.number m lent accepted).0 ∙ none-quiet u.kind u.grade u.number m))
