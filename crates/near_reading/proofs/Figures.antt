-- The near reading in one number: a refusal's number times 4,294,967,296, or the squared distance, which is less. Assumes nothing.
use Prim.Native.Nat.{ℕ, ◌*◌, ◌/◌, ◌≤◌, ◌<◌}
use mathlib.Core.Path.{◌≡◌, refl, sym, ap, ◌∙◌, subst}
use mathlib.Core.Bool.{Bool, true, false, cond}
use mathlib.Core.List.{List, []}
use native.Mathlib.Omega.{arith}
use lib.Dec.{eqb}
use lib.Ieee.{Float}
use borrow.Author.Tests.{eqb-true, eqb-false}
use Rattle.samples.specs.Sample.{samples_in_256ths}
use Rattle.near_frames.specs.Near.{IsNear, near_frame, near_cost}
use Rattle.near_frames.proofs.Frames.{limit-low, near-is, is-near}
use Rattle.std.specs.Prelude.{Result, Ok, Err}
use Rattle.refusals.specs.declared.Refusal.{Refusal as Refused}
use Rattle.refusals.specs.Number.{code, number_of, figure_of}
use Rattle.near_reading.specs.Answer.{near_number, near_parts, near_figures, in_one}
use Rattle.near_reading.proofs.Tests.{some, success, number-low, parts-near}

module _ (k b : ℕ) (xs : List Float) (n : ℕ) where
  -- the distance where the number is 0
  cost-low : near_number k b xs n ≡ 0 → near_cost k (samples_in_256ths xs) < 262144
  cost-low z =
      let s = success k b xs n z in
      let near : IsNear k (samples_in_256ths xs) (near_frame k (samples_in_256ths xs) []) = is-near k s.0.kind (samples_in_256ths xs) s.1 in
      omega (arith, near.close, limit-low k s.0.kind, (near-is k s.0.kind (samples_in_256ths xs) (near_frame k (samples_in_256ths xs) []) near).2)

  -- either way
  by_number : (P : ℕ → Type 0) → (near_number k b xs n ≡ 0 → P (near_cost k (samples_in_256ths xs)))
      → ((near_number k b xs n ≡ 0 → ⊥) → P (near_number k b xs n * 4294967296)) → P (near_figures k b xs n)
  unfolding near_figures
  by_number P near refused = go (eqb (near_number k b xs n) 0) refl
    where
      go : (t : Bool) → eqb (near_number k b xs n) 0 ≡ t → P (cond t (near_cost k (samples_in_256ths xs)) (near_number k b xs n * 4294967296))
      go true e = near (eqb-true (near_number k b xs n) 0 e)
      go false e = refused (eqb-false (near_number k b xs n) 0 e)

  -- they are told by the number and the distance that the code answers
  pub in_one_is : (r : Result ℕ Refused) → number_of r ≡ near_number k b xs n → figure_of r ≡ near_parts k b xs n → in_one r ≡ near_figures k b xs n
  in_one_is (Ok cost) number parts = by_number (λ g. cost ≡ g) (λ z. parts ∙ parts-near k b xs n z) (λ h. absurd (h (sym number)))
  in_one_is (Err e) number parts = by_number (λ g. code e * 4294967296 ≡ g) (λ z. absurd (some e (number ∙ z))) (λ h. ap (λ (m : ℕ). m * 4294967296) number)

  -- less is the distance of a near frame
  pub record Distance (f : ℕ) : Type 0 where
    pub number : near_number k b xs n ≡ 0
    pub cost : f ≡ near_cost k (samples_in_256ths xs)

  pub told-distance : (f : ℕ) → f ≡ near_figures k b xs n → f < 4294967296 → Distance f
  told-distance f e = subst (λ (g : ℕ). g < 4294967296 → Distance g) (sym e) (by_number (λ g. g < 4294967296 → Distance g)
      (λ z h. record { number = z; cost = refl }) (λ z h. absurd (z (omega (arith, h)))))

  -- and else it is a refusal, whose number it tells
  pub record Refusal (f : ℕ) : Type 0 where
    pub some : near_number k b xs n ≡ 0 → ⊥
    pub number : f / 4294967296 ≡ near_number k b xs n
    pub low : f / 4294967296 ≤ 16

  pub told-refusal : (f : ℕ) → f ≡ near_figures k b xs n → 4294967296 ≤ f → Refusal f
  told-refusal f e = subst (λ (g : ℕ). 4294967296 ≤ g → Refusal g) (sym e) (by_number (λ g. 4294967296 ≤ g → Refusal g)
      (λ z h. absurd (omega (arith, h, cost-low z))) (λ z h. record { some = z; number = omega arith; low = omega (arith, number-low k b xs n) }))
