-- The tally after the judgements of a vector, one after the other. Assumes nothing.
use Prim.Native.Nat.{ℕ, ◌-◌, ◌/◌, ◌≤◌, ◌<◌}
use mathlib.Core.Path.{◌≡◌, refl, ap, ◌∙◌}
use mathlib.Core.Bool.{Bool, true, false, ◌&&◌, cond}
use mathlib.Core.List.{List, [], ◌∷◌, ◌++◌}
use lib.Dec.{leb}
use lib.IntN.{ℤ}
use lib.ListN.{length}
use borrow.Author.Tests.{le-leb, lt-leb, eq-eqb, ne_eqb}
use Rattle.test_tally.specs.Tally.{judged, Judgement, judged_all}
use Rattle.test_tally.proofs.Counted.{then-judged}
use Rattle.test_vectors.specs.declared.checks.Under.{Under}
use Rattle.test_vectors.specs.declared.checks.Energies.{Energies}
use Rattle.test_vectors.specs.Vector.{
  is_sent_as,
  is_read_as,
  is_answered,
  beside_of,
  scale_of,
  moved_frame,
  is_equivalent,
  is_broken,
  other_judgement,
  point_judgements,
  broken_judgements,
  judgements_of,
}

-- a judgement whose truth is known
counted : (k : ℕ) (t : List ℕ) {u : List ℕ} {b b' : Bool} → u ≡ judged k b t → b ≡ b' → u ≡ judged k b' t
counted k t e p = e ∙ ap (λ (b : Bool). judged k b t) p

module _ (u : Under) (m : List ℕ) (f : List ℤ) where
  module _ (e : ℕ) (t₀ : List ℕ) {t₁ : List ℕ} {b : Bool} where
    pub other-passed : u.other ≡ 0 → t₁ ≡ judged 4 b t₀ → b ≡ is_read_as true (beside_of u) f m e → t₁ ≡ judged_all (other_judgement u m f e ∷ []) t₀
    unfolding judged_all
    other-passed z t p = rw (eq-eqb u.other 0 z) (counted 4 t₀ t p)

    pub other-refused : (u.other ≡ 0 → ⊥) → t₁ ≡ judged 5 b t₀ → b ≡ is_answered true (beside_of u) f (length m) u.other
        → t₁ ≡ judged_all (other_judgement u m f e ∷ []) t₀
    unfolding judged_all
    other-refused n t p = rw (ne_eqb u.other 0 n) (counted 5 t₀ t p)

  -- ---- moved out of the coding set

  module _ (t₀ : List ℕ) {t₁ : List ℕ} {b : Bool} (e₁ : t₁ ≡ judged 8 b t₀) (p₁ : b ≡ is_broken u m f 1 7) where
    pub broken-one : u.kind ≡ 3 → t₁ ≡ judged_all (broken_judgements u m f) t₀
    unfolding judged_all broken_judgements
    broken-one k = rw (eq-eqb u.kind 3 k) (counted 8 t₀ e₁ p₁)

    module _ (other : u.kind ≡ 3 → ⊥) {t₂ : List ℕ} {b' : Bool} (e₂ : t₂ ≡ judged 9 b' t₁) (p₂ : b' ≡ is_broken u m f 2 8) where
      two : t₂ ≡ judged 9 (is_broken u m f 2 8) (judged 8 (is_broken u m f 1 7) t₀)
      two = counted 9 t₁ e₂ p₂ ∙ ap (judged 9 (is_broken u m f 2 8)) (counted 8 t₀ e₁ p₁)

      pub broken-two : (u.kind ≡ 6 → ⊥) → t₂ ≡ judged_all (broken_judgements u m f) t₀
      unfolding judged_all broken_judgements
      broken-two k = rw (ne_eqb u.kind 3 other, ne_eqb u.kind 6 k) two

      pub broken-three : u.kind ≡ 6 → {t₃ : List ℕ} {b'' : Bool} → t₃ ≡ judged 10 b'' t₂ → b'' ≡ is_broken u m f 4 13 → t₃ ≡ judged_all (broken_judgements u m f) t₀
      unfolding judged_all broken_judgements
      broken-three k e₃ p₃ =
          rw (ne_eqb u.kind 3 other, eq-eqb u.kind 6 k) (counted 10 t₂ e₃ p₃ ∙ ap (judged 10 (is_broken u m f 4 13)) two)

  module _ (es : Energies) where
    -- ---- with a point of the lattice added, of the scale s; the moved frames are x and y

    pub both-points : (t₀ : List ℕ) {t₁ t₂ : List ℕ} {b b' : Bool} {x y : List ℤ} {s : ℕ} → s ≡ scale_of u.kind u.grade → x ≡ moved_frame 0 2 s f
        → y ≡ moved_frame (length f - 8) (length f) (s / 2) f → t₁ ≡ judged 6 b t₀ → b ≡ is_equivalent u x m es.whole → t₂ ≡ judged 7 b' t₁
        → b' ≡ is_equivalent u y m es.half → t₂ ≡ judged_all (point_judgements u m f es) t₀
    unfolding judged_all
    both-points t₀ {t₁} s is_x is_y e₁ p₁ e₂ p₂ =
        let half = is_equivalent u (moved_frame (length f - 8) (length f) (scale_of u.kind u.grade / 2) f) m es.half in
        let y-is = is_y ∙ ap (λ (n : ℕ). moved_frame (length f - 8) (length f) (n / 2) f) s in
        let x-is = is_x ∙ ap (λ (n : ℕ). moved_frame 0 2 n f) s in
        counted 7 t₁ e₂ (p₂ ∙ ap (λ (z : List ℤ). is_equivalent u z m es.half) y-is)
        ∙ ap (judged 7 half) (counted 6 t₀ e₁ (p₁ ∙ ap (λ (z : List ℤ). is_equivalent u z m es.whole) x-is))

    -- ---- all

    abbrev rest : List Judgement
    rest = cond (leb 8 (length f) && leb (length f) 64) (point_judgements u m f es ++ broken_judgements u m f) []

    module _ (t₀ : List ℕ) {t₁ t₂ t₃ t₄ : List ℕ} {b b' b'' : Bool} (e₁ : t₁ ≡ judged 1 b t₀) (p₁ : b ≡ is_sent_as u m f es.sent)
        (e₂ : t₂ ≡ judged 2 b' t₁) (p₂ : b' ≡ is_read_as false u f m es.sent) (e₃ : t₃ ≡ judged 3 b'' t₂) (p₃ : b'' ≡ is_read_as true u f m es.sent)
        (e₄ : t₄ ≡ judged_all (other_judgement u m f es.sent ∷ []) t₃) where
      all : {v : List ℕ} → v ≡ judged_all rest t₄ → v ≡ judged_all (judgements_of u m f es) t₀
      unfolding judged_all judgements_of
      all e =
          let o = other_judgement u m f es.sent in
          e
          ∙ ap (judged_all rest)
          (e₄ ∙ ap (judged o.check o.passed)
          (counted 3 t₂ e₃ p₃ ∙ ap (judged 3 (is_read_as true u f m es.sent))
          (counted 2 t₁ e₂ p₂ ∙ ap (judged 2 (is_read_as false u f m es.sent)) (counted 1 t₀ e₁ p₁))))

      pub too_short : length f < 8 → t₄ ≡ judged_all (judgements_of u m f es) t₀
      unfolding judged_all
      too_short h = all (rw (lt-leb 8 (length f) h) refl)

      pub too_long : 8 ≤ length f → 64 < length f → t₄ ≡ judged_all (judgements_of u m f es) t₀
      unfolding judged_all
      too_long g h = all (rw (le-leb 8 (length f) g, lt-leb (length f) 64 h) refl)

      pub with_blocks : 8 ≤ length f → length f ≤ 64 → {t₅ t₆ : List ℕ} → t₅ ≡ judged_all (point_judgements u m f es) t₄
          → t₆ ≡ judged_all (broken_judgements u m f) t₅ → t₆ ≡ judged_all (judgements_of u m f es) t₀
      with_blocks g h e₅ e₆ =
          all (rw (le-leb 8 (length f) g, le-leb (length f) 64 h)
          (e₆ ∙ ap (judged_all (broken_judgements u m f)) e₅ ∙ then-judged (point_judgements u m f es) (broken_judgements u m f) t₄))
