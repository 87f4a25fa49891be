-- The judgement of a message that is sent both ways, by the first test that is not passed. Assumes nothing.
use Prim.Native.Nat.{ℕ, ◌-◌, ◌≤◌, ◌<◌}
use mathlib.Core.Path.{◌≡◌, refl, ap, ◌∙◌}
use mathlib.Core.Bool.{Bool, true, false, ◌&&◌, not, cond}
use mathlib.Core.List.{List}
use native.Mathlib.Omega.{arith}
use lib.Dec.{eqb}
use lib.IntN.{ℤ, pos}
use lib.ListN.{length, take}
use lib.Signed.{lt_z}
use borrow.Author.Tests.{le-leb, lt-leb, eq-eqb, ne_eqb}
use Rattle.frames.specs.Reading.{same_frame}
use Rattle.answers.specs.Answer.{send_answer, send_frame}
use Rattle.test_ways.specs.Both.{is_equal, nines, is_equal_in}

module _ (sort k b number : ℕ) (m : List ℕ) where
  -- lent are the frames w, v and f; the answer is z, and left are x and y
  module _ (w v f : List ℤ) {x y : List ℤ} {z : ℤ} (xs : x ≡ send_frame k b 0 number m w) (ys : y ≡ send_frame k b 0 number m v)
      (zs : z ≡ send_answer k b 0 number m (length w)) where
    made : (same_frame x y && cond (lt_z z (pos 0)) (eqb sort 4 && same_frame x f) (not (eqb sort 4))) ≡ is_equal sort k b number m w v f
    unfolding is_equal
    made = rw (xs, ys, zs) refl

    pub frames-differ : same_frame x y ≡ false → false ≡ is_equal sort k b number m w v f
    frames-differ d = rw (← made, d) refl

    module _ (same : same_frame x y ≡ true) where
      module _ (refused : lt_z z (pos 0) ≡ true) where
        pub was-to-be-sent : (sort ≡ 4 → ⊥) → false ≡ is_equal sort k b number m w v f
        was-to-be-sent n = rw (← made, same, refused, ne_eqb sort 4 n) refl

        pub left-as-lent : sort ≡ 4 → {t : Bool} → t ≡ same_frame x f → t ≡ is_equal sort k b number m w v f
        left-as-lent e p = rw (← made, same, refused, eq-eqb sort 4 e) p

      module _ (sent : lt_z z (pos 0) ≡ false) where
        pub was-to-be-refused : sort ≡ 4 → false ≡ is_equal sort k b number m w v f
        was-to-be-refused e = rw (← made, same, sent, eq-eqb sort 4 e) refl

        pub as-it-has-to : (sort ≡ 4 → ⊥) → true ≡ is_equal sort k b number m w v f
        as-it-has-to n = rw (← made, same, sent, ne_eqb sort 4 n) refl

  -- frames of n nines
  module _ (n : ℕ) where
    pub no_room : 64 < n → false ≡ is_equal_in sort k b number m n
    unfolding is_equal_in
    no_room h = rw (lt-leb n 64 h) refl

    pub with-nines : n ≤ 64 → {t : Bool} (w v f : List ℤ) → t ≡ is_equal sort k b number m (take (n - 0) w) (take (n - 0) v) (take (n - 0) f) → w ≡ nines
        → v ≡ nines → f ≡ nines → t ≡ is_equal_in sort k b number m n
    unfolding is_equal_in
    with-nines h w v f e p q r =
        let d : n - 0 ≡ n = omega arith in
        rw (le-leb n 64 h)
        (e
        ∙ ap (λ (l : List ℤ). is_equal sort k b number m (take (n - 0) l) (take (n - 0) v) (take (n - 0) f)) p
        ∙ ap (λ (l : List ℤ). is_equal sort k b number m (take (n - 0) nines) (take (n - 0) l) (take (n - 0) f)) q
        ∙ ap (λ (l : List ℤ). is_equal sort k b number m (take (n - 0) nines) (take (n - 0) nines) (take (n - 0) l)) r
        ∙ ap (λ (i : ℕ). is_equal sort k b number m (take i nines) (take i nines) (take i nines)) d)
