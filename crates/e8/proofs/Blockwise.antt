-- A loop that writes a frame block by block: the blocks made so far, and the rest of the frame as it was. Assumes nothing.
use Prim.Native.Nat.{ℕ, zero, suc, ◌+◌, ◌-◌, ◌*◌, ◌≤◌, ◌<◌}
use mathlib.Core.Path.{◌≡◌, refl, sym, ap, ◌∙◌}
use mathlib.Core.List.{List, [], ◌++◌, append-nil, append_assoc}
use native.Mathlib.Omega.{arith}
use lib.ListN.{length, take, drop, length-append, length-take, length-drop, drop_of_length-le}
use lib.Seq.{take_at, drop_at, drop-drop, take-add}
use lib.IntN.{ℤ}
use borrow.Rule.Slice.PartMut.{put_mid}
use Rattle.e8.specs.Lattice.{part}

-- P j is the first j of the n blocks B
pub record Made (n : ℕ) (B P : ℕ → List ℤ) : Type 0 where
  pub none : P 0 ≡ []
  pub more : (j : ℕ) → P (j + 1) ≡ P j ++ B j
  pub eight : (j : ℕ) → j < n → length (B j) ≡ 8

-- the first j blocks of f are made, and the rest is as in f₀
pub record Over (P : ℕ → List ℤ) (f₀ : List ℤ) (j : ℕ) (f : List ℤ) : Type 0 where
  pub inside : 8 * j ≤ length f₀
  pub frame : f ≡ P j ++ drop (8 * j) f₀

module _ {n : ℕ} {B P : ℕ → List ℤ} (made : Made n B P) where
  made-length : (j : ℕ) → j ≤ n → length (P j) ≡ 8 * j
  made-length zero h = ap length made.none
  made-length (suc j) h =
      let e : suc j ≡ j + 1 = omega arith in
      ap (λ (i : ℕ). length (P i)) e ∙ ap length (made.more j) ∙ length-append (P j) (B j)
      ∙ omega (arith, made-length j (omega arith), made.eight j (omega arith))

  module _ {f₀ : List ℤ} (whole : length f₀ ≡ 8 * n) where
    pub over-start : Over P f₀ 0 f₀
    over-start = record { inside = omega arith; frame = sym (ap (λ (p : List ℤ). p ++ drop (8 * 0) f₀) made.none) }

    module _ {j : ℕ} {f : List ℤ} (h : Over P f₀ j f) where
      long : length (P j) ≡ 8 * j
      long = made-length j (omega (arith, h.inside))

      pub over-same : length f ≡ length f₀
      over-same = ap length h.frame ∙ length-append (P j) (drop (8 * j) f₀) ∙ simp length-drop (omega (arith, long, h.inside))

      pub over-end : n ≤ j → f ≡ P n
      over-end l =
          let e : j ≡ n = omega (arith, h.inside) in
          h.frame ∙ ap (λ (r : List ℤ). P j ++ r) (drop_of_length-le f₀ {i = 8 * j} (omega arith)) ∙ append-nil (P j) ∙ ap P e

      -- what is read next is block j of f₀
      pub over-next : take (8 * j + 8 - 8 * j) (drop (8 * j) f) ≡ part j f₀
      over-next =
          let k : 8 * j + 8 - 8 * j ≡ 8 = omega arith in
          rw (k, h.frame, drop_at (P j) (drop (8 * j) f₀) (8 * j) long)

      -- block j is written, and read again
      module _ (l : j < n) {y : List ℤ} (e : y ≡ B j) where
        put : put_mid (8 * j) (8 * j + 8 - 8 * j) f y ≡ (P j ++ y) ++ drop (8 * (j + 1)) f₀
        put =
            let k : 8 * j + 8 - 8 * j ≡ 8 = omega arith in
            let m : 8 * j + 8 ≡ 8 * (j + 1) = omega arith in
            rw (h.frame, take_at (P j) (drop (8 * j) f₀) (8 * j) long, drop_at (P j) (drop (8 * j) f₀) (8 * j) long, k, drop-drop, m, append_assoc)

        pub over-step : Over P f₀ (j + 1) (put_mid (8 * j) (8 * j + 8 - 8 * j) f y)
        over-step = record {
          inside = omega arith;
          frame = put ∙ ap (λ (p : List ℤ). p ++ drop (8 * (j + 1)) f₀) (ap (λ (b : List ℤ). P j ++ b) e ∙ sym (made.more j));
        }

-- block j of n
pub part-eight : (n : ℕ) (x : List ℤ) → length x ≡ 8 * n → (j : ℕ) → j < n → length (part j x) ≡ 8
part-eight n x long j h = simp (length-take, length-drop) (omega arith)

-- a frame is its blocks
pub taken_made : (n : ℕ) (x : List ℤ) → length x ≡ 8 * n → Made n (λ j. part j x) (λ j. take (8 * j) x)
taken_made n x long = record {
  none = refl;
  more = λ j. let e : 8 * (j + 1) ≡ 8 * j + 8 = omega arith in ap (λ (m : ℕ). take m x) e ∙ take-add (8 * j) 8 x;
  eight = part-eight n x long;
}
