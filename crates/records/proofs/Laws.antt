-- The bytes of a record that stands at a place, what is read there, and a record from the bytes that stand there. Assumes nothing.
use Prim.Native.Nat.{ℕ, suc, ◌+◌, ◌*◌, ◌^◌, ◌≤◌, ◌<◌}
use mathlib.Core.Path.{◌≡◌, sym, ap, ap₂, ◌∙◌}
use mathlib.Core.Bool.{true, ◌&&◌}
use mathlib.Core.List.{List, [], ◌∷◌, ◌++◌}
use native.Mathlib.Nat.{add-zero}
use native.Mathlib.Omega.{arith}
use lib.Dec.{eqb, leb}
use lib.IntN.{ℤ}
use lib.ListN.{length, get_or, take, drop, set, length-append, length-drop}
use lib.Seq.{get_or-drop, drop-drop}
use borrow.Author.Tests.{eqb-true, le-leb}
use Rattle.octets.specs.Place.{put_at}
use Rattle.octets.proofs.Place.{put-more}
use Rattle.e8.proofs.Within.{and_both}
use Rattle.four_bytes.specs.FourBytes.{four_bytes, four_at, coordinate_bytes, coordinates_from}
use Rattle.four_bytes.proofs.Laws.{four-back, bytes_back, length-bytes, four-drop, AllFit, coordinates-back, bytes-again}
use Rattle.four_bytes.proofs.Stored.{four-stores}
use Rattle.records.specs.Record.{record_of, record_bytes, marked, kind_at, grade_at, number_at, frame_at}

pub record-length : (k b number : ℕ) (f : List ℤ) → length (record_of k b number f) ≡ 8 + 4 * length f
unfolding record_of four_bytes
record-length k b number f = omega (arith, length-bytes f)

-- as the code puts it: four stores, the number, the coordinates
pub record-put : (k b number : ℕ) (f : List ℤ) (o : List ℕ) (p : ℕ) → p + (8 + 4 * length f) ≤ length o
    → put_at (put_at (set (set (set (set o p 76) (p + 1) 70) (p + 2) k) (p + 3) b) (p + 4) (four_bytes number)) (p + 8) (coordinate_bytes f)
    ≡ put_at o p (record_of k b number f)
unfolding record_of four_bytes
record-put k b number f o p h =
    ap (λ (x : List ℕ). put_at (put_at x (p + 4) (four_bytes number)) (p + 8) (coordinate_bytes f)) (four-stores o p (omega arith) 76 70 k b)
    ∙ ap (λ (x : List ℕ). put_at x (p + 8) (coordinate_bytes f)) (put-more o p (76 ∷ 70 ∷ k ∷ b ∷ []) (omega arith) (four_bytes number))
    ∙ put-more o p (76 ∷ 70 ∷ k ∷ b ∷ four_bytes number) (omega arith) (coordinate_bytes f)

-- ---- a record that stands at a place

module _ (k b number : ℕ) (f : List ℤ) (rest s : List ℕ) (p : ℕ) (at : drop p s ≡ record_of k b number f ++ rest) where
  pub there-inside : p + (8 + 4 * length f) ≤ length s
  there-inside =
      omega (arith, sym (length-drop p s) ∙ ap length at ∙ length-append (record_of k b number f) rest, record-length k b number f)

  byte : (i : ℕ) → get_or s (p + i) 0 ≡ get_or (record_of k b number f ++ rest) i 0
  byte i = sym (get_or-drop p s i 0) ∙ ap (λ (x : List ℕ). get_or x i 0) at

  pub there-marked : marked s p ≡ true
  unfolding marked record_of
  there-marked =
      let e₀ : get_or s p 0 ≡ 76 = ap (λ (i : ℕ). get_or s i 0) (sym (add-zero p)) ∙ byte 0 in
      rw (le-leb (p + 2) (length s) (omega (arith, there-inside)), e₀, byte 1)

  pub there-kind : kind_at s p ≡ k
  unfolding record_of
  there-kind = byte 2

  pub there-grade : grade_at s p ≡ b
  unfolding record_of
  there-grade = byte 3

  pub there-number : number < 4294967296 → number_at s p ≡ number
  unfolding record_of four_bytes
  there-number l = sym (four-drop s p 4) ∙ ap (λ (x : List ℕ). four_at x 4) at ∙ four-back number l

  pub there-frame : AllFit f → length f ≡ 2 ^ k → frame_at s p ≡ f
  unfolding record_of four_bytes
  there-frame fit l =
      ap₂ (λ (n : ℕ) (x : List ℕ). coordinates_from n x) (ap (λ (m : ℕ). 2 ^ m) there-kind ∙ sym l) (sym (drop-drop 8 p s) ∙ ap (drop 8) at)
      ∙ coordinates-back f fit rest

-- ---- a record from the bytes that stand at a place

-- the bytes from the place on
whole-bytes : (n : ℕ) (t : List ℕ) → ((j : ℕ) → get_or t j 0 < 256) → 8 + 4 * n ≤ length t → get_or t 0 0 ≡ 76 → get_or t 1 0 ≡ 70
    → take (8 + 4 * n) t ≡ record_of (get_or t 2 0) (get_or t 3 0) (four_at t 4) (coordinates_from n (drop 8 t))
unfolding record_of
whole-bytes n [] h l e₀ e₁ = absurd (omega arith)
whole-bytes n (a ∷ []) h l e₀ e₁ = absurd (omega arith)
whole-bytes n (a ∷ b ∷ []) h l e₀ e₁ = absurd (omega arith)
whole-bytes n (a ∷ b ∷ c ∷ []) h l e₀ e₁ = absurd (omega arith)
whole-bytes n (a ∷ b ∷ c ∷ d ∷ []) h l e₀ e₁ = absurd (omega arith)
whole-bytes n (a ∷ b ∷ c ∷ d ∷ e ∷ []) h l e₀ e₁ = absurd (omega arith)
whole-bytes n (a ∷ b ∷ c ∷ d ∷ e ∷ f ∷ []) h l e₀ e₁ = absurd (omega arith)
whole-bytes n (a ∷ b ∷ c ∷ d ∷ e ∷ f ∷ g ∷ []) h l e₀ e₁ = absurd (omega arith)
whole-bytes n (a ∷ b ∷ c ∷ d ∷ e ∷ f ∷ g ∷ i ∷ t) h l e₀ e₁ =
    let q : 8 + 4 * n ≡ suc (suc (suc (suc (suc (suc (suc (suc (4 * n)))))))) = omega arith in
    ap (λ (m : ℕ). take m (a ∷ b ∷ c ∷ d ∷ e ∷ f ∷ g ∷ i ∷ t)) q
    ∙ ap₂ (λ (x y : ℕ). x ∷ y ∷ c ∷ d ∷ e ∷ f ∷ g ∷ i ∷ take (4 * n) t) e₀ e₁
    ∙ ap₂ (λ (x y : List ℕ). 76 ∷ 70 ∷ c ∷ d ∷ (x ++ y)) (sym (bytes_back e f g i (h 4) (h 5) (h 6) (h 7)))
    (sym (bytes-again n t (λ j. h (suc (suc (suc (suc (suc (suc (suc (suc j))))))))) (omega arith)))

-- the two bytes of a mark
pub marked-bytes : (s : List ℕ) (p : ℕ) → marked s p ≡ true → (get_or s p 0 ≡ 76) × (get_or s (p + 1) 0 ≡ 70)
unfolding marked
marked-bytes s p e =
    let t = and_both (leb (p + 2) (length s) && eqb (get_or s p 0) 76) (eqb (get_or s (p + 1) 0) 70) e in
    let u = and_both (leb (p + 2) (length s)) (eqb (get_or s p 0) 76) t.0 in
    (eqb-true (get_or s p 0) 76 u.1, eqb-true (get_or s (p + 1) 0) 70 t.1)

pub stands : (s : List ℕ) (p : ℕ) → ((j : ℕ) → get_or s j 0 < 256) → marked s p ≡ true → p + record_bytes (kind_at s p) ≤ length s
    → take (record_bytes (kind_at s p)) (drop p s) ≡ record_of (kind_at s p) (grade_at s p) (number_at s p) (frame_at s p)
stands s p bytes mark h =
    let m = marked-bytes s p mark in
    let n = 2 ^ kind_at s p in
    let each : (j : ℕ) → get_or (drop p s) j 0 < 256 = λ j. rw (get_or-drop p s j 0) (bytes (p + j)) in
    let e₀ : get_or (drop p s) 0 0 ≡ 76 = get_or-drop p s 0 0 ∙ ap (λ (i : ℕ). get_or s i 0) (add-zero p) ∙ m.0 in
    whole-bytes n (drop p s) each (rw length-drop (omega arith)) e₀ (get_or-drop p s 1 0 ∙ m.1)
    ∙ ap₂ (λ (k b : ℕ). record_of k b (four_at (drop p s) 4) (coordinates_from n (drop 8 (drop p s)))) (get_or-drop p s 2 0) (get_or-drop p s 3 0)
    ∙ ap₂ (λ (w : ℕ) (t : List ℕ). record_of (kind_at s p) (grade_at s p) w (coordinates_from n t)) (four-drop s p 4) (drop-drop 8 p s)
