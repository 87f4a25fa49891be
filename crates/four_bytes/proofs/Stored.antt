-- Four bytes stored, as the code stores them, and the bytes of one coordinate more. Assumes nothing.
use Prim.Native.Nat.{ℕ, suc, ◌+◌, ◌*◌, ◌/◌, ◌%◌, ◌≤◌, ◌<◌}
use native.Mathlib.Omega.{arith}
use mathlib.Core.Path.{◌≡◌, sym, ap, ap₂, ◌∙◌}
use mathlib.Core.List.{List, [], ◌∷◌}
use lib.ListN.{length, take, set, get_or}
use lib.Seq.{length-take-le, take-suc}
use lib.IntN.{ℤ, pos}
use Rattle.octets.specs.Place.{put_at}
use Rattle.octets.proofs.Place.{sets-put, put-more}
use Rattle.four_bytes.specs.FourBytes.{four_bytes, twos, coordinate_bytes}
use Rattle.four_bytes.proofs.Laws.{length-bytes, bytes-append}

module _ (o : List ℕ) (p : ℕ) (h : p + 4 ≤ length o) where
  pub four-stores : (a b c d : ℕ) → set (set (set (set o p a) (p + 1) b) (p + 2) c) (p + 3) d ≡ put_at o p (a ∷ b ∷ c ∷ d ∷ [])
  four-stores a b c d =
      let e₁ : p + 1 ≡ suc p = omega arith in
      let e₂ : p + 2 ≡ suc (suc p) = omega arith in
      let e₃ : p + 3 ≡ suc (suc (suc p)) = omega arith in
      ap (λ (i : ℕ). set (set (set (set o p a) i b) (p + 2) c) (p + 3) d) e₁
      ∙ ap₂ (λ (i j : ℕ). set (set (set (set o p a) (suc p) b) i c) j d) e₂ e₃
      ∙ sets-put o p (a ∷ b ∷ c ∷ d ∷ []) h

  pub four-stored : (w a b c d : ℕ) → a ≡ w % 256 → b ≡ w / 256 % 256 → c ≡ w / 65536 % 256 → d ≡ w / 16777216 % 256
      → set (set (set (set o p a) (p + 1) b) (p + 2) c) (p + 3) d ≡ put_at o p (four_bytes w)
  unfolding four_bytes
  four-stored w a b c d ea eb ec ed =
      four-stores a b c d
      ∙ ap (put_at o p) (ap₂ (λ (x : ℕ) (xs : List ℕ). x ∷ xs) ea (ap₂ (λ (x : ℕ) (xs : List ℕ). x ∷ xs) eb (ap₂ (λ (x y : ℕ). x ∷ y ∷ []) ec ed)))

-- one coordinate more
pub next-put : (o : List ℕ) (p : ℕ) (f : List ℤ) (i : ℕ) → i < length f → p + 4 * length f ≤ length o
    → put_at (put_at o p (coordinate_bytes (take i f))) (p + 4 * i) (four_bytes (twos (get_or f i (pos 0)))) ≡ put_at o p (coordinate_bytes (take (i + 1) f))
unfolding coordinate_bytes four_bytes
next-put o p f i h r =
    let s = coordinate_bytes (take i f) in
    let z = get_or f i (pos 0) in
    let l : length s ≡ 4 * i = length-bytes (take i f) ∙ ap (λ (n : ℕ). 4 * n) (length-take-le i f (omega arith)) in
    ap (λ (n : ℕ). put_at (put_at o p s) (p + n) (four_bytes (twos z))) (sym l)
    ∙ put-more o p s (omega arith) (four_bytes (twos z))
    ∙ ap (put_at o p) (sym (bytes-append (take i f) (z ∷ [])) ∙ ap coordinate_bytes (sym (take-suc f i (pos 0) h))
    ∙ ap (λ (n : ℕ). coordinate_bytes (take n f)) {x = suc i} {y = i + 1} (omega arith))
