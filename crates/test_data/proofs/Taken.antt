-- Numbers taken from bytes, from the last byte on; and a lent list filled from bytes, element by element. Assumes nothing.
use Rattle.std.proofs.Common.{◌≡◌, ℕ, suc, ◌+◌, ◌*◌, ◌%◌, ◌≤◌, ◌<◌, List, [], ◌∷◌, ◌++◌, map, reverse, length, get_or, take, drop, set, refl, sym, ap, ap₂, ◌∙◌, append_assoc, add-one, arith, Bor}
use Rattle.std.proofs.lemmas.List.{map-append, reverse-append}
use Rattle.std.proofs.Math.Seq.{drop-cons, take-suc-set, drop-set-lt}
use Rattle.std.proofs.Math.ListN.{take-append-drop, drop_of_length-le}
use borrow.Author.Tests.{le-leb, lt-leb}
use Rattle.test_data.specs.Held.{held, number_in, taken_from}

-- the highest byte of what was read so far goes where the number would not fit
joined : (b h : ℕ) → b < 256 → 256 * (h % 18446744073709551616 % 72057594037927936) + b ≡ (b + 256 * h) % 18446744073709551616
joined b h small = omega arith

-- one byte more, before those that were read
pub number_more : (read : List (Bor ℕ)) (byte : Bor ℕ) (x b : ℕ) → b ≡ byte.now → byte.now < 256 → x ≡ number_in (reverse (map (λ r. r.now) read))
    → 256 * (x % 72057594037927936) + b ≡ number_in (reverse (map (λ r. r.now) (read ++ (byte ∷ []))))
unfolding held
number_more read byte x b is small e =
    ap₂ (λ (n m : ℕ). 256 * (n % 72057594037927936) + m) e is
    ∙ joined byte.now (held (reverse (map (λ (r : Bor ℕ). r.now) read))) small
    ∙ sym (simp (map-append, reverse-append))

-- ---- a list that is filled from bytes: its first i elements are

module _ {A : Type 0} (of : List ℕ → A) where
  -- what it is to become is what it holds so far, with the rest filled from the rest of the bytes
  abbrev pub Taking : List A → List A → List ℕ → ℕ → Type 0
  Taking whole out rest i = take i out ++ taken_from of rest (drop i out) ≡ whole

  -- no bytes for one more
  short : (rest : List ℕ) (out : List A) → length rest < 4 → taken_from of rest out ≡ out
  unfolding taken_from
  short rest [] h = refl
  short rest (z ∷ out) h = rw (lt-leb 4 (length rest) h) refl

  pub no_more : (whole out : List A) (rest : List ℕ) (i : ℕ) → length rest < 4 → Taking whole out rest i → out ≡ whole
  no_more whole out rest i h e = sym (take-append-drop i out) ∙ ap (λ (l : List A). take i out ++ l) (sym (short rest (drop i out) h)) ∙ e

  -- no room for one more
  pub no_room : (whole out : List A) (rest : List ℕ) (i : ℕ) → length out ≤ i → Taking whole out rest i → out ≡ whole
  unfolding taken_from
  no_room whole out rest i h e =
      sym (take-append-drop i out)
      ∙ ap (λ (l : List A). take i out ++ l) (drop_of_length-le out h ∙ sym (ap (taken_from of rest) (drop_of_length-le out h)))
      ∙ e

  -- one more, with what there was in its place
  step : (rest : List ℕ) (z : A) (out : List A) → 4 ≤ length rest → taken_from of rest (z ∷ out) ≡ of (take 4 rest) ∷ taken_from of (drop 4 rest) out
  unfolding taken_from
  step rest z out h = rw (le-leb 4 (length rest) h) refl

  pub one_more : (whole out : List A) (rest behind : List ℕ) (i : ℕ) (d v : A) → 4 ≤ length rest → behind ≡ drop 4 rest → i < length out
      → v ≡ of (take 4 rest) → Taking whole out rest i → Taking whole (set out i v) behind (i + 1)
  one_more whole out rest behind i d v h b hi is t =
      ap₂ (λ (l : List A) (m : List A). l ++ taken_from of behind m)
      (ap (λ (n : ℕ). take n (set out i v)) (add-one i) ∙ take-suc-set out i v hi)
      (drop-set-lt (i + 1) out i v (omega arith) ∙ ap (λ (n : ℕ). drop n out) (add-one i))
      ∙ append_assoc (take i out) (v ∷ []) (taken_from of behind (drop (suc i) out))
      ∙ ap (λ (l : List A). take i out ++ l)
      (ap₂ (λ (x : A) (m : List ℕ). x ∷ taken_from of m (drop (suc i) out)) is b
      ∙ sym (step rest (get_or out i d) (drop (suc i) out) h)
      ∙ sym (ap (taken_from of rest) (drop-cons out i d hi)))
      ∙ t
