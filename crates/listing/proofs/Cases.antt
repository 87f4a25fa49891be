-- The line at a place and the next place by the number of the record there, and the beginning by the sheet's length. Assumes nothing.
use Rattle.std.proofs.Common.{◌≡◌, ℕ, zero, suc, ◌<◌, true, false, eqb, ltb, List, ◌++◌, length, refl, sym, ap, ◌∙◌, subst, lt-ltb, eq-eqb, ne_eqb, arith}
use Rattle.text.specs.Text.{bytes, Put}
use Rattle.text.specs.Line.{header_text, refused_text}
use Rattle.sheet_record.specs.Record.{kind_at, grade_at, message_at, end_at, record_number}
use Rattle.sheet_line.specs.Sent.{sent_line}
use Rattle.listing.specs.Listing.{line_at, next_at}
use Rattle.listing.specs.Places.{beginning, start_of}

module _ (s : List ℕ) (p : ℕ) where
  pub refused-line : (number : ℕ) → (record_number s p ≡ 0 → ⊥) → (refused_text (record_number s p) ≡ line_at s p number) × (length s ≡ next_at s p)
  unfolding line_at next_at
  refused-line number n = let e : eqb (record_number s p) 0 ≡ false = ne_eqb _ _ n in (simp e, simp e)

  pub sent-line : (number : ℕ) → record_number s p ≡ 0
      → (sent_line (kind_at s p) (grade_at s p) number (message_at s p) ≡ line_at s p number) × (end_at s p ≡ next_at s p)
  unfolding line_at next_at
  sent-line number z = let e : eqb (record_number s p) 0 ≡ true = eq-eqb _ _ z in (simp e, simp e)

  -- the line that was put, where it is that of the message or its refusal
  pub line-put : (number n l : ℕ) (o r : List ℕ) → record_number s p ≡ n
      → (n ≡ 0 → Put o 0 (sent_line (kind_at s p) (grade_at s p) number (message_at s p)) l r)
      → ((n ≡ 0 → ⊥) → Put o 0 (refused_text n) l r)
      → Put o 0 (line_at s p number) l r
  line-put number zero l o r q f g = subst (λ (t : List ℕ). Put o 0 t l r) (sent-line number q).0 (f refl)
  line-put number (suc n) l o r q f g =
      let bad : suc n ≡ 0 → ⊥ = λ z. omega (arith, z) in
      subst (λ (t : List ℕ). Put o 0 t l r) (ap refused_text (sym q) ∙ (refused-line number (λ z. bad (sym q ∙ z))).0) (g bad)

module _ (s : List ℕ) where
  pub begins-long : 32768 < length s → (header_text ++ refused_text 12 ≡ beginning s) × (record { at = length s; number = 0 } ≡ start_of s)
  unfolding beginning start_of
  begins-long h = let e : ltb 32768 (length s) ≡ true = lt-ltb _ _ h in (simp e, simp e)

pub header-length : length header_text ≡ 24
unfolding header_text bytes
header-length = refl
