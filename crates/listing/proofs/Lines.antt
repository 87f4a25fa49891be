-- The listing from place to place: what it begins with, and then the line of the record at each place. Assumes nothing.
use Rattle.std.proofs.Common.{◌≡◌, ℕ, zero, suc, ◌+◌, ◌-◌, ◌%◌, ◌^◌, ◌<◌, ◌≤◌, Bool, true, false, cond, List, [], ◌++◌, length, sym, refl, ap, ◌∙◌, subst, append_assoc, append-nil, mod-eq_of_lt, arith, le-ltb, lt-ltb}
use native.Mathlib.Decide.{dec_lt, ℕ_discrete}
use Rattle.text.specs.Line.{header_text, refused_text}
use Rattle.sheet_record.specs.Record.{record_refusal, record_number}
use Rattle.sheet_record.proofs.Tests.{whole-record, number-refused}
use Rattle.listing.specs.Listing.{line_at, next_at, lines_from, long, listing_of}
use Rattle.listing.specs.Places.{beginning, start_of, line_on, next_on, place_after, listed_to}
use Rattle.listing.specs.declared.Place.{Place}
use Rattle.listing.proofs.Cases.{refused-line, sent-line}

module _ (s : List ℕ) where
  -- a record that is not refused is whole
  whole_of : (p : ℕ) → record_number s p ≡ 0 → record_refusal s p ≡ 0
  whole_of p z = go (ℕ_discrete (record_refusal s p) 0)
    where
      go : Dec (record_refusal s p ≡ 0) → record_refusal s p ≡ 0
      go (yes e) = e
      go (no n) = sym (number-refused s p n) ∙ z

  -- the next byte is further on, and in the sheet or at its end
  pub further : (p : ℕ) → p < length s → (p < next_at s p) × (next_at s p ≤ length s)
  further p h = go (ℕ_discrete (record_number s p) 0)
    where
      go : Dec (record_number s p ≡ 0) → (p < next_at s p) × (next_at s p ≤ length s)
      go (yes z) = let e = (sent-line s p 0 z).1 in let w = whole-record s p (whole_of p z) in (omega (arith, e), omega (arith, e, w.ends))
      go (no n) = let e = (refused-line s p 0 n).1 in (omega (arith, e), omega (arith, e))

  none_left : (f p number : ℕ) → length s ≤ p → lines_from f s p number ≡ []
  unfolding lines_from
  none_left zero p number h = refl
  none_left (suc f) p number h = simp (le-ltb p (length s) h)

  one_more : (f p number : ℕ) → p < length s → lines_from (suc f) s p number ≡ line_at s p number ++ lines_from f s (next_at s p) (number + 1)
  unfolding lines_from
  one_more f p number h = simp (lt-ltb p (length s) h)

  -- as many records as there are bytes left are enough
  enough : (f g p number : ℕ) → length s ≤ f + p → length s ≤ g + p → lines_from f s p number ≡ lines_from g s p number
  enough zero g p number hf hg = none_left zero p number (omega arith) ∙ sym (none_left g p number (omega arith))
  enough (suc f) zero p number hf hg = none_left (suc f) p number (omega arith) ∙ sym (none_left zero p number (omega arith))
  enough (suc f) (suc g) p number hf hg = go (enough f g (next_at s p) (number + 1)) (dec_lt p (length s))
    where
      go : (length s ≤ f + next_at s p → length s ≤ g + next_at s p → lines_from f s (next_at s p) (number + 1) ≡ lines_from g s (next_at s p) (number + 1))
          → Dec (p < length s) → lines_from (suc f) s p number ≡ lines_from (suc g) s p number
      go ih (yes h) =
          let k = (further p h).0 in
          one_more f p number h ∙ ap (λ (l : List ℕ). line_at s p number ++ l) (ih (omega arith) (omega arith)) ∙ sym (one_more g p number h)
      go ih (no n) = none_left (suc f) p number (omega arith) ∙ sym (none_left (suc g) p number (omega arith))

  -- the lines from a place on
  abbrev pub lines_at : Place → List ℕ
  lines_at p = lines_from (length s - p.at) s p.at p.number

  -- THE LISTING IN ORDER: it is its beginning and the lines from the first place on,
  pub listing_begins : beginning s ++ lines_at (start_of s) ≡ listing_of s
  unfolding beginning listing_of start_of
  listing_begins = go (long s)
    where
      go : (v : Bool) → (header_text ++ cond v (refused_text 12) []) ++ lines_from (length s - cond v (length s) 0) s (cond v (length s) 0) 0
          ≡ header_text ++ cond v (refused_text 12) (lines_from (length s) s 0 0)
      go true =
          ap (λ (l : List ℕ). (header_text ++ refused_text 12) ++ l) (none_left (length s - length s) (length s) 0 (omega arith))
          ∙ append-nil (header_text ++ refused_text 12)
      go false =
          append_assoc header_text [] (lines_from (length s - 0) s 0 0)
          ∙ ap (λ (l : List ℕ). header_text ++ l) (enough (length s - 0) (length s) 0 0 (omega arith) (omega arith))

  -- the lines from a place in the sheet on are the line of the record there and those from the next place on,
  pub lines-go-on : (p : Place) → p.at < length s → p.number + 1 < 2 ^ 32 → lines_at p ≡ line_on s p ++ lines_at (next_on s p)
  unfolding next_on
  lines-go-on p h n =
      let k = (further p.at h).0 in
      let next = next_at s p.at in
      let q : (p.number + 1) % 2 ^ 32 ≡ p.number + 1 = mod-eq_of_lt n in
      enough (length s - p.at) (suc (length s)) p.at p.number (omega arith) (omega arith) ∙ one_more (length s) p.at p.number h
      ∙ ap (λ (l : List ℕ). line_on s p ++ l) (enough (length s) (length s - next) next (p.number + 1) (omega arith) (omega arith)
      ∙ ap (lines_from (length s - next) s next) (sym q))

  -- and from the sheet's end on there are none
  pub lines_end : (p : Place) → length s ≤ p.at → lines_at p ≡ []
  lines_end p h = none_left (length s - p.at) p.at p.number h

  -- ---- the places after 0, 1, .. lines

  -- the first i places are in the sheet: each has a record
  abbrev pub Inside : ℕ → Type 0
  Inside i = (j : ℕ) → j < i → (place_after s j).at < length s

  -- where the first place is in the sheet, the sheet is not long
  start-inside : (start_of s).at < length s → length s ≤ 32768
  unfolding start_of
  start-inside h = go (dec_lt 32768 (length s))
    where
      go : Dec (32768 < length s) → length s ≤ 32768
      go (yes l) = let e = lt-ltb 32768 (length s) l in absurd (omega (arith, subst (λ (v : Bool). cond v (length s) 0 < length s) e h))
      go (no n) = omega arith

  start-within : (start_of s).at ≤ length s
  unfolding start_of
  start-within = go (long s)
    where
      go : (v : Bool) → cond v (length s) 0 ≤ length s
      go true = omega arith
      go false = omega arith

  -- so a sheet with a place in it is not long
  pub not-long : (i : ℕ) → Inside (suc i) → length s ≤ 32768
  unfolding place_after
  not-long i f = start-inside (f 0 (omega arith))

  -- RECORD i HAS NUMBER i, and the place after i records is i bytes on at least, in the sheet or at its end
  pub numbered-on : (i : ℕ) → Inside i → ((place_after s i).number ≡ i) × (i ≤ (place_after s i).at) × ((place_after s i).at ≤ length s)
  unfolding place_after start_of next_on
  numbered-on zero f = (refl, omega arith, start-within)
  numbered-on (suc i) f = go (numbered-on i (λ j h. f j (omega arith))) (further (place_after s i).at (f i (omega arith))) (not-long i f)
    where
      go : ((place_after s i).number ≡ i) × (i ≤ (place_after s i).at) × ((place_after s i).at ≤ length s)
          → ((place_after s i).at < next_at s (place_after s i).at) × (next_at s (place_after s i).at ≤ length s)
          → length s ≤ 32768
          → (((place_after s i).number + 1) % 2 ^ 32 ≡ suc i) × (suc i ≤ next_at s (place_after s i).at) × (next_at s (place_after s i).at ≤ length s)
      go ih k l =
          let n : (place_after s i).number + 1 < 2 ^ 32 = omega (arith, ih.0, ih.1, k.0, k.1) in
          let q = mod-eq_of_lt n in
          (omega (arith, q, ih.0), omega (arith, ih.1, k.0), k.1)

  -- THE LISTING FROM PLACE TO PLACE: what is listed by a place, and the lines from there on, are the listing,
  pub listed-so-far : (i : ℕ) → Inside i → listed_to s i ++ lines_at (place_after s i) ≡ listing_of s
  unfolding listed_to place_after
  listed-so-far zero f = listing_begins
  listed-so-far (suc i) f =
      let g : Inside i = λ j h. f j (omega arith) in
      let n = numbered-on i g in
      let p = place_after s i in
      let h = f i (omega arith) in
      append_assoc (listed_to s i) (line_on s p) (lines_at (next_on s p))
      ∙ ap (λ (l : List ℕ). listed_to s i ++ l) (sym (lines-go-on p h (omega (arith, n.0, n.1, n.2, h, not-long i f))))
      ∙ listed-so-far i g

  -- and what is listed by the sheet's end is the listing
  pub listed : (i : ℕ) → Inside i → length s ≤ (place_after s i).at → listed_to s i ≡ listing_of s
  listed i f e =
      sym (append-nil (listed_to s i)) ∙ ap (λ (l : List ℕ). listed_to s i ++ l) (sym (lines_end (place_after s i) e)) ∙ listed-so-far i f
