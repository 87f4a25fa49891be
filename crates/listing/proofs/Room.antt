-- What is put into a lent line, by the room that is lent. Assumes nothing.
use Rattle.std.proofs.Common.{◌≡◌, ℕ, zero, suc, ◌+◌, ◌%◌, ◌^◌, ◌<◌, ◌≤◌, Bool, true, false, cond, ltb, leb, List, [], ◌++◌, length, sym, refl, ap, ◌∙◌, subst, append-nil, mod-eq_of_lt, arith, le-ltb, lt-ltb, le-leb}
use native.Mathlib.Decide.{dec_lt}
use mathlib.Core.Logic.{◌⊎◌, inl, inr}
use borrow.Author.Tests.{lt-leb}
use Rattle.text.specs.Text.{Put}
use Rattle.text.specs.Line.{header_text, refused_text}
use Rattle.text.proofs.Buffer.{put-none}
use Rattle.listing.specs.Listing.{next_at, lines_from, long, listing_of}
use Rattle.listing.specs.Places.{beginning, start_of, line_on, next_on, ended, line_into, next_into, beginning_into, start_into, put_from}
use Rattle.listing.specs.declared.Place.{Place}

module _ (room : ℕ) (s : List ℕ) where
  -- nothing is put at the place, and the listing ends
  abbrev pub NonePut : Place → Type 0
  NonePut p = ([] ≡ line_into room s p) × (ended s p.number ≡ next_into room s p)

  pub no_room : (p : Place) → room < 1024 → NonePut p
  unfolding line_into next_into
  no_room p h = (simp (lt-ltb room 1024 h), simp (lt-ltb room 1024 h))

  -- a long sheet has the header and `refused 12` only: no place of it has a line
  pub too_long : (p : Place) → 32768 < length s → NonePut p
  unfolding line_into next_into
  too_long p h = go (ltb room 1024)
    where
      go : (v : Bool) → ([] ≡ cond v [] (cond (long s) [] (cond (leb (length s) p.at) [] (line_on s p))))
          × (ended s p.number
          ≡ cond v (ended s p.number) (cond (long s) (ended s p.number) (cond (leb (length s) p.at) (ended s p.number) (next_on s p))))
      go true = (refl, refl)
      go false = (simp (lt-ltb 32768 (length s) h), simp (lt-ltb 32768 (length s) h))

  -- and from its end on a sheet has none, be it long or not
  pub no_record : (p : Place) → length s ≤ p.at → NonePut p
  unfolding line_into next_into
  no_record p h = go (ltb room 1024) (long s)
    where
      go : (v w : Bool) → ([] ≡ cond v [] (cond w [] (cond (leb (length s) p.at) [] (line_on s p))))
          × (ended s p.number ≡ cond v (ended s p.number) (cond w (ended s p.number) (cond (leb (length s) p.at) (ended s p.number) (next_on s p))))
      go true w = (refl, refl)
      go false true = (refl, refl)
      go false false = (simp (le-leb (length s) p.at h), simp (le-leb (length s) p.at h))

  pub a-record : (p : Place) → 1024 ≤ room → length s ≤ 32768 → p.at < length s → (line_on s p ≡ line_into room s p) × (next_on s p ≡ next_into room s p)
  unfolding line_into next_into
  a-record p roomy short e =
      let r = le-ltb room 1024 roomy in
      let l = le-ltb 32768 (length s) short in
      let i = lt-leb (length s) p.at e in
      (simp (r, l, i), simp (r, l, i))

  pub no-beginning : room < 1024 → ([] ≡ beginning_into room s) × (ended s 0 ≡ start_into room s)
  unfolding beginning_into start_into
  no-beginning h = (simp (lt-ltb room 1024 h), simp (lt-ltb room 1024 h))

  pub a-beginning : 1024 ≤ room → (beginning s ≡ beginning_into room s) × (start_of s ≡ start_into room s)
  unfolding beginning_into start_into
  a-beginning h = (simp (le-ltb room 1024 h), simp (le-ltb room 1024 h))

-- a line of no bytes leaves the room as it was
pub nothing_put : (o : List ℕ) {x : List ℕ} {n : ℕ} → [] ≡ x → n ≡ 0 → Put o 0 x n o
nothing_put o {x} {n} e z = subst (λ (l : List ℕ). Put o 0 l n o) e (subst (λ (m : ℕ). Put o 0 [] m o) (sym z) (put-none o 0))

-- as the code finds it: too little room, a long sheet, or no record at the place
pub none-at : (o s : List ℕ) (p : Place) {n : ℕ} → (length o < 1024) ⊎ ((32768 < length s) ⊎ (length s ≤ p.at)) → n ≡ 0
    → Put o 0 (line_into (length o) s p) n o
none-at o s p (inl h) e = nothing_put o (no_room (length o) s p h).0 e
none-at o s p (inr (inl h)) e = nothing_put o (too_long (length o) s p h).0 e
none-at o s p (inr (inr h)) e = nothing_put o (no_record (length o) s p h).0 e

-- ---- THE LISTING AS IT IS PUT: where there is room, the beginning, and line after line at the place that was given

module _ (room : ℕ) (s : List ℕ) (roomy : 1024 ≤ room) where
  none-put : (f : ℕ) (p : Place) → length s ≤ p.at → put_from f room s p ≡ []
  unfolding put_from
  none-put zero p h = refl
  none-put (suc f) p h = simp (le-ltb p.at (length s) h)

  -- the lines of a sheet that is not long
  lines-put : length s ≤ 32768 → (f : ℕ) (p : Place) → p.number + f < 2 ^ 32 → put_from f room s p ≡ lines_from f s p.at p.number
  unfolding put_from lines_from next_on
  lines-put short zero p n = refl
  lines-put short (suc f) p n =
      let q : (p.number + 1) % 2 ^ 32 ≡ p.number + 1 = mod-eq_of_lt (omega arith) in
      go (dec_lt p.at (length s))
      (lines-put short f (next_on s p) (omega (arith, q)) ∙ ap (lines_from f s (next_at s p.at)) q)
    where
      go : Dec (p.at < length s) → put_from f room s (next_on s p) ≡ lines_from f s (next_at s p.at) (p.number + 1)
          → cond (ltb p.at (length s)) (line_into room s p ++ put_from f room s (next_into room s p)) []
          ≡ cond (ltb p.at (length s)) (line_on s p ++ lines_from f s (next_at s p.at) (p.number + 1)) []
      go (yes h) ih = let r = a-record room s p roomy short h in rw (← r.0, ← r.1, ih)
      go (no n) ih = let l = le-ltb p.at (length s) (omega arith) in simp l

  pub listing-put : beginning_into room s ++ put_from (length s) room s (start_into room s) ≡ listing_of s
  unfolding beginning start_of listing_of
  listing-put = go (dec_lt 32768 (length s))
    where
      go : Dec (32768 < length s) → beginning_into room s ++ put_from (length s) room s (start_into room s) ≡ listing_of s
      go (yes h) =
          let b = a-beginning room s roomy in
          let l = lt-ltb 32768 (length s) h in
          rw (← b.0, ← b.1) (simp (l, none-put (length s) (ended s 0) (omega arith)) (append-nil (header_text ++ refused_text 12)))
      go (no n) =
          let b = a-beginning room s roomy in
          let l = le-ltb 32768 (length s) (omega arith) in
          rw (← b.0, ← b.1) (simp (l, lines-put (omega arith) (length s) (record { at = 0; number = 0 }) (omega arith)))
