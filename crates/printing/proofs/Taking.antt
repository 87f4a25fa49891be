-- What was handed to the writes, from place to place: the lines taken are those of the listing, one after the other. Assumes nothing.
use Prim.Native.Nat.{ℕ, suc, ◌+◌, ◌≤◌, ◌<◌}
use mathlib.Core.Path.{◌≡◌, refl, sym, ap, ap₂, subst, subst⁻¹, ◌∙◌}
use mathlib.Core.Bool.{Bool, true, false, ◌&&◌}
use mathlib.Core.List.{List, [], ◌∷◌}
use native.Mathlib.Nat.{zero-add}
use native.Mathlib.Numerals.{add-one}
use native.Mathlib.Omega.{arith}
use borrow.Author.Count.{below_more}
use borrow.Author.Tests.{ltb-true, ltb-false}
use lib.Dec.{T, ltb}
use lib.ListN.{length, length-append}
use Rattle.text.specs.Text.{Put}
use Rattle.listing.specs.Listing.{listing_of}
use Rattle.listing.specs.Places.{beginning, line_on, next_on, place_after, listed_to, line_into, next_into, beginning_into, start_into}
use Rattle.listing.specs.declared.Place.{Place}
use Rattle.listing.proofs.Lines.{Inside, not-long, numbered-on, further, listed}
use Rattle.listing.proofs.Room.{a-record, a-beginning}
use Rattle.printing.specs.Printing.{begun, one_more, goes_on, Prints, PrintedBy}
use Rattle.printing.specs.declared.Printed.{Printed}

-- the length of a text that was put at the start of a room
pub put-length : {o x o' : List ℕ} {r : ℕ} → Put o 0 x r o' → r ≡ length x
put-length {x = x} h = h.after ∙ zero-add (length x)

-- the tests of a further line
pub goes_on_lem : (p : Printed) (n : ℕ) → goes_on p n ≡ true → p.place.at < n
goes_on_lem p n e = go p.whole (ltb p.place.at n) refl e
  where
    go : (v w : Bool) → ltb p.place.at n ≡ w → (v && w) ≡ true → p.place.at < n
    go true true q d = ltb-true p.place.at n q
    go true false q d = absurd (subst T (sym d) tt)
    go false w q d = absurd (subst T (sym d) tt)

pub goes-no-further : (p : Printed) (n : ℕ) → goes_on p n ≡ false → p.whole ≡ true → n ≤ p.place.at
goes-no-further p n e w = ltb-false p.place.at n (subst (λ (v : Bool). (v && ltb p.place.at n) ≡ false) w e)

-- what holds of what was handed over: it stands at the place after its lines, has the bytes of what is listed by then, and each of its lines is
-- that of a record
pub record Taken (s : List ℕ) (p : Printed) : Type 0 where
  pub place : p.place ≡ place_after s p.lines
  pub bytes : p.bytes ≡ length (listed_to s p.lines)
  pub inside : Inside s p.lines

module _ (s : List ℕ) where
  -- whatever answers end the printing from here: with those before them they end it from the beginning
  abbrev pub FromHere : Printed → Type 0
  FromHere p = (l : List Bool) (r : Printed) → Prints s p l r → PrintedBy s r

  pub from_first : (a : Bool) → FromHere (begun s a)
  from_first a l r h = record { first = a; answers = l; prints = h }

  pub printed-over : (p : Printed) → goes_on p (length s) ≡ false → FromHere p → PrintedBy s p
  printed-over p e f = f [] p (e, refl)

  -- the beginning
  pub begins : {n : ℕ} {q : Place} (a : Bool) → n ≡ length (beginning_into 1024 s) → q ≡ start_into 1024 s
      → record { lines = 0; bytes = n; place = q; whole = a } ≡ begun s a
  begins a e d =
      let b = a-beginning 1024 s (omega arith) in
      ap₂ (λ (x : ℕ) (y : Place). record { lines = 0; bytes = x; place = y; whole = a }) (e ∙ ap length (sym b.0)) (d ∙ sym b.1)

  pub begun-short : {n : ℕ} → n ≡ length (beginning_into 1024 s) → n ≤ 1024 → length (beginning s) ≤ 1024
  begun-short e h = let b = a-beginning 1024 s (omega arith) in omega (arith, ap length b.0, e, h)

  pub begun-taken : (a : Bool) → Taken s (begun s a)
  unfolding place_after listed_to
  begun-taken a = record { place = refl; bytes = refl; inside = λ j k. absurd (omega (arith, k)) }

  -- one more line
  module _ (p : Printed) (t : Taken s p) (e : goes_on p (length s) ≡ true) where
    at : p.place.at < length s
    at = goes_on_lem p (length s) e

    inside : Inside s (suc p.lines)
    inside j h = below_more (λ (i : ℕ). (place_after s i).at < length s) p.lines t.inside (subst (λ (q : Place). q.at < length s) t.place at) j (omega (arith, h))

    short : length s ≤ 32768
    short = not-long s p.lines inside

    pub lines-few : p.lines < 32768
    lines-few =
        let n = numbered-on s p.lines t.inside in
        omega (arith, n.1, short, subst (λ (q : Place). q.at < length s) t.place at)

    pub line-is : line_into 1024 s p.place ≡ line_on s p.place
    line-is = sym (a-record 1024 s p.place (omega arith) short at).0

    pub next-is : next_into 1024 s p.place ≡ next_on s p.place
    next-is = sym (a-record 1024 s p.place (omega arith) short at).1

    -- its bytes and the place after it
    pub line-given : (r : Printed) {b : ℕ} {q : Place} (a : Bool) → b ≡ length (line_into 1024 s p.place) → q ≡ next_into 1024 s p.place → r ≡ one_more p b q a
        → r ≡ one_more p (length (line_on s p.place)) (next_on s p.place) a
    line-given r a eb eq er = er ∙ ap₂ (λ (x : ℕ) (y : Place). one_more p x y a) (eb ∙ ap length line-is) (eq ∙ next-is)

    module _ (r : Printed) (a : Bool) (er : r ≡ one_more p (length (line_on s p.place)) (next_on s p.place) a) where
      pub line_taken : Taken s r
      unfolding place_after listed_to
      line_taken =
          let n = sym (add-one p.lines) in
          subst⁻¹ (Taken s) er (record {
            place = ap (next_on s) t.place ∙ ap (place_after s) n;
            bytes =
                ap₂ (λ (x : ℕ) (q : Place). x + length (line_on s q)) t.bytes t.place
                ∙ sym (length-append (listed_to s p.lines) (line_on s (place_after s p.lines))) ∙ ap (λ (i : ℕ). length (listed_to s i)) n;
            inside = λ j k. inside j (omega (arith, k));
          })

      pub line-further : p.place.at < r.place.at
      unfolding next_on
      line-further = subst⁻¹ (λ (x : Printed). p.place.at < x.place.at) er (further s p.place.at at).0

      pub line-answered : FromHere p → FromHere r
      line-answered f l x h = f (a ∷ l) x (e, subst (λ (y : Printed). Prints s y l x) er h)

  -- at the end of the sheet
  pub all-taken : (p : Printed) → Taken s p → goes_on p (length s) ≡ false → p.whole ≡ true → listed_to s p.lines ≡ listing_of s
  all-taken p t e w = listed s p.lines t.inside (subst (λ (q : Place). length s ≤ q.at) t.place (goes-no-further p (length s) e w))

  -- WHAT WAS PRINTED, whatever the writes answered: the lines taken are those of the listing up to a place, and all of them where no write failed
  pub printed-is : {r : Printed} → PrintedBy s r
      → (r.place ≡ place_after s r.lines) × (r.bytes ≡ length (listed_to s r.lines)) × (r.whole ≡ true → listed_to s r.lines ≡ listing_of s)
  printed-is {r} h = go h.answers (begun s h.first) (begun-taken h.first) h.prints
    where
      go : (l : List Bool) (p : Printed) → Taken s p → Prints s p l r
          → (r.place ≡ place_after s r.lines) × (r.bytes ≡ length (listed_to s r.lines)) × (r.whole ≡ true → listed_to s r.lines ≡ listing_of s)
      go [] p t e = let u : Taken s r = subst (Taken s) e.1 t in (u.place, u.bytes, all-taken r u (subst (λ (x : Printed). goes_on x (length s) ≡ false) e.1 e.0))
      go (a ∷ l) p t e = go l (one_more p (length (line_on s p.place)) (next_on s p.place) a) (line_taken p t e.0 _ a refl) e.1
