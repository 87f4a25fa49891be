-- RECORDS ONE BEHIND THE OTHER as theorems (request E11): they are written in turn, read in turn as their frames, and what is read in turn was written so.
-- Assumes nothing.
use Prim.Native.Nat.{ℕ, zero, suc, ◌+◌, ◌^◌, ◌≤◌, ◌<◌}
use mathlib.Core.Path.{◌≡◌, refl, sym, ap, ap₂, ◌∙◌}
use mathlib.Core.List.{List, [], ◌∷◌, ◌++◌, append_assoc}
use native.Mathlib.Nat.{add-zero}
use native.Mathlib.Omega.{arith}
use lib.IntN.{pos}
use lib.ListN.{length, get_or, replicate, take, drop, length-append, length-drop, length-replicate, take-append-drop}
use lib.Seq.{take-add, drop_at, drop-drop}
use borrow.Author.Tests.{le-leb}
use Rattle.octets.specs.Place.{put_at}
use Rattle.octets.proofs.Place.{length-put, put-none, put-there, put-more}
use Rattle.frames.specs.Message.{Bytes}
use Rattle.records.specs.Record.{record_bytes, kind_at, grade_at, number_at}
use Rattle.records.specs.Writing.{write_refusal, write_answer, buffer_after}
use Rattle.records.specs.Reading.{read_refusal, read_answer}
use Rattle.records.specs.Demands.{Made}
use Rattle.records.specs.InTurn.{Entry, Sound, AllSound, no_entry, record_for, row_of, written_in_turn, last_place, refusals_in_turn, Given, read_at, read_in_turn, given_for, given_for_all}
use Rattle.records.specs.InTurn.{WrittenInTurn, ReadAll, EndsWith, AllPass, MadeInTurn}
use Rattle.records.proofs.Tests.{room, writable, answered}
use Rattle.records.proofs.Demands.{sent-long, kind-there, read-there, next-is, buffer-is, made, mark-missing, writer-refuses}

-- ---- entries

first-sound : (e : Entry) (es : List Entry) → AllSound (e ∷ es) → Sound e
first-sound e es a = a.each 0 (omega arith)

rest-sound : (e : Entry) (es : List Entry) → AllSound (e ∷ es) → AllSound es
rest-sound e es a = record { each = λ i h. a.each (suc i) (omega arith) }

none-sound : AllSound []
none-sound = record { each = λ i h. absurd (omega arith) }

more-sound : (e : Entry) (es : List Entry) → Sound e → AllSound es → AllSound (e ∷ es)
more-sound e es s a = record { each = go }
  where
    go : (i : ℕ) → i < suc (length es) → Sound (get_or (e ∷ es) i no_entry)
    go zero h = s
    go (suc i) h = a.each i (omega arith)

record-long : (e : Entry) → Sound e → length (record_for e) ≡ record_bytes e.kind
record-long e s = sent-long e.kind e.grade e.number e.message s.bytes s.accepted

row-long : (e : Entry) (es : List Entry) → length (row_of (e ∷ es)) ≡ length (record_for e) + length (row_of es)
unfolding row_of
row-long e es = length-append (record_for e) (row_of es)

-- ---- writing

-- one record, where there is room for it
module _ (e : Entry) (s : Sound e) (p : ℕ) (o : List ℕ) (h : p + length (record_for e) ≤ length o) where
  takes : write_refusal e.kind e.grade e.message p (length o) ≡ 0
  takes = sym (room e.kind e.grade e.message p (length o) s.accepted
      (le-leb (p + record_bytes e.kind) (length o) (omega (arith, record-long e s))))

  place-one : (write_answer e.kind e.grade e.message p (length o)).next ≡ p + length (record_for e)
  place-one = next-is e.kind e.grade e.number e.message p o s.bytes takes ∙ ap (λ (n : ℕ). p + n) (sym (record-long e s))

  buffer-one : buffer_after e.kind e.grade e.number e.message p o ≡ put_at o p (record_for e)
  buffer-one = buffer-is e.kind e.grade e.number e.message p o s.bytes takes

written : (es : List Entry) → AllSound es → (p : ℕ) (o : List ℕ) → p + length (row_of es) ≤ length o → written_in_turn es p o ≡ put_at o p (row_of es)
unfolding written_in_turn row_of
written [] a p o h = sym (put-none o p)
written (e ∷ es) a p o h =
    let s = first-sound e es a in
    let h₁ : p + length (record_for e) ≤ length o = omega (arith, row-long e es) in
    let l : length (put_at o p (record_for e)) ≡ length o = length-put o p (record_for e) h₁ in
    ap₂ (λ (q : ℕ) (x : List ℕ). written_in_turn es q x) (place-one e s p o h₁) (buffer-one e s p o h₁)
    ∙ written es (rest-sound e es a) (p + length (record_for e)) (put_at o p (record_for e)) (omega (arith, l, row-long e es))
    ∙ put-more o p (record_for e) h₁ (row_of es)

last : (es : List Entry) → AllSound es → (p : ℕ) (o : List ℕ) → p + length (row_of es) ≤ length o → last_place es p (length o) ≡ p + length (row_of es)
unfolding last_place row_of
last [] a p o h = sym (add-zero p)
last (e ∷ es) a p o h =
    let s = first-sound e es a in
    let h₁ : p + length (record_for e) ≤ length o = omega (arith, row-long e es) in
    ap (λ (q : ℕ). last_place es q (length o)) (place-one e s p o h₁)
    ∙ last es (rest-sound e es a) (p + length (record_for e)) o (omega (arith, row-long e es))
    ∙ omega (arith, row-long e es)

passes : (es : List Entry) → AllSound es → (p : ℕ) (o : List ℕ) → p + length (row_of es) ≤ length o → refusals_in_turn es p (length o) ≡ replicate (length es) 0
unfolding refusals_in_turn row_of
passes [] a p o h = refl
passes (e ∷ es) a p o h =
    let s = first-sound e es a in
    let h₁ : p + length (record_for e) ≤ length o = omega (arith, row-long e es) in
    ap₂ (λ (x : ℕ) (xs : List ℕ). x ∷ xs)
    ((writer-refuses e.kind e.grade e.number e.message p o).refusal ∙ takes e s p o h₁)
    (ap (λ (q : ℕ). refusals_in_turn es q (length o)) (place-one e s p o h₁)
    ∙ passes es (rest-sound e es a) (p + length (record_for e)) o (omega (arith, row-long e es)))

-- ---- reading

-- one record, whatever stands behind it
module _ (e : Entry) (t : Sound e) (rest s : List ℕ) (p : ℕ) (at : drop p s ≡ record_for e ++ rest) where
  kind-one : kind_at s p ≡ e.kind
  kind-one = kind-there e.kind e.grade e.number e.message t.bytes t.accepted t.number rest s p at

  lent : length (replicate (2 ^ kind_at s p) (pos 0)) ≡ 2 ^ e.kind
  lent = length-replicate (2 ^ kind_at s p) (pos 0) ∙ ap (λ (k : ℕ). 2 ^ k) kind-one

  read_one : read_at s p ≡ given_for e p
  unfolding read_at given_for
  read_one =
      let t' = read-there e.kind e.grade e.number e.message t.bytes t.accepted t.number rest s p at in
      let r = t' (replicate (2 ^ kind_at s p) (pos 0)) lent in
      ap₂ (λ a f. record { answer = a; frame = f })
      (ap (read_answer s p) (sym (length-replicate (2 ^ kind_at s p) (pos 0))) ∙ r.0)
      r.1

  -- what stands behind it
  behind-one : drop (p + record_bytes e.kind) s ≡ rest
  behind-one =
      sym (drop-drop (record_bytes e.kind) p s) ∙ ap (drop (record_bytes e.kind)) at ∙ drop_at (record_for e) rest (record_bytes e.kind) (record-long e t)

readings : (es : List Entry) → AllSound es → (rest s : List ℕ) (p : ℕ) → drop p s ≡ row_of es ++ rest → read_in_turn (length es) s p ≡ given_for_all es p
unfolding read_in_turn given_for_all row_of
readings [] a rest s p at = refl
readings (e ∷ es) a rest s p at =
    let t = first-sound e es a in
    let at₁ : drop p s ≡ record_for e ++ (row_of es ++ rest) = at ∙ append_assoc (record_for e) (row_of es) rest in
    let one = read_one e t (row_of es ++ rest) s p at₁ in
    ap₂ (λ (r : Given) (rs : List Given). r ∷ rs) one
    (ap (λ (r : Given). read_in_turn (length es) s r.answer.next) one
    ∙ readings es (rest-sound e es a) rest s (p + record_bytes e.kind) (behind-one e t (row_of es ++ rest) s p at₁))

pub read_all : (es : List Entry) → AllSound es → (rest s : List ℕ) (p : ℕ) → drop p s ≡ row_of es ++ rest → ReadAll es s p
read_all es a rest s p at = record { given = readings es a rest s p at }

pub written-in-turn : (es : List Entry) → AllSound es → (p : ℕ) (o : List ℕ) → p + length (row_of es) ≤ length o → WrittenInTurn es p o
written-in-turn es a p o h = record {
  refusals = passes es a p o h;
  buffer = written es a p o h;
  place = last es a p o h;
  read_back = readings es a (drop (p + length (row_of es)) o) (written_in_turn es p o) p (ap (drop p) (written es a p o h) ∙ put-there o p (row_of es) h);
}

pub ends_with : (es : List Entry) (s : List ℕ) (p : ℕ) → p ≤ length s → EndsWith es s p
ends_with es s p h = record {
  ten = λ at. (mark-missing s (p + length (row_of es))).ten (omega (arith, sym (length-drop p s) ∙ ap length at));
}

-- ---- back

-- one call that passes: the entry of the record that it passed
module _ (s : List ℕ) (p : ℕ) (each : Bytes s) (passed : (read_at s p).answer.refusal ≡ 0) where
  tests : read_refusal s p (2 ^ kind_at s p) ≡ 0
  unfolding read_at
  tests = sym (answered s p (2 ^ kind_at s p)) ∙ passed

  m : Made s p
  m = made s p (2 ^ kind_at s p) each tests

  entry : Entry
  entry = record { kind = kind_at s p; grade = grade_at s p; number = number_at s p; message = m.bytes }

  entry-sound : Sound entry
  unfolding entry
  entry-sound = record { bytes = m.message.each; accepted = (writable (kind_at s p) (grade_at s p) m.bytes p (length s) m.accepted).sent; number = m.number }

  entry-long : length (record_for entry) ≡ record_bytes (kind_at s p)
  unfolding entry
  entry-long = record-long entry entry-sound

  entry-stands : take (length (record_for entry)) (drop p s) ≡ record_for entry
  unfolding entry
  entry-stands = ap (λ (n : ℕ). take n (drop p s)) entry-long ∙ m.stands

  entry-there : drop p s ≡ record_for entry ++ drop (length (record_for entry)) (drop p s)
  entry-there =
      sym (take-append-drop (length (record_for entry)) (drop p s))
      ∙ ap (λ (x : List ℕ). x ++ drop (length (record_for entry)) (drop p s)) entry-stands

  entry_next : (read_at s p).answer.next ≡ p + length (record_for entry)
  unfolding given_for
  entry_next =
      ap (λ (r : Given). r.answer.next) (read_one entry entry-sound (drop (length (record_for entry)) (drop p s)) s p entry-there)
      ∙ ap (λ (n : ℕ). p + n) (sym (record-long entry entry-sound))

-- n calls
record Built (n : ℕ) (s : List ℕ) (p : ℕ) : Type 0 where
  entries : List Entry
  count : length entries ≡ n
  sound : AllSound entries
  stands : take (length (row_of entries)) (drop p s) ≡ row_of entries

build : (n : ℕ) (s : List ℕ) (p : ℕ) → Bytes s → AllPass n s p → Built n s p
unfolding read_in_turn row_of
build zero s p each a = record { entries = []; count = refl; sound = none-sound; stands = refl }
build (suc n) s p each a =
    let passed : (read_at s p).answer.refusal ≡ 0 = a.each 0 (omega arith) in
    let e = entry s p each passed in
    let r = record_for e in
    let b = build n s (read_at s p).answer.next each (record { each = λ i h. a.each (suc i) (omega arith) }) in
    let row = row_of b.entries in
    record {
      entries = e ∷ b.entries;
      count = ap suc b.count;
      sound = more-sound e b.entries (entry-sound s p each passed) b.sound;
      stands = ap (λ (m : ℕ). take m (drop p s)) (length-append r row) ∙ take-add (length r) (length row) (drop p s)
          ∙ ap₂ (λ (x y : List ℕ). x ++ y) (entry-stands s p each passed)
          (ap (take (length row)) (drop-drop (length r) p s ∙ ap (λ (q : ℕ). drop q s) (sym (entry_next s p each passed))) ∙ b.stands);
    }

pub made-in-turn : (n : ℕ) (s : List ℕ) (p : ℕ) → Bytes s → AllPass n s p → MadeInTurn n s p
made-in-turn n s p each a =
    let b = build n s p each a in
    let row = row_of b.entries in
    let at : drop p s ≡ row ++ drop (length row) (drop p s) =
    sym (take-append-drop (length row) (drop p s)) ∙ ap (λ (x : List ℕ). x ++ drop (length row) (drop p s)) b.stands in
    record {
      entries = b.entries;
      count = b.count;
      sound = b.sound;
      stands = b.stands;
      given = ap (λ (m : ℕ). read_in_turn m s p) (sym b.count) ∙ readings b.entries b.sound (drop (length row) (drop p s)) s p at;
    }
