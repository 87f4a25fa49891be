-- THE SENTENCES OF REQUEST E11 as theorems, of one record: the orders of the tests, what a refusal leaves, that no byte outside the record is changed, that
-- what is written is read back the same, and that a record which is read is one that is written. For every buffer and place. Assumes nothing.
use Prim.Native.Nat.{ℕ, ◌+◌, ◌-◌, ◌*◌, ◌^◌, ◌≤◌, ◌<◌}
use mathlib.Core.Path.{◌≡◌, refl, sym, ap, ◌∙◌, subst}
use mathlib.Core.Bool.{Bool, true, false, cond}
use mathlib.Core.List.{List, ◌++◌}
use native.Mathlib.Omega.{arith}
use lib.Dec.{eqb, leb}
use lib.IntN.{ℤ, pos}
use lib.ListN.{length, get_or, take, drop}
use lib.Seq.{take_at}
use borrow.Author.Tests.{eq-eqb, ne_eqb, le-leb, lt-leb}
use Rattle.octets.specs.Place.{put_at}
use Rattle.octets.proofs.Place.{length-put, put-there, before-kept, behind-kept, put_same}
use Rattle.e8.specs.Energy.{energy}
use Rattle.e8.proofs.Within.{within-at}
use Rattle.coordinates.proofs.Size.{fits}
use Rattle.frames.specs.Kind.{is_kind, is_grade, degrees, message_bytes, scale}
use Rattle.frames.specs.Message.{Bytes, Message}
use Rattle.frames.specs.Free.{quiet_frame}
use Rattle.frames.specs.Sending.{unless, free_set, send_refusal, Accepts}
use Rattle.frames.specs.Reading.{in_range, broken, open_refusal, is_sent, strict_refusal}
use Rattle.frames.specs.Demands.{Sendable, SentFor}
use Rattle.frames.proofs.Rows.{grade-low}
use Rattle.frames.proofs.Limits.{scale-128}
use Rattle.frames.proofs.Accepted.{accepted-exactly, message-accepted}
use Rattle.frames.proofs.Demands.{messages-differ}
use Rattle.frames.proofs.Range.{sent-frame-within}
use Rattle.free_bits.proofs.Fillings.{quiet-least, quiet-frame-long, none-quiet}
use Rattle.free_bits.proofs.Strict.{read_back, strict-passed, strict-takes-sent, none-free-read}
use Rattle.four_bytes.proofs.Laws.{AllFit, four_below, length-coordinates}
use Rattle.records.specs.Record.{record_of, sent_record, record_bytes, kind_at, grade_at, number_at, frame_at, end_at}
use Rattle.records.specs.Writing.{write_refusal, write_answer, buffer_after}
use Rattle.records.specs.Reading.{RecordRead, head_refusal, strict_at, read_refusal, refused_by, read_answer, frame_read}
use Rattle.records.specs.Demands.{WriterOrder, ReaderOrder, MarkMissing, WriterRefuses, ReaderRefuses, Outside, ReadBackSame, Made}
use Rattle.records.proofs.Laws.{record-length, there-inside, there-marked, there-kind, there-grade, there-number, there-frame, stands}
use Rattle.records.proofs.Tests.{Writable, writable, write-refused, write-passed, room, mark-cut, no-mark, whole, Whole, whole-record, answered, answer-refused, read-passed, frame-passed}

-- ---- the order of the tests

pub writer-order : (k b : ℕ) (bytes : List ℕ) (p l : ℕ) → WriterOrder k b bytes p l
unfolding write_refusal send_refusal
writer-order k b bytes p l = record {
  order = rw (eq-eqb (2 ^ k) (2 ^ k) refl)
      (go (is_kind k) (is_grade b) (eqb (length bytes) (message_bytes k b)) (free_set k b 0 bytes) (unless (leb (p + record_bytes k) l) 19 0));
}
  where
    go : (s t u v : Bool) (rest : ℕ)
        → cond (eqb (unless s 1 (unless t 2 (unless u 3 (cond v 5 0)))) 0) rest (unless s 1 (unless t 2 (unless u 3 (cond v 5 0))))
        ≡ unless s 1 (unless t 2 (unless u 3 (cond v 5 rest)))
    go false t u v rest = refl
    go true false u v rest = refl
    go true true false v rest = refl
    go true true true true rest = refl
    go true true true false rest = refl

-- the tests of the open reading that a whole record has not passed yet
openly : (s : List ℕ) (p n : ℕ) → Whole s p n
    → open_refusal (kind_at s p) (grade_at s p) 0 (frame_at s p) (message_bytes (kind_at s p) (grade_at s p))
    ≡ unless (in_range (frame_at s p)) 6 (broken (kind_at s p) 0 (degrees (kind_at s p)) (frame_at s p))
unfolding open_refusal
openly s p n w =
    let l : eqb (length (frame_at s p)) (2 ^ kind_at s p) ≡ true = eq-eqb _ _ (length-coordinates (2 ^ kind_at s p) (drop (p + 8) s)) in
    let m : eqb (message_bytes (kind_at s p) (grade_at s p)) (message_bytes (kind_at s p) (grade_at s p)) ≡ true =
    eq-eqb (message_bytes (kind_at s p) (grade_at s p)) (message_bytes (kind_at s p) (grade_at s p)) refl in
    rw (w.kind, w.grade, l, m)

pub reader-order : (s : List ℕ) (p n : ℕ) → ReaderOrder s p n
unfolding read_refusal strict_refusal
reader-order s p n = record {
  first = λ h. rw (ne_eqb (head_refusal s p n) 0 h);
  order = λ e. rw (eq-eqb (head_refusal s p n) 0 e, openly s p n (whole-record s p n e))
      (go (in_range (frame_at s p)) (broken (kind_at s p) 0 (degrees (kind_at s p)) (frame_at s p))
      (unless (is_sent (kind_at s p) (grade_at s p) 0 (number_at s p) (frame_at s p)) 9 0));
}
  where
    go : (t : Bool) (x rest : ℕ) → cond (eqb (unless t 6 x) 0) rest (unless t 6 x) ≡ unless t 6 (cond (eqb x 0) rest x)
    go true x rest = refl
    go false x rest = refl

pub mark-missing : (s : List ℕ) (p : ℕ) → MarkMissing s p
unfolding read_refusal
mark-missing s p = record {
  ten = λ h n. rw (sym (no-mark s p n (sym (mark-cut s p (lt-leb (p + 2) (length s) h)))));
}

-- ---- what a refusal leaves

pub writer-refuses : (k b number : ℕ) (bytes : List ℕ) (p : ℕ) (o : List ℕ) → WriterRefuses k b number bytes p o
unfolding write_answer
writer-refuses k b number bytes p o = record {
  same = λ n. sym (write-refused k b number bytes p o (write_refusal k b bytes p (length o)) refl n).1;
  refusal = refl;
  next-0 = λ n. rw (ne_eqb (write_refusal k b bytes p (length o)) 0 n);
}

pub reader-refuses : (s : List ℕ) (p : ℕ) (lent : List ℤ) → ReaderRefuses s p lent
reader-refuses s p lent = record {
  same = λ n. sym (answer-refused s p lent n).1;
  refusal = answered s p (length lent);
  kind_0 = λ n. ap (λ (r : RecordRead). r.kind) (zeros n);
  grade-0 = λ n. ap (λ (r : RecordRead). r.grade) (zeros n);
  number-0 = λ n. ap (λ (r : RecordRead). r.number) (zeros n);
  energy-0 = λ n. ap (λ (r : RecordRead). r.energy) (zeros n);
  next-0 = λ n. ap (λ (r : RecordRead). r.next) (zeros n);
}
  where
    zeros : (read_refusal s p (length lent) ≡ 0 → ⊥) → read_answer s p (length lent) ≡ refused_by (read_refusal s p (length lent))
    zeros n = sym (answer-refused s p lent n).0

-- ---- the record of a message that sending accepts

module _ (k b number : ℕ) (bytes : List ℕ) (each : Bytes bytes) (ok : Accepts k b 0 bytes) where
  good : Sendable k b 0 bytes (2 ^ k)
  good = (accepted-exactly k b 0 bytes (2 ^ k) each).sendable ok

  abbrev f : List ℤ
  f = quiet_frame k b 0 number bytes

  long : length f ≡ 2 ^ k
  long = quiet-frame-long k b 0 number good.kind (grade-low b good.grade) bytes

  -- its coordinates are in the range of 32 bits
  fit : AllFit f
  fit = record {
    each = λ i. fits (get_or f i (pos 0))
        (omega (arith, within-at (scale k b) f i (sent-frame-within k b 0 number good.kind good.grade bytes), scale-128 k b good.kind good.grade));
  }

  pub sent-long : length (sent_record k b number bytes) ≡ record_bytes k
  unfolding sent_record
  sent-long = record-length k b number f ∙ ap (λ (n : ℕ). 8 + 4 * n) long

  -- READ where it stands, whatever is behind it, with as many coordinates lent as the kind has
  module _ (small : number < 2 ^ 32) (rest s : List ℕ) (p : ℕ) (at : drop p s ≡ sent_record k b number bytes ++ rest) where
    at-record : drop p s ≡ record_of k b number f ++ rest
    unfolding sent_record
    at-record = at

    pub kind-there : kind_at s p ≡ k
    kind-there = there-kind k b number f rest s p at-record

    grade-there : grade_at s p ≡ b
    grade-there = there-grade k b number f rest s p at-record

    number-there : number_at s p ≡ number
    number-there = there-number k b number f rest s p at-record small

    frame-there : frame_at s p ≡ f
    frame-there = there-frame k b number f rest s p at-record fit long

    end-there : end_at s p ≡ p + record_bytes k
    end-there = ap (λ (m : ℕ). p + record_bytes m) kind-there

    fits-there : (n : ℕ) → n ≤ p + record_bytes k → leb n (length s) ≡ true
    fits-there n h = le-leb n (length s) (omega (arith, there-inside k b number f rest s p at-record, long))

    head-passes : head_refusal s p (2 ^ k) ≡ 0
    head-passes = sym (whole s p (2 ^ k) (there-marked k b number f rest s p at-record) (fits-there (p + 3) (omega arith))
        (rw kind-there good.kind) (fits-there (p + 4) (omega arith)) (rw grade-there good.grade) (rw kind-there)
        (fits-there (end_at s p) (omega (arith, end-there))))

    strict-passes : strict_at s p ≡ 0
    strict-passes =
        rw (frame-there, number-there, kind-there, grade-there, sym good.message.message.long) (read_back k b 0 number bytes each ok).strict-takes

    pub read-there : (lent : List ℤ) → length lent ≡ 2 ^ k
        → (read_answer s p (length lent)
        ≡ record { refusal = 0; kind = k; grade = b; number = number; energy = energy f; next = p + record_bytes k }) × (frame_read s p lent ≡ f)
    read-there lent l =
        let head : head_refusal s p (length lent) ≡ 0 = ap (head_refusal s p) l ∙ head-passes in
        let r = frame-passed s p lent head 0 (number_at s p) (energy (frame_at s p)) (end_at s p) (sym strict-passes) refl refl refl refl in
        (sym r.0 ∙ rw (frame-there, number-there, end-there, kind-there, grade-there), sym r.1 ∙ frame-there)

-- ---- the writer

module _ (k b number : ℕ) (bytes : List ℕ) (p : ℕ) (o : List ℕ) (each : Bytes bytes) (accepted : write_refusal k b bytes p (length o) ≡ 0) where
  can : Writable k b bytes p (length o)
  can = writable k b bytes p (length o) accepted

  abbrev r : List ℕ
  r = sent_record k b number bytes

  r-long : length r ≡ record_bytes k
  r-long = sent-long k b number bytes each can.sent

  room_for : p + length r ≤ length o
  room_for = omega (arith, r-long, can.fits)

  pub next-is : (write_answer k b bytes p (length o)).next ≡ p + record_bytes k
  next-is = sym (ap (λ r. r.next) (write-passed k b number bytes p o (write_refusal k b bytes p (length o)) refl accepted).0)

  pub buffer-is : buffer_after k b number bytes p o ≡ put_at o p r
  buffer-is = sym (write-passed k b number bytes p o (write_refusal k b bytes p (length o)) refl accepted).1

  -- "changes no byte outside the record and gives the place after it"
  pub outside_kept : Outside k b number bytes p (write_answer k b bytes p (length o)).next o (buffer_after k b number bytes p o)
  outside_kept =
      subst (λ (x : List ℕ). Outside k b number bytes p (write_answer k b bytes p (length o)).next o x) (sym buffer-is)
      (subst (λ (n : ℕ). Outside k b number bytes p n o (put_at o p r)) (sym next-is) (record {
        after = ap (λ (n : ℕ). p + n) (sym r-long);
        inside = can.fits;
        stands = ap (take (length r)) (put-there o p r room_for) ∙ take_at r (drop (p + length r) o) (length r) refl;
        long = length-put o p r room_for;
        before = before-kept o p r room_for;
        behind = λ i h. subst (λ (j : ℕ). get_or (put_at o p r) j 0 ≡ get_or o j 0) (place i h) (behind-kept o p r room_for (i - (p + record_bytes k)));
      }))
    where
      place : (i : ℕ) → p + record_bytes k ≤ i → p + length r + (i - (p + record_bytes k)) ≡ i
      place i h = omega (arith, r-long)

  -- "What the writer puts down is read back the same"
  pub read-back-same : number < 2 ^ 32 → ReadBackSame k b number bytes p o
  read-back-same small = record {
    answer = rw (buffer-is, next-is) (ap (read_answer (put_at o p r) p) (sym l) ∙ (back (quiet_frame k b 0 number bytes) l).0);
    frame = λ lent l. rw buffer-is (back lent l).1;
  }
    where
      l : length (quiet_frame k b 0 number bytes) ≡ 2 ^ k
      l = long k b number bytes each can.sent

      back : (lent : List ℤ) → length lent ≡ 2 ^ k
          → (read_answer (put_at o p r) p (length lent)
          ≡ record { refusal = 0; kind = k; grade = b; number = number; energy = energy (quiet_frame k b 0 number bytes); next = p + record_bytes k })
          × (frame_read (put_at o p r) p lent ≡ quiet_frame k b 0 number bytes)
      back = read-there k b number bytes each can.sent small (drop (p + length r) o) (put_at o p r) p (put-there o p r room_for)

-- ---- the reader

module _ (s : List ℕ) (p n : ℕ) (each : Bytes s) (passed : read_refusal s p n ≡ 0) where
  abbrev k : ℕ
  k = kind_at s p

  abbrev b : ℕ
  b = grade_at s p

  abbrev number : ℕ
  number = number_at s p

  is_whole : Whole s p n
  is_whole = whole-record s p n (read-passed s p n passed).0

  is-sent : SentFor k b 0 number (frame_at s p)
  is-sent = strict-takes-sent k b 0 number (frame_at s p) (message_bytes k b) (read-passed s p n passed).1

  is_open : open_refusal k b 0 (frame_at s p) (message_bytes k b) ≡ 0
  is_open = (strict-passed k b 0 number (frame_at s p) (message_bytes k b) (read-passed s p n passed).1).0

  number-below : number < 2 ^ 32
  number-below = four_below (get_or s (p + 4) 0) (get_or s (p + 4 + 1) 0) (get_or s (p + 4 + 2) 0) (get_or s (p + 4 + 3) 0)
      (each (p + 4)) (each (p + 4 + 1)) (each (p + 4 + 2)) (each (p + 4 + 3))

  writes : (bytes : List ℕ) → Message k b bytes → write_refusal k b bytes p (length s) ≡ 0
  writes bytes m = sym (room k b bytes p (length s) (message-accepted k b bytes is_whole.kind is_whole.grade m)
      (le-leb (end_at s p) (length s) is_whole.ends))

  the-record : take (record_bytes k) (drop p s) ≡ sent_record k b number is-sent.bytes
  unfolding sent_record
  the-record = stands s p each is_whole.mark is_whole.ends ∙ ap (record_of k b number) is-sent.sent

  -- "a record the reader passes is one the writer makes"
  pub made : Made s p
  made = record {
    bytes = is-sent.bytes;
    message = is-sent.message.message;
    given = sym ((none-free-read k b number (frame_at s p) (message_bytes k b)).given is_open) ∙ is-sent.given;
    number = number-below;
    accepted = writes is-sent.bytes is-sent.message.message;
    sent = is-sent.sent;
    least = (quiet-least k b 0 number is_whole.kind (grade-low b is_whole.grade) is-sent.bytes is-sent.sent (ap energy is-sent.sent)).own;
    stands = the-record;
    same = buffer-is k b number is-sent.bytes p s is-sent.message.message.each (writes is-sent.bytes is-sent.message.message)
        ∙ ap (put_at s p) (sym the-record) ∙ put_same s p (record_bytes k) is_whole.ends;
    only = λ other m e. messages-differ k b is_whole.kind is_whole.grade number number other is-sent.bytes m is-sent.message.message
        (sym (none-quiet k b number other) ∙ sent-there other m e ∙ is-sent.sent ∙ none-quiet k b number is-sent.bytes);
  }
    where
      -- the frame of a message whose record leaves the buffer as it is
      sent-there : (other : List ℕ) → Message k b other → buffer_after k b number other p s ≡ s → quiet_frame k b 0 number other ≡ frame_at s p
      sent-there other m e =
          let ok : Accepts k b 0 other = message-accepted k b other is_whole.kind is_whole.grade m in
          let t = sent_record k b number other in
          let l : p + length t ≤ length s = omega (arith, sent-long k b number other m.each ok, is_whole.ends) in
          sym (frame-there k b number other m.each ok number-below (drop (p + length t) s) s p
          (ap (drop p) (sym e ∙ buffer-is k b number other p s m.each (writes other m)) ∙ put-there s p t l))
