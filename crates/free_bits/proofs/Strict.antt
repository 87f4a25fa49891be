-- THE READINGS WITH FREE BITS as theorems, sentence by sentence (requests E7 and E10): what is sent is taken and gives its fixed bits back; strict reading
-- passes what sending gives and nothing else. For every kind of the table, every grade, free count and number. Assumes nothing.
use Prim.Native.Nat.{ℕ, ◌^◌, ◌<◌}
use mathlib.Core.Path.{◌≡◌, refl, sym, ap, ◌∙◌}
use mathlib.Core.Bool.{Bool, true, false}
use mathlib.Core.List.{List}
use native.Mathlib.Decide.{ℕ_discrete}
use lib.Dec.{eqb}
use lib.ListN.{length}
use lib.IntN.{ℤ}
use borrow.Author.Tests.{eq-eqb, ne_eqb}
use Rattle.e8.specs.Energy.{energy}
use Rattle.frames.specs.Kind.{is_kind, is_grade}
use Rattle.frames.specs.Message.{Bytes}
use Rattle.frames.specs.Frame.{InCodingSet, numbered_frame}
use Rattle.frames.specs.Free.{is_free_count, filled, filling, FreeMessage, filled_frame, quiet_filling, quiet_frame}
use Rattle.frames.specs.Sending.{unless, Accepts}
use Rattle.frames.specs.Reading.{open_message, fixed_message, same_frame, open_refusal, is_sent, strict_refusal, message_after, energy_read}
use Rattle.frames.specs.Demands.{SentFor, PassedExactly, ReadBack, OthersNine, NoneFreeRead}
use Rattle.frames.proofs.Accepted.{accepted-exactly, free-accepted}
use Rattle.frames.proofs.Range.{strict-open}
use Rattle.frames.proofs.Refusals.{passed, same-frame, frame_same, Accepted, accepted}
use Rattle.frames.proofs.Reading.{sent-in-range, inside-taken, taken-in-set}
use Rattle.free_bits.proofs.Filled.{filling-filled, filling-below}
use Rattle.free_bits.proofs.Fillings.{free-room, first_taken, same-filling, none-quiet}
use Rattle.free_bits.proofs.ReadBack.{filled-in-set, filled-read, fixed-message, read-fixed, fixed-filled, none-fixed}

-- ---- the test of 9

-- past the tests of the open reading it decides
pub strict-decides : (k b f number : ℕ) (frame : List ℤ) (n : ℕ) → open_refusal k b f frame n ≡ 0
    → strict_refusal k b f number frame n ≡ unless (is_sent k b f number frame) 9 0
unfolding strict_refusal
strict-decides k b f number frame n e = rw e

-- what the open reading refuses, the strict reading refuses by the same number
pub strict-as-open : (k b f number : ℕ) (frame : List ℤ) (n : ℕ) → (open_refusal k b f frame n ≡ 0 → ⊥)
    → strict_refusal k b f number frame n ≡ open_refusal k b f frame n
unfolding strict_refusal
strict-as-open k b f number frame n h = rw (ne_eqb (open_refusal k b f frame n) 0 h)

-- what a strict reading takes has passed the open reading's tests, and is the frame sent for its message
pub strict-passed : (k b f number : ℕ) (frame : List ℤ) (n : ℕ) → strict_refusal k b f number frame n ≡ 0
    → (open_refusal k b f frame n ≡ 0) × (frame ≡ quiet_frame k b f number (fixed_message k b f frame))
unfolding is_sent
strict-passed k b f number frame n e =
    let o = strict-open k b f number frame n e in
    let t = (passed (is_sent k b f number frame) 8 0 (sym (strict-decides k b f number frame n o) ∙ e)).0 in
    (o, same-frame frame (quiet_frame k b f number (fixed_message k b f frame)) t)

-- ---- the frames of the fillings of a message whose free bits are 0

module _ (k b f : ℕ) (kind : is_kind k ≡ true) (grade : is_grade b ≡ true) (few : is_free_count f ≡ true) (bytes : List ℕ) (m : FreeMessage k b f bytes) where
  -- openly each is taken
  filled-opened : (number φ : ℕ) → open_refusal k b f (filled_frame k b f number bytes φ) (length bytes) ≡ 0
  unfolding filled_frame
  filled-opened number φ = inside-taken k b kind grade f few (filled_frame k b f number bytes φ) (length bytes) m.message.long
      (filled-in-set k b f kind grade few number bytes φ) (sent-in-range k b kind grade number (filled k b f φ bytes))

  -- strictly, by whether it is the one that is sent
  filled-decides : (number other φ : ℕ) → strict_refusal k b f number (filled_frame k b f other bytes φ) (length bytes)
      ≡ unless (same_frame (filled_frame k b f other bytes φ) (quiet_frame k b f number bytes)) 9 0
  unfolding is_sent
  filled-decides number other φ = strict-decides k b f number (filled_frame k b f other bytes φ) (length bytes) (filled-opened other φ)
      ∙ ap (λ (x : List ℕ). unless (same_frame (filled_frame k b f other bytes φ) (quiet_frame k b f number x)) 9 0) (read-fixed k b f kind grade few other bytes φ m)

  -- the frames of two fillings are not the same, whatever their numbers: they are read as different messages
  fillings-differ : (number other φ ψ : ℕ) → φ < 2 ^ f → ψ < 2 ^ f → filled_frame k b f number bytes φ ≡ filled_frame k b f other bytes ψ → φ ≡ ψ
  fillings-differ number other φ ψ h l e =
      let room = free-room k b f kind grade few in
      sym (filling-filled k b f room φ bytes m.message.long h)
      ∙ ap (filling k b f) (sym (filled-read k b f kind grade few number bytes φ m.message) ∙ ap (open_message k b) e
      ∙ filled-read k b f kind grade few other bytes ψ m.message)
      ∙ filling-filled k b f room ψ bytes m.message.long l

  -- "strict reading passes only that filling's frame"
  other-nine : (number other φ : ℕ) → φ < 2 ^ f → (φ ≡ quiet_filling k b f number bytes → ⊥)
      → strict_refusal k b f number (filled_frame k b f other bytes φ) (length bytes) ≡ 9
  unfolding quiet_frame
  other-nine number other φ h ne =
      filled-decides number other φ ∙ go (same_frame (filled_frame k b f other bytes φ) (quiet_frame k b f number bytes)) refl
    where
      go : (t : Bool) → same_frame (filled_frame k b f other bytes φ) (quiet_frame k b f number bytes) ≡ t → unless t 9 0 ≡ 9
      go false e = refl
      go true e = absurd (ne (fillings-differ other number φ (quiet_filling k b f number bytes) h (first_taken k b f number bytes).first.least.below
          (same-frame (filled_frame k b f other bytes φ) (quiet_frame k b f number bytes) e)))

  -- and that it passes
  sent-taken : (number : ℕ) → strict_refusal k b f number (quiet_frame k b f number bytes) (length bytes) ≡ 0
  unfolding quiet_frame
  sent-taken number = filled-decides number number (quiet_filling k b f number bytes) ∙ ap (λ (t : Bool). unless t 9 0) (frame_same (quiet_frame k b f number bytes))

-- ---- of bytes that sending accepts

-- WHAT IS SENT reads back: both readings take it, and give these bytes
pub read_back : (k b f number : ℕ) (bytes : List ℕ) → Bytes bytes → Accepts k b f bytes → ReadBack k b f number bytes
unfolding quiet_frame
read_back k b f number bytes each e =
    let s = (accepted-exactly k b f bytes (2 ^ k) each).sendable e in
    record {
      open-takes = filled-opened k b f s.kind s.grade s.few bytes s.message number (quiet_filling k b f number bytes);
      strict-takes = sent-taken k b f s.kind s.grade s.few bytes s.message number;
      given = read-fixed k b f s.kind s.grade s.few number bytes (quiet_filling k b f number bytes) s.message;
    }

-- the frame of EVERY OTHER FILLING is 9 strictly, and read openly
pub others-nine : (k b f number : ℕ) (bytes : List ℕ) → Bytes bytes → Accepts k b f bytes → OthersNine k b f number bytes
others-nine k b f number bytes each e =
    let s = (accepted-exactly k b f bytes (2 ^ k) each).sendable e in
    record {
      openly = filled-opened k b f s.kind s.grade s.few bytes s.message;
      given = λ other φ. read-fixed k b f s.kind s.grade s.few other bytes φ s.message;
      nine = other-nine k b f s.kind s.grade s.few bytes s.message number;
    }

-- by both readings, with the energy of the frame, whatever bytes were lent
module _ (k b f number : ℕ) (bytes : List ℕ) (each : Bytes bytes) (e : Accepts k b f bytes) where
  abbrev sent : List ℤ
  sent = quiet_frame k b f number bytes

  pub open-gives-back : (lent : List ℕ) → message_after (open_refusal k b f sent (length bytes)) k b f sent lent ≡ bytes
  unfolding message_after
  open-gives-back lent = let r = read_back k b f number bytes each e in rw r.open-takes r.given

  pub strict-gives-back : (lent : List ℕ) → message_after (strict_refusal k b f number sent (length bytes)) k b f sent lent ≡ bytes
  unfolding message_after
  strict-gives-back lent = let r = read_back k b f number bytes each e in rw r.strict-takes r.given

  pub open-same-energy : energy_read (open_refusal k b f sent (length bytes)) sent ≡ energy sent
  unfolding energy_read
  open-same-energy = rw (read_back k b f number bytes each e).open-takes

  pub strict-same-energy : energy_read (strict_refusal k b f number sent (length bytes)) sent ≡ energy sent
  unfolding energy_read
  strict-same-energy = rw (read_back k b f number bytes each e).strict-takes

-- WHAT IS TAKEN STRICTLY was sent
pub strict-takes-sent : (k b f number : ℕ) (frame : List ℤ) (n : ℕ) → strict_refusal k b f number frame n ≡ 0 → SentFor k b f number frame
strict-takes-sent k b f number frame n e = record {
  bytes = fixed_message k b f frame;
  message = message;
  accepted = free-accepted k b f (fixed_message k b f frame) a.kind a.grade a.few message;
  sent = p.1;
  given = refl;
}
  where
    p : (open_refusal k b f frame n ≡ 0) × (frame ≡ quiet_frame k b f number (fixed_message k b f frame))
    p = strict-passed k b f number frame n e

    a : Accepted k b f frame n
    a = accepted k b f frame n p.0

    message : FreeMessage k b f (fixed_message k b f frame)
    message = fixed-message k b f a.kind a.grade a.few frame (taken-in-set k b f frame n p.0)

-- THE STRICT READING passes exactly what sending gives
pub passed-exactly : (k b f number : ℕ) (frame : List ℤ) (n : ℕ) → PassedExactly k b f number frame n
passed-exactly k b f number frame n = record {
  passed = strict-takes-sent k b f number frame n;
  long = λ e. (accepted k b f frame n (strict-open k b f number frame n e)).bytes;
  sent = λ bytes each e is m. rw (is, m) (read_back k b f number bytes each e).strict-takes;
}

-- ---- where f is 0

module _ (k b number : ℕ) (kind : is_kind k ≡ true) (grade : is_grade b ≡ true) (frame : List ℤ) (set : InCodingSet k frame) where
  -- the test of 9 is that of the frame of the number for the whole message
  pub none-sent : is_sent k b 0 number frame ≡ same_frame frame (numbered_frame k b number (open_message k b frame))
  unfolding is_sent
  none-sent =
      ap (same_frame frame) (none-quiet k b number (fixed_message k b 0 frame) ∙ ap (numbered_frame k b number) (none-fixed k b kind grade frame set))

  -- a frame that is sent with f is the frame of its whole message too
  pub sent-whole : (f : ℕ) → is_free_count f ≡ true → is_sent k b f number frame ≡ true → is_sent k b 0 number frame ≡ true
  unfolding is_sent quiet_frame filled_frame
  sent-whole f few t = none-sent ∙ ap (same_frame frame) (ap (numbered_frame k b number) read ∙ sym same) ∙ frame_same frame
    where
      fixed : List ℕ
      fixed = fixed_message k b f frame

      same : frame ≡ quiet_frame k b f number fixed
      same = same-frame frame (quiet_frame k b f number fixed) t

      read : open_message k b frame ≡ filled k b f (quiet_filling k b f number fixed) fixed
      read = ap (open_message k b) same
          ∙ filled-read k b f kind grade few number fixed (quiet_filling k b f number fixed) (fixed-message k b f kind grade few frame set).message

  -- and of the frames of whole messages it is the one whose filling is taken
  pub taken-decides : (f : ℕ) → is_free_count f ≡ true → is_sent k b 0 number frame ≡ true
      → is_sent k b f number frame ≡ eqb (quiet_filling k b f 0 (fixed_message k b f frame)) (filling k b f (open_message k b frame))
  unfolding is_sent quiet_frame filled_frame
  taken-decides f few t = go (ℕ_discrete taken own)
    where
      fixed : List ℕ
      fixed = fixed_message k b f frame

      own : ℕ
      own = filling k b f (open_message k b frame)

      taken : ℕ
      taken = quiet_filling k b f 0 fixed

      message : FreeMessage k b f fixed
      message = fixed-message k b f kind grade few frame set

      -- the frame is that of its own filling
      is-own : frame ≡ filled_frame k b f number fixed own
      is-own = same-frame frame (numbered_frame k b number (open_message k b frame)) (sym none-sent ∙ t)
          ∙ ap (numbered_frame k b number) (sym (fixed-filled k b f kind grade few frame set))

      same : taken ≡ quiet_filling k b f number fixed
      same = same-filling k b f kind fixed 0 number

      go : Dec (taken ≡ own) → same_frame frame (quiet_frame k b f number fixed) ≡ eqb taken own
      go (yes e) = ap (same_frame frame) (ap (filled_frame k b f number fixed) (sym same ∙ e) ∙ sym is-own) ∙ frame_same frame ∙ sym (eq-eqb taken own e)
      go (no ne) = differs (same_frame frame (quiet_frame k b f number fixed)) refl ∙ sym (ne_eqb taken own ne)
        where
          differs : (s : Bool) → same_frame frame (quiet_frame k b f number fixed) ≡ s → s ≡ false
          differs false e = refl
          differs true e = absurd (ne (same ∙ sym (fillings-differ k b f kind grade few fixed message number number own (quiet_filling k b f number fixed)
              (filling-below k b f (open_message k b frame)) (first_taken k b f number fixed).first.least.below
              (sym is-own ∙ same-frame frame (quiet_frame k b f number fixed) e))))

pub none-free-read : (k b number : ℕ) (frame : List ℤ) (n : ℕ) → NoneFreeRead k b number frame n
none-free-read k b number frame n = record {
  given = λ e. let a = accepted k b 0 frame n e in none-fixed k b a.kind a.grade frame (taken-in-set k b 0 frame n e);
  strict = λ e.
      let a = accepted k b 0 frame n e in
      strict-decides k b 0 number frame n e
      ∙ ap (λ (t : Bool). unless t 9 0) (none-sent k b number a.kind a.grade frame (taken-in-set k b 0 frame n e));
}
