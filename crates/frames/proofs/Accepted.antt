-- What sending accepts: exactly the messages of a kind and grade whose free bits are 0, lent as many coordinates as the kind has. Assumes nothing.
use Prim.Native.Nat.{ℕ, zero, suc, ◌+◌, ◌-◌, ◌*◌, ◌^◌, ◌≤◌, ◌<◌}
use mathlib.Core.Path.{◌≡◌, refl, ap, ◌∙◌}
use mathlib.Core.Bool.{Bool, true, false, ◌||◌, cond, true≢false}
use mathlib.Core.List.{List}
use native.Mathlib.Decide.{dec_lt, ℕ_discrete}
use native.Mathlib.Omega.{arith}
use lib.Dec.{eqb}
use lib.ListN.{length}
use lib.IntN.{ℤ}
use borrow.Author.Tests.{eq-eqb, ne_eqb, eqb-true, eqb-false, lt-leb}
use Rattle.bits.specs.Message.{message_bit}
use Rattle.bits.proofs.Message.{message-small, bit_past}
use Rattle.e8.specs.Energy.{energy}
use Rattle.frames.specs.Kind.{is_kind, is_grade, message_bytes}
use Rattle.frames.specs.Message.{Bytes, Message}
use Rattle.frames.specs.Free.{is_free_count, free_from, FreeMessage, quiet_frame}
use Rattle.frames.specs.Sending.{any_set, free_set, send_refusal, Accepts, frame_after, energy_sent}
use Rattle.frames.specs.Demands.{Sendable, AcceptedExactly}
use Rattle.frames.proofs.Refusals.{passed}

-- ---- the tests of sending: an answer of 0 says that each was passed

clear : (t : Bool) (a b : ℕ) → cond t (suc a) b ≡ 0 → t ≡ false
clear true a b e = let z : ⊥ = omega arith in absurd z
clear false a b e = refl

pub record Passed (k b f : ℕ) (bytes : List ℕ) (n : ℕ) : Type 0 where
  pub kind : is_kind k ≡ true
  pub grade : is_grade b ≡ true
  pub few : is_free_count f ≡ true
  pub long : length bytes ≡ message_bytes k b
  pub coordinates : n ≡ 2 ^ k
  pub unset : free_set k b f bytes ≡ false

pub all-passed : (k b f : ℕ) (bytes : List ℕ) (n : ℕ) → send_refusal k b f bytes n ≡ 0 → Passed k b f bytes n
unfolding send_refusal
all-passed k b f bytes n e =
    let e₁ = passed (is_kind k) 0 _ e in
    let e₂ = passed (is_grade b) 1 _ e₁.1 in
    let e₃ = passed (is_free_count f) 16 _ e₂.1 in
    let e₄ = passed (eqb (length bytes) (message_bytes k b)) 2 _ e₃.1 in
    let e₅ = passed (eqb n (2 ^ k)) 3 _ e₄.1 in
    record {
      kind = e₁.0;
      grade = e₂.0;
      few = e₃.0;
      long = eqb-true (length bytes) (message_bytes k b) e₄.0;
      coordinates = eqb-true n (2 ^ k) e₅.0;
      unset = clear (free_set k b f bytes) 4 _ e₅.1;
    }

-- ---- bits in a row, none of them set

module _ (bit : ℕ → ℕ) (small : (i : ℕ) → bit i < 2) (from : ℕ) where
  pub none-set : (n : ℕ) → any_set bit from n ≡ false → (i : ℕ) → i < n → bit (from + i) ≡ 0
  unfolding any_set
  none-set zero e i h = absurd (omega arith)
  none-set (suc n) e i h = go (any_set bit from n) refl (eqb (bit (from + n)) 1) refl e (none-set n)
    where
      go : (s : Bool) → any_set bit from n ≡ s → (t : Bool) → eqb (bit (from + n)) 1 ≡ t → (s || t) ≡ false
          → (any_set bit from n ≡ false → (i : ℕ) → i < n → bit (from + i) ≡ 0) → bit (from + i) ≡ 0
      go true hs t ht e ih = absurd (true≢false e)
      go false hs true ht e ih = absurd (true≢false e)
      go false hs false ht e ih = last (ℕ_discrete i n)
        where
          last : Dec (i ≡ n) → bit (from + i) ≡ 0
          last (yes q) = ap (λ (j : ℕ). bit (from + j)) q ∙ zero_bit (bit (from + n)) (small (from + n)) (eqb-false (bit (from + n)) 1 ht)
            where
              zero_bit : (x : ℕ) → x < 2 → (x ≡ 1 → ⊥) → x ≡ 0
              zero_bit x l ne = omega arith
          last (no q) = ih hs i (omega arith)

  pub set-none : (n : ℕ) → ((i : ℕ) → i < n → bit (from + i) ≡ 0) → any_set bit from n ≡ false
  unfolding any_set
  set-none zero h = refl
  set-none (suc n) h = rw (set-none n (λ i l. h i (omega arith))) (ne_eqb (bit (from + n)) 1 (omega (arith, h n (omega arith))))

-- ---- free bits and spare bits: the test says what a message whose free bits are 0 says of them

module _ (k b f : ℕ) (bytes : List ℕ) where
  -- past the fixed bits none is set
  pub unset-bit : length bytes ≡ message_bytes k b → free_set k b f bytes ≡ false → (i : ℕ) → free_from k b f ≤ i → message_bit bytes i ≡ 0
  unfolding free_set
  unset-bit long e i h = go (dec_lt i (8 * message_bytes k b))
    where
      go : Dec (i < 8 * message_bytes k b) → message_bit bytes i ≡ 0
      go (no t) = bit_past bytes i (omega arith)
      go (yes l) =
          let z : i ≡ free_from k b f + (i - free_from k b f) = omega arith in
          ap (message_bit bytes) z
          ∙ none-set (message_bit bytes) (message-small bytes) (free_from k b f) (8 * message_bytes k b - free_from k b f) e (i - free_from k b f) (omega arith)

  bits-unset : ((i : ℕ) → free_from k b f ≤ i → message_bit bytes i ≡ 0) → free_set k b f bytes ≡ false
  unfolding free_set
  bits-unset h =
      set-none (message_bit bytes) (message-small bytes) (free_from k b f) (8 * message_bytes k b - free_from k b f) (λ i l. h (free_from k b f + i) (omega arith))

  unset-message : length bytes ≡ message_bytes k b → free_set k b f bytes ≡ false → Bytes bytes → FreeMessage k b f bytes
  unfolding free_from
  unset-message long e each = record {
    message = record { long = long; each = each; spare = λ i h. unset-bit long e i (omega arith) };
    free = λ t h. unset-bit long e (free_from k b f + t) (omega arith);
  }

  free-unset : FreeMessage k b f bytes → free_set k b f bytes ≡ false
  unfolding free_from
  free-unset m = bits-unset (λ i h. go i h (dec_lt i (free_from k b f + f)))
    where
      go : (i : ℕ) → free_from k b f ≤ i → Dec (i < free_from k b f + f) → message_bit bytes i ≡ 0
      go i h (yes l) =
          let z : i ≡ free_from k b f + (i - free_from k b f) = omega arith in
          ap (message_bit bytes) z ∙ m.free (i - free_from k b f) (omega arith)
      go i h (no t) = m.message.spare i (omega arith)

  -- a free bit that is 1 is found
  free-found : length bytes ≡ message_bytes k b → (t : ℕ) → message_bit bytes (free_from k b f + t) ≡ 1 → free_set k b f bytes ≡ true
  free-found long t e = go (free_set k b f bytes) refl
    where
      go : (s : Bool) → free_set k b f bytes ≡ s → s ≡ true
      go true z = refl
      go false z = absurd (omega (arith, unset-bit long z (free_from k b f + t) (omega arith)))

-- ---- exactly the messages whose free bits are 0

module _ (k b f : ℕ) (bytes : List ℕ) (n : ℕ) where
  pub sendable-accepted : Sendable k b f bytes n → send_refusal k b f bytes n ≡ 0
  unfolding send_refusal
  sendable-accepted s = rw (
    s.kind,
    s.grade,
    s.few,
    eq-eqb (length bytes) (message_bytes k b) s.message.message.long,
    eq-eqb n (2 ^ k) s.coordinates,
    free-unset k b f bytes s.message,
  )

  -- SENDING ACCEPTS exactly the messages of the kind and grade whose free bits are 0, with as many coordinates as the kind has
  pub accepted-exactly : Bytes bytes → AcceptedExactly k b f bytes n
  accepted-exactly each = record { sendable = back; accepted = sendable-accepted }
    where
      back : send_refusal k b f bytes n ≡ 0 → Sendable k b f bytes n
      back e =
          let p = all-passed k b f bytes n e in
          record {
            kind = p.kind;
            grade = p.grade;
            few = p.few;
            message = unset-message k b f bytes p.long p.unset each;
            coordinates = p.coordinates;
          }

  module _ (kind : is_kind k ≡ true) (grade : is_grade b ≡ true) where
    -- "17: free count, f above 4, tested after 2"
    pub many-send : 4 < f → send_refusal k b f bytes n ≡ 17
    unfolding send_refusal is_free_count
    many-send h = rw (kind, grade, lt-leb f 4 h)

    -- "A free bit given as 1 is 5"
    pub free-bit : is_free_count f ≡ true → length bytes ≡ message_bytes k b → n ≡ 2 ^ k → (t : ℕ) → t < f → message_bit bytes (free_from k b f + t) ≡ 1
        → send_refusal k b f bytes n ≡ 5
    unfolding send_refusal
    free-bit few long positions t h e =
        rw (kind, grade, few, eq-eqb (length bytes) (message_bytes k b) long, eq-eqb n (2 ^ k) positions, free-found k b f bytes long t e)

-- a message whose free bits are 0 is one that sending accepts
pub free-accepted : (k b f : ℕ) (bytes : List ℕ) → is_kind k ≡ true → is_grade b ≡ true → is_free_count f ≡ true → FreeMessage k b f bytes → Accepts k b f bytes
free-accepted k b f bytes kind grade few m =
    sendable-accepted k b f bytes (2 ^ k) (record { kind = kind; grade = grade; few = few; message = m; coordinates = refl })

-- and where no bit is free, every message
pub none-message : (k b : ℕ) (bytes : List ℕ) → Message k b bytes → FreeMessage k b 0 bytes
none-message k b bytes m = record { message = m; free = λ t h. absurd (omega arith) }

pub message-accepted : (k b : ℕ) (bytes : List ℕ) → is_kind k ≡ true → is_grade b ≡ true → Message k b bytes → Accepts k b 0 bytes
unfolding is_free_count
message-accepted k b bytes kind grade m = free-accepted k b 0 bytes kind grade refl (none-message k b bytes m)

-- ---- what sending under a number leaves, by its answer

module _ (refusal k b f number : ℕ) (bytes : List ℕ) (frame : List ℤ) where
  pub sent-leaves : refusal ≡ 0
      → (frame_after refusal k b f number bytes frame ≡ quiet_frame k b f number bytes)
      × (energy_sent refusal k b f number bytes ≡ energy (quiet_frame k b f number bytes))
  unfolding frame_after energy_sent
  sent-leaves e = (rw e, rw e)

  pub refused-leaves : (refusal ≡ 0 → ⊥) → (frame_after refusal k b f number bytes frame ≡ frame) × (energy_sent refusal k b f number bytes ≡ 0)
  unfolding frame_after energy_sent
  refused-leaves h = (rw (ne_eqb refusal 0 h), rw (ne_eqb refusal 0 h))
