-- WHAT IS SENT READS BACK, with free bits (requests E7 and E10): reading a filling's frame, one message and filling for each frame of the coding set, distances, and
-- what stays where no bit is free. For every kind of the table, every grade, free count and number. Assumes nothing.
use Prim.Native.Nat.{ℕ, ◌-◌, ◌*◌, ◌^◌, ◌≤◌, ◌<◌}
use mathlib.Core.Path.{◌≡◌, sym, ap, ◌∙◌, subst}
use mathlib.Core.Bool.{true, cond}
use mathlib.Core.List.{List}
use native.Mathlib.Omega.{arith}
use lib.Dec.{eqb}
use lib.Pow.{pow_pos}
use lib.ListN.{length}
use lib.IntN.{ℤ}
use Rattle.bits.specs.Message.{message_bit}
use Rattle.e8.specs.Energy.{energy, distance}
use Rattle.frames.specs.Kind.{is_kind, is_grade, message_bits, message_bytes}
use Rattle.frames.specs.Message.{Bytes, Message}
use Rattle.frames.specs.Frame.{InCodingSet, SameClass, numbered_frame, least_distance}
use Rattle.frames.specs.Free.{is_free_count, free_from, filled, filling, FreeMessage, filled_frame, quiet_filling, quiet_frame}
use Rattle.frames.specs.Sending.{any_set, unless, send_refusal, free_set, Accepts}
use Rattle.frames.specs.Reading.{open_message, fixed_message}
use Rattle.frames.specs.Demands.{OneFilling, Quieter, FixedApart, NoneFree}
use Rattle.frames.proofs.Accepted.{accepted-exactly, free-accepted}
use Rattle.frames.proofs.Demands.{sent-in-set, read-message, read-class, exactly-one, set_apart}
use Rattle.frames.proofs.Bounds.{sent-energy}
use Rattle.frames.proofs.Reading.{open-gives-the-one, read-sent}
use Rattle.free_bits.proofs.Filled.{filled-fixed, filled-twice, filling-below, filled-filling, filled-own, filled-clear}
use Rattle.free_bits.proofs.Filled.{filling-filled, filled-message, cleared-message, filled_none}
use Rattle.free_bits.proofs.Fillings.{free-room, first_taken, none-quiet}

module _ (k b f : ℕ) (kind : is_kind k ≡ true) (grade : is_grade b ≡ true) (few : is_free_count f ≡ true) where
  room : f ≤ message_bits k b
  room = free-room k b f kind grade few

  -- the frame of a filling is in the coding set
  pub filled-in-set : (number : ℕ) (bytes : List ℕ) (φ : ℕ) → InCodingSet k (filled_frame k b f number bytes φ)
  unfolding filled_frame
  filled-in-set number bytes φ = sent-in-set k b kind grade number (filled k b f φ bytes)

  pub quiet-in-set : (number : ℕ) (bytes : List ℕ) → InCodingSet k (quiet_frame k b f number bytes)
  unfolding quiet_frame
  quiet-in-set number bytes = filled-in-set number bytes (quiet_filling k b f number bytes)

  -- openly read without free bits it gives the filling
  pub filled-read : (number : ℕ) (bytes : List ℕ) (φ : ℕ) → Message k b bytes → open_message k b (filled_frame k b f number bytes φ) ≡ filled k b f φ bytes
  unfolding filled_frame
  filled-read number bytes φ m = read-sent k b kind grade number (filled k b f φ bytes) (filled-message k b f room φ bytes m)

  -- an account has room for the energy of what is sent
  pub quiet-energy-small : (number : ℕ) (bytes : List ℕ) → energy (quiet_frame k b f number bytes) ≤ 2 ^ 20
  unfolding filled_frame quiet_frame
  quiet-energy-small number bytes = sent-energy k b number (filled k b f (quiet_filling k b f number bytes) bytes) kind grade

  -- ---- reading

  -- what a reading with f gives is a message whose free bits are 0
  pub fixed-message : (frame : List ℤ) → InCodingSet k frame → FreeMessage k b f (fixed_message k b f frame)
  unfolding fixed_message
  fixed-message frame set = cleared-message k b f room (open_message k b frame) (read-message k b kind grade frame set)

  -- a message whose class holds the frame is the one that is read
  class-read : (number : ℕ) (frame : List ℤ) → InCodingSet k frame → (bytes : List ℕ) → Message k b bytes
      → SameClass k b (numbered_frame k b number bytes) frame → open_message k b frame ≡ bytes
  class-read number frame set bytes m d =
      open-gives-the-one k b kind grade number frame set ∙ sym ((exactly-one k b kind grade number frame set).only bytes m d)

  -- "Reading with f gives the fixed bits": any frame of a filling's class gives the message
  pub class-read-fixed : (number : ℕ) (frame : List ℤ) → InCodingSet k frame → (bytes : List ℕ) → FreeMessage k b f bytes → (φ : ℕ)
      → SameClass k b (filled_frame k b f number bytes φ) frame → fixed_message k b f frame ≡ bytes
  unfolding fixed_message filled_frame
  class-read-fixed number frame set bytes m φ d =
      ap (filled k b f 0) (class-read number frame set (filled k b f φ bytes) (filled-message k b f room φ bytes m.message) d)
      ∙ filled-clear k b f φ bytes m

  -- and so does the frame that is sent for a filling
  pub read-fixed : (number : ℕ) (bytes : List ℕ) (φ : ℕ) → FreeMessage k b f bytes → fixed_message k b f (filled_frame k b f number bytes φ) ≡ bytes
  unfolding fixed_message
  read-fixed number bytes φ m = ap (filled k b f 0) (filled-read number bytes φ m.message) ∙ filled-clear k b f φ bytes m

  -- what is read, filled with what stands in its free bits, is the whole message
  pub fixed-filled : (frame : List ℤ) → InCodingSet k frame
      → filled k b f (filling k b f (open_message k b frame)) (fixed_message k b f frame) ≡ open_message k b frame
  unfolding fixed_message
  fixed-filled frame set =
      filled-twice k b f (filling k b f (open_message k b frame)) 0 (open_message k b frame)
      ∙ filled-filling k b f (open_message k b frame) (read-message k b kind grade frame set).each

  -- "Each frame of the coding set lies in a filling's class of exactly one message whose free bits are 0", and of exactly one filling
  pub exactly-one-filling : (number : ℕ) (frame : List ℤ) → InCodingSet k frame → OneFilling k b f number frame
  unfolding filled_frame
  exactly-one-filling number frame set = record {
    bytes = fixed_message k b f frame;
    φ = filling k b f (open_message k b frame);
    message = fixed-message frame set;
    accepted = free-accepted k b f (fixed_message k b f frame) kind grade few (fixed-message frame set);
    below = filling-below k b f (open_message k b frame);
    class = subst (λ (x : List ℕ). SameClass k b (numbered_frame k b number x) frame) (sym (fixed-filled frame set))
        (read-class k b kind grade number frame set);
    only = λ other ψ m h d. (
      sym (class-read-fixed number frame set other m ψ d),
      sym (filling-filled k b f room ψ other m.message.long h)
          ∙ ap (filling k b f) (sym (class-read number frame set (filled k b f ψ other) (filled-message k b f room ψ other m.message) d)),
    );
  }

-- ---- the distance: of two free counts

module _ (k b : ℕ) (kind : is_kind k ≡ true) (grade : is_grade b ≡ true) where
  far : (f g number other : ℕ) → is_free_count f ≡ true → is_free_count g ≡ true → (φ ψ : ℕ) (x y : List ℕ) → Message k b x → Message k b y
      → (filled k b f φ x ≡ filled k b g ψ y → ⊥) → least_distance k ≤ distance (filled_frame k b f number x φ) (filled_frame k b g other y ψ)
  far f g number other few less φ ψ x y mx my ne =
      set_apart k kind (filled_frame k b f number x φ) (filled_frame k b g other y ψ)
      (filled-in-set k b f kind grade few number x φ) (filled-in-set k b g kind grade less other y ψ)
      (λ e. ne (sym (filled-read k b f kind grade few number x φ mx) ∙ ap (open_message k b) e ∙ filled-read k b g kind grade less other y ψ my))

-- ---- the same of what is SENT: of bytes that sending accepts

-- "Messages that differ in a fixed bit keep their distance", whatever their fillings, numbers and free counts
pub fixed-apart : (k b f g number other : ℕ) (x y : List ℕ) → Bytes x → Bytes y → Accepts k b f x → Accepts k b g y → FixedApart k b f g number other x y
unfolding quiet_frame
fixed-apart k b f g number other x y bx by ax ay = record {
  fillings = away;
  sent = sent;
}
  where
    away : (i : ℕ) → i < free_from k b f → i < free_from k b g → (message_bit x i ≡ message_bit y i → ⊥)
        → (φ ψ : ℕ) → least_distance k ≤ distance (filled_frame k b f number x φ) (filled_frame k b g other y ψ)
    away i h l ne φ ψ =
        let u = (accepted-exactly k b f x (2 ^ k) bx).sendable ax in
        let v = (accepted-exactly k b g y (2 ^ k) by).sendable ay in
        far k b u.kind u.grade f g number other u.few v.few φ ψ x y u.message.message v.message.message
        (λ e. ne (sym (filled-fixed k b f φ x i h) ∙ ap (λ (z : List ℕ). message_bit z i) e ∙ filled-fixed k b g ψ y i l))

    sent : (i : ℕ) → i < free_from k b f → i < free_from k b g → (message_bit x i ≡ message_bit y i → ⊥)
        → least_distance k ≤ distance (quiet_frame k b f number x) (quiet_frame k b g other y)
    sent i h l ne = away i h l ne (quiet_filling k b f number x) (quiet_filling k b g other y)

-- "never more energy than without free bits"
pub quieter : (k b f number : ℕ) (bytes : List ℕ) → Bytes bytes → Accepts k b f bytes → Quieter k b f number bytes
unfolding filled_frame quiet_frame
quieter k b f number bytes each e = record {
  energy-at-most = omega (
    arith,
    (first_taken k b f number bytes).first.least.least 0 (pow_pos f),
    ap (λ (x : List ℕ). energy (numbered_frame k b number x)) (filled-own k b f bytes ((accepted-exactly k b f bytes (2 ^ k) each).sendable e).message),
  );
}

-- ---- where f is 0, for any bytes at all

pub none_free : (k b number : ℕ) (bytes : List ℕ) (n : ℕ) → NoneFree k b number bytes n
unfolding send_refusal is_free_count free_set free_from
none_free k b number bytes n = record {
  tests = ap (λ (i : ℕ).
      unless (is_kind k) 1 (unless (is_grade b) 2 (unless (eqb (length bytes) (message_bytes k b)) 3 (unless (eqb n (2 ^ k)) 4
      (cond (any_set (message_bit bytes) i (8 * message_bytes k b - i)) 5 0))))) from;
  sent = none-quiet k b number bytes;
}
  where
    from : message_bits k b - 0 ≡ message_bits k b
    from = omega arith

pub none-fixed : (k b : ℕ) → is_kind k ≡ true → is_grade b ≡ true → (frame : List ℤ) → InCodingSet k frame → fixed_message k b 0 frame ≡ open_message k b frame
unfolding fixed_message
none-fixed k b kind grade frame set = filled_none k b 0 (open_message k b frame) (read-message k b kind grade frame set).each
