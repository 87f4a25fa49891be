-- SENDING WITH FREE BITS as theorems, sentence by sentence (requests E7 and E10): the filling that is taken, the least energy over all fillings' classes, and
-- that nothing changes where no bit is free. For every kind of the table, every grade, free count and number. Assumes nothing.
use Prim.Native.Nat.{ℕ, ◌+◌, ◌*◌, ◌/◌, ◌%◌, ◌^◌, ◌≤◌, ◌<◌}
use mathlib.Core.Path.{◌≡◌, refl, ap, ◌∙◌, fun_ext}
use mathlib.Core.Bool.{true}
use mathlib.Core.List.{List}
use native.Mathlib.Nat.{le_antisymm}
use native.Mathlib.Decide.{dec_lt}
use native.Mathlib.Omega.{arith}
use borrow.Author.Tests.{leb-true}
use lib.ListN.{length, get_or}
use lib.Pow.{pow_pos}
use lib.IntN.{ℤ}
use Rattle.bits.specs.Number.{table}
use Rattle.bits.specs.Message.{message_bit}
use Rattle.e8.specs.Energy.{energy}
use Rattle.e8.specs.Rows.{ints}
use Rattle.e8.specs.Ties.{least_frame_by}
use Rattle.frames.specs.Kind.{is_kind, is_grade, degrees, blocks, level_bits, message_bits}
use Rattle.frames.specs.Message.{widths, numbers, block_numbers, stacked, coordinate, leader}
use Rattle.frames.specs.Frame.{half, is_odd, numbered_frame}
use Rattle.frames.specs.Sending.{LeastOfFillings}
use Rattle.frames.specs.Free.{is_free_count, filled, filled_frame, LeastFilling, Quiet, first_least, quiet_filling, quiet_frame}
use Rattle.frames.specs.Demands.{FirstTaken}
use Rattle.frames.proofs.Limits.{some_bits}
use Rattle.frames.proofs.Demands.{sent-least, sent-length, least-energy}
use Rattle.frames.proofs.Numbered.{same-energy-sent}
use Rattle.free_bits.proofs.First.{IsFirst, first_least-at}
use Rattle.free_bits.proofs.Filled.{same_bits}

-- a message has more bits than may be free
pub free-few : (f : ℕ) → is_free_count f ≡ true → f ≤ 4
unfolding is_free_count
free-few f few = leb-true f 4 few

pub free-room : (k b f : ℕ) → is_kind k ≡ true → is_grade b ≡ true → is_free_count f ≡ true → f ≤ message_bits k b
free-room k b f kind grade few = omega (arith, some_bits k b kind grade, free-few f few)

-- ---- THE FILLING THAT IS TAKEN, for any bytes at all

module _ (k b f number : ℕ) (bytes : List ℕ) where
  abbrev energy_at : ℕ → ℕ
  energy_at φ = energy (filled_frame k b f number bytes φ)

  abbrev taken : ℕ
  taken = quiet_filling k b f number bytes

  found : IsFirst energy_at (2 ^ f) taken
  unfolding quiet_filling
  found = first_least-at energy_at (2 ^ f) (pow_pos f)

  taken-least : LeastFilling k b f number bytes taken
  taken-least = record { below = found.below; least = found.least }

  -- no smaller one is a least one
  taken-smallest : (ψ : ℕ) → LeastFilling k b f number bytes ψ → taken ≤ ψ
  taken-smallest ψ l = go (dec_lt ψ taken)
    where
      go : Dec (ψ < taken) → taken ≤ ψ
      go (yes h) = absurd (omega (arith, found.first ψ h, l.least taken found.below))
      go (no h) = omega arith

  -- "Among the fillings of least energy the sender now takes the smallest", and there is no other like that
  pub first_taken : FirstTaken k b f number bytes
  first_taken = record {
    first = record { least = taken-least; smallest = taken-smallest };
    only = λ φ i. le_antisymm (i.smallest taken taken-least) (taken-smallest φ i.least);
  }

  -- so that a quiet frame is sent, as request E7 promised
  pub quiet_is : Quiet k b f number bytes (quiet_frame k b f number bytes)
  unfolding quiet_frame
  quiet_is = record { φ = taken; least = taken-least; sent = refl }

  -- and every quiet frame has its energy
  pub quiet-energy : (g : List ℤ) → Quiet k b f number bytes g → energy g ≡ energy (quiet_frame k b f number bytes)
  unfolding quiet_frame
  quiet-energy g i = ap energy i.sent ∙ le_antisymm (i.least.least taken found.below) (found.least i.φ i.least.below)

-- ---- the same under every number: both tie rules have one energy

module _ (k b f : ℕ) (kind : is_kind k ≡ true) (bytes : List ℕ) (number other : ℕ) where
  pub filled-energy : (φ : ℕ) → energy (filled_frame k b f number bytes φ) ≡ energy (filled_frame k b f other bytes φ)
  unfolding filled_frame
  filled-energy φ = same-energy-sent k b kind number other (filled k b f φ bytes)

  pub same-filling : quiet_filling k b f number bytes ≡ quiet_filling k b f other bytes
  unfolding quiet_filling
  same-filling = ap (λ (e : ℕ → ℕ). first_least e (2 ^ f)) (fun_ext filled-energy)

  pub quiet-either : energy (quiet_frame k b f number bytes) ≡ energy (quiet_frame k b f other bytes)
  unfolding quiet_frame
  quiet-either = filled-energy (quiet_filling k b f number bytes) ∙ ap (λ (φ : ℕ). energy (filled_frame k b f other bytes φ)) same-filling

-- ---- least energy

module _ (k b f number : ℕ) (kind : is_kind k ≡ true) (low : 1 ≤ b) (bytes : List ℕ) where
  -- "energy is least over all fillings' classes", of the frame that is sent
  pub quiet-least : {g : List ℤ} {e : ℕ} → g ≡ quiet_frame k b f number bytes → e ≡ energy (quiet_frame k b f number bytes)
      → LeastOfFillings k b f number bytes g e
  unfolding filled_frame quiet_frame
  quiet-least {g} {e} is reported = record {
    own = least-energy k b kind low number (filled k b f (taken k b f number bytes) bytes) g e is reported;
    all = λ ψ h t d. omega (arith, reported, (found k b f number bytes).least ψ h, sent-least k b kind low number (filled k b f ψ bytes) t d);
  }

  -- the frame of a filling has as many coordinates as the kind
  pub filled-frame-long : (φ : ℕ) → length (filled_frame k b f number bytes φ) ≡ 2 ^ k
  unfolding filled_frame
  filled-frame-long φ = sent-length k b kind low number (filled k b f φ bytes)

  pub quiet-frame-long : length (quiet_frame k b f number bytes) ≡ 2 ^ k
  unfolding quiet_frame
  quiet-frame-long = filled-frame-long (taken k b f number bytes)

-- ---- where f is 0, for any bytes at all

-- the frame hangs on the bits alone
pub frame-of-bits : (k b number : ℕ) (x y : List ℕ) → message_bit x ≡ message_bit y → numbered_frame k b number x ≡ numbered_frame k b number y
unfolding numbered_frame leader coordinate block_numbers
frame-of-bits k b number x y e = ap (λ (bit : ℕ → ℕ). least_frame_by (is_odd number) (half k b) (blocks k) (ints (table (2 ^ k)
    (λ p. stacked k (degrees k) bit 0 (get_or (numbers bit (level_bits k + 8 * b * (p / 8)) (widths b)) (p % 8) 0) p)))) e

-- every filling has the frame of the number
pub none_filled : (k b number : ℕ) (bytes : List ℕ) (φ : ℕ) → filled_frame k b 0 number bytes φ ≡ numbered_frame k b number bytes
unfolding filled_frame
none_filled k b number bytes φ = frame-of-bits k b number (filled k b 0 φ bytes) bytes (same_bits k b φ bytes)

-- and so that is what is sent
pub none-quiet : (k b number : ℕ) (bytes : List ℕ) → quiet_frame k b 0 number bytes ≡ numbered_frame k b number bytes
unfolding quiet_frame
none-quiet k b number bytes = none_filled k b number bytes (quiet_filling k b 0 number bytes)
