-- The history of an account: calls of sending one after the other, refused ones among them, the frames that they sent and under which numbers, and
-- what the account holds of them. Assumes nothing.
use Rattle.std.specs.Prelude.{ℕ, ◌+◌, ◌*◌, ◌/◌, ◌<◌, ◌≤◌, ◌≡◌, false, cond, List, [], ◌∷◌, eqb, ℤ, length, get_or}
use Rattle.std.specs.Float.Ieee.Exact.{HasValue}
use Rattle.e8.specs.Energy.{energy}
use Rattle.e8.specs.Lattice.{part}
use Rattle.e8.specs.Largest.{blocks_of}
use Rattle.frames.specs.Free.{quiet_frame}
use Rattle.power_account.specs.declared.Account.{Account}
use Rattle.power_account.specs.Counted.{number_at, number_for, counted_refusal, counted_account}

-- a call of sending: the kind, the grade, the free count, the message and the number of coordinates lent
pub record Call : Type 0 where
  pub kind : ℕ
  pub grade : ℕ
  pub free : ℕ
  pub message : List ℕ
  pub n : ℕ

-- what a call answers with the account a, and the account afterwards
abbrev pub answer : Account → Call → ℕ
answer a c = counted_refusal c.kind c.grade c.free c.message c.n a

abbrev pub after : Account → Call → Account
after a c = counted_account (answer a c) c.kind c.grade c.free c.message a

-- the account after calls one after the other, each with the account that the call before it gave
unfoldable pub account_after : Account → List Call → Account
account_after a [] = a
account_after a (c ∷ cs) = account_after (after a c) cs

-- the frame of a call under a number
abbrev pub frame_under : ℕ → Call → List ℤ
frame_under number c = quiet_frame c.kind c.grade c.free number c.message

-- THE HISTORY: the frames sent by those of the calls that are accepted, in their order, each under the number that the account had for it
unfoldable pub sent_by : Account → List Call → List (List ℤ)
unfolding quiet_frame
sent_by a [] = []
sent_by a (c ∷ cs) = cond (eqb (answer a c) 0) (frame_under (number_for a) c ∷ sent_by (after a c) cs) (sent_by (after a c) cs)

-- those calls
unfoldable pub accepted : Account → List Call → List Call
accepted a [] = []
accepted a (c ∷ cs) = cond (eqb (answer a c) 0) (c ∷ accepted (after a c) cs) (accepted (after a c) cs)

-- no call
abbrev pub no_call : Call
no_call = record { kind = 0; grade = 0; free = 0; message = []; n = 0 }

-- THE RULE OF EACH FRAME of the history, across the changeover: frame i is that of accepted call i, under the number that the changeover gives to the
-- count before it
pub record EachNumbered (a : Account) (cs : List Call) : Type 0 where
  pub as_many : length (sent_by a cs) ≡ length (accepted a cs)
  pub each : (i : ℕ) → i < length (sent_by a cs)
      → get_or (sent_by a cs) i [] ≡ frame_under (number_at a.changeover (a.count + i)) (get_or (accepted a cs) i no_call)

-- two accounts hold the same, but for their changeover
pub record SameFigures (a b : Account) : Type 0 where
  pub count : a.count ≡ b.count
  pub sum : a.sum ≡ b.sum
  pub largest : a.largest ≡ b.largest

-- the sum of the powers energy / n of frames, counted in parts of 1 / u
unfoldable pub powers_in : ℕ → List (List ℤ) → ℕ
powers_in u [] = 0
powers_in u (f ∷ fs) = energy f * (u / length f) + powers_in u fs

-- some block of some of the frames has the energy r
pub record SomeBlock (fs : List (List ℤ)) (r : ℕ) : Type 0 where
  pub frame : ℕ
  pub sent : frame < length fs
  pub block : ℕ
  pub inside : block < blocks_of (get_or fs frame [])
  pub has : energy (part block (get_or fs frame [])) ≡ r

-- r is the largest block energy among the frames, and 0 where there is none
pub record LargestOf (fs : List (List ℤ)) (r : ℕ) : Type 0 where
  pub most : (j i : ℕ) → j < length fs → i < blocks_of (get_or fs j []) → energy (part i (get_or fs j [])) ≤ r
  pub some : 0 < length fs → SomeBlock fs r
  pub none : length fs ≡ 0 → r ≡ 0

-- what an account that grew from the beginning holds of the frames of its history, whatever its changeover: their number, at most 1,000,000; exactly
-- the sum of their powers, in parts of 1/64; and their largest block energy
pub record Holds (a : Account) (fs : List (List ℤ)) : Type 0 where
  pub few : length fs ≤ 1000000
  pub count : a.count ≡ length fs
  pub sum : HasValue a.sum false (powers_in 64 fs) 64
  pub largest : LargestOf fs a.largest
