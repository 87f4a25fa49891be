-- Sending with an account (document 01, "The two readings, power, account", request E5 for the number, E7 and E10 for free bits): what it answers, for any
-- message, frame and account. What it leaves in the lent frame, and the energy, are those of sending under number_for by the refusal that is answered:
-- frame_after and energy_sent of frames. Assumes nothing.
use Rattle.std.specs.Prelude.{ℕ, cond, List, eqb, leb}
use Rattle.frames.specs.Free.{quiet_frame}
use Rattle.frames.specs.Sending.{send_refusal}
use Rattle.power_account.specs.declared.Account.{Account}
use Rattle.power_account.specs.Power.{full, grown}

-- the number of frame i with an account of this changeover: "frames below it follow the old rule", which is number 0's, "and those from it on the new",
-- which is that of their own number
abbrev pub number_at : ℕ → ℕ → ℕ
number_at changeover i = cond (leb changeover i) i 0

-- that of the next frame: "The account's count before the send is the number"
abbrev pub number_for : Account → ℕ
number_for a = number_at a.changeover a.count

-- the tests 1, 2, 17, 3, 4, 5 of sending, then 11; n coordinates are lent. 0 is success
unfoldable pub counted_refusal : ℕ → ℕ → ℕ → List ℕ → ℕ → Account → ℕ
unfolding send_refusal
counted_refusal k b f bytes n a = cond (eqb (send_refusal k b f bytes n) 0) (cond (full a) 11 0) (send_refusal k b f bytes n)

-- the account after a call that answers `refusal`: grown by the sent frame, or as it came where sending is refused
unfoldable pub counted_account : ℕ → ℕ → ℕ → ℕ → List ℕ → Account → Account
unfolding quiet_frame
counted_account refusal k b f bytes a = cond (eqb refusal 0) (grown a (quiet_frame k b f (number_for a) bytes)) a
