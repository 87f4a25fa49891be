-- What a call has to answer and to leave, by the definitions of the library, and when it does; the calls leave no bit free. Assumes nothing.
use Rattle.std.specs.Prelude.{ℕ, suc, Bool, ◌&&◌, ◌||◌, cond, List, ◌++◌, eqb, ltb, ℤ, pos, negsuc, length, take, drop}
use Rattle.frames.specs.Sending.{send_refusal, frame_after, energy_sent}
use Rattle.frames.specs.Reading.{open_refusal, strict_refusal, message_after, energy_read, same_frame}
use Rattle.power_account.specs.declared.Account.{Account}
use Rattle.power_account.specs.Opening.{opened_with}
use Rattle.power_account.specs.Counted.{number_for, counted_refusal, counted_account}
use Rattle.octets.specs.Same.{same_bytes}
use Rattle.test_data.specs.Alike.{same_account}
use Rattle.test_calls.specs.declared.record.Call.{Call}
use Rattle.test_calls.specs.declared.record.Lent.{Lent}
use Rattle.test_calls.specs.declared.Answer.{Answer}
use Rattle.test_calls.specs.declared.Check.{Check}
use Rattle.test_calls.specs.declared.Check.TheVariants.{Called, Exported}

-- the place of a check in the tally: a call's is the number of its function
abbrev pub place : Check → ℕ
place (Called function) = function
place Exported = 5

-- an answer: the refusal number, the energy and the account
abbrev pub answered : ℕ → ℕ → Account → Answer
answered number energy a = record { number = number; energy = energy; account = a }

-- what a call answers, and the message and the frame that it leaves
pub record Outcome : Type 0 where
  pub answer : Answer
  pub message : List ℕ
  pub frame : List ℤ

-- sending under a number, where it answers `refusal`
abbrev pub sending_outcome : ℕ → ℕ → ℕ → ℕ → List ℕ → List ℤ → Account → Outcome
sending_outcome refusal k b number m x a = record {
  answer = answered refusal (energy_sent refusal k b 0 number m) a;
  message = m;
  frame = frame_after refusal k b 0 number m x;
}

-- a reading, where it answers `refusal`
abbrev pub reading_outcome : ℕ → ℕ → ℕ → List ℕ → List ℤ → Account → Outcome
reading_outcome refusal k b m x a = record {
  answer = answered refusal (energy_read refusal x) a;
  message = message_after refusal k b 0 x m;
  frame = x;
}

-- sending with an account, where it answers `refusal`
abbrev pub counted_outcome : ℕ → ℕ → ℕ → List ℕ → List ℤ → Account → Outcome
counted_outcome refusal k b m x a = record {
  answer = answered refusal (energy_sent refusal k b 0 (number_for a) m) (counted_account refusal k b 0 m a);
  message = m;
  frame = frame_after refusal k b 0 (number_for a) m x;
}

-- opening an account
abbrev pub opening_outcome : ℕ → List ℕ → List ℤ → Outcome
opening_outcome changeover m x = record {
  answer = answered (opened_with changeover).number 0 (opened_with changeover).account;
  message = m;
  frame = x;
}

-- THE OUTCOME of function 0, sending; 1, the open reading; 2, the strict reading; 3, sending with an account; and else opening one. The number is that of
-- the frame, or the changeover that an account is opened with; lent are the message m, the frame x and the account a
unfoldable pub outcome_of : ℕ → ℕ → ℕ → ℕ → List ℕ → List ℤ → Account → Outcome
outcome_of function k b number m x a =
    cond (eqb function 0) (sending_outcome (send_refusal k b 0 m (length x)) k b number m x a)
    (cond (eqb function 1) (reading_outcome (open_refusal k b 0 x (length m)) k b m x a)
    (cond (eqb function 2) (reading_outcome (strict_refusal k b 0 number x (length m)) k b m x a)
    (cond (eqb function 3) (counted_outcome (counted_refusal k b 0 m (length x) a) k b m x a)
    (opening_outcome number m x))))

-- what an exported function's number says: the energy, or minus the refusal number, which is a byte
unfoldable pub decoded : ℤ → Account → Answer
decoded (pos e) a = answered 0 e a
decoded (negsuc n) a = answered (cond (ltb n 255) (suc n) 255) 0 a

-- ---- a call of the data, whose first bytes and coordinates are lent

-- beyond those that are lent, all stays; without room nothing is called, and no call answers 255
unfoldable pub made_outcome : Call → List ℕ → List ℤ → Account → Outcome
unfolding outcome_of
made_outcome c m x a =
    cond (ltb (length m) c.bytes || ltb (length x) c.coordinates) (record { answer = answered 255 0 a; message = m; frame = x }) (
    let o = outcome_of c.function c.kind c.grade c.number (take c.bytes m) (take c.coordinates x) a in
    record { answer = o.answer; message = o.message ++ drop c.bytes m; frame = o.frame ++ drop c.coordinates x }
    )

-- two answers are the same
unfoldable pub same_answer : Answer → Answer → Bool
unfolding same_account
same_answer a b = eqb a.number b.number && (eqb a.energy b.energy && same_account a.account b.account)

-- THE JUDGEMENT: the call answers what it has to, and leaves what it has to
unfoldable pub is_held : Call → Lent → Account → Answer → Lent → Bool
unfolding made_outcome same_answer same_bytes same_frame
is_held c lent a answer left =
    let o = made_outcome c lent.message lent.frame a in
    same_answer o.answer answer && (same_bytes o.message left.message && same_frame o.frame left.frame)
