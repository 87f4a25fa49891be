-- What the definition of a queue comes to, in the sentences of request E4. Assumes nothing.
use Rattle.std.specs.Prelude.{ℕ, suc, ◌+◌, ◌*◌, ◌^◌, ◌<◌, ◌≤◌, ◌≡◌, List, [], ℤ, length, take, drop, get_or}
use Rattle.frames.specs.Kind.{message_bytes}
use Rattle.frames.specs.Frame.{numbered_frame}
use Rattle.power_account.specs.declared.Account.{Account}
use Rattle.power_account.specs.Counted.{number_at, counted_refusal}
use Rattle.power_account.specs.History.{Call, account_after, sent_by}
use Rattle.queue_turns.specs.Queue.{Queued, calls_for, piece}

-- the account after the first i of m messages in the bytes, sent one by one
abbrev pub account_at : ℕ → ℕ → ℕ → List ℕ → Account → ℕ → Account
account_at m k b bytes a i = account_after a (take i (calls_for m k b bytes))

-- what sending message i answers with that account
abbrev pub answer_at : ℕ → ℕ → ℕ → List ℕ → Account → ℕ → ℕ
answer_at m k b bytes a i = counted_refusal k b 0 (piece (message_bytes k b) i bytes) (2 ^ k) (account_at m k b bytes a i)

-- the calls that a queue of m messages makes which answers q: those that are sent, and the refused one where there is one
abbrev pub calls_made : ℕ → ℕ → ℕ → List ℕ → Queued → List Call
calls_made m k b bytes q = take (suc q.sent) (calls_for m k b bytes)

-- a queue of m messages, sent with the account a into the coordinates f₀, answers q and leaves f
pub record InTurn (m k b : ℕ) (bytes : List ℕ) (a : Account) (f₀ : List ℤ) (q : Queued) (f : List ℤ) : Type 0 where
  -- each of those sent is accepted with the account that those before it gave, and its frame is written in its place: message i under the number that the
  -- changeover gives to the count before it
  pub some : q.sent ≤ m
  pub accepted : (i : ℕ) → i < q.sent → answer_at m k b bytes a i ≡ 0
  pub written : (i : ℕ) → i < q.sent
      → piece (2 ^ k) i f ≡ numbered_frame k b (number_at a.changeover (a.count + i)) (piece (message_bytes k b) i bytes)
  -- the coordinates after them keep their values
  pub long : length f ≡ length f₀
  pub kept : drop (2 ^ k * q.sent) f ≡ drop (2 ^ k * q.sent) f₀
  -- it stops at the first message refused, with its number; where there is none the number is 0
  pub stopped : q.sent < m → (q.number ≡ answer_at m k b bytes a q.sent) × (q.number ≡ 0 → ⊥)
  pub all : q.sent ≡ m → q.number ≡ 0
  -- the account is that of the calls one by one: the refused one adds nothing
  pub account : q.account ≡ account_at m k b bytes a q.sent
  pub refused : q.account ≡ account_after a (calls_made m k b bytes q)
  -- and their history has the frames that were written, and no other
  pub counted : length (sent_by a (calls_made m k b bytes q)) ≡ q.sent
  pub history : (i : ℕ) → i < q.sent → get_or (sent_by a (calls_made m k b bytes q)) i [] ≡ piece (2 ^ k) i f
