-- Request E4: a queue of messages of one kind and grade, end to end, sent in turn with an account. What sending one answers and leaves are
-- the definitions of account and frames that sending with an account cites. Assumes nothing.
use Rattle.std.specs.Prelude.{ℕ, zero, suc, ◌+◌, ◌*◌, ◌/◌, ◌%◌, ◌^◌, ◌<◌, cond, List, [], ◌∷◌, ◌++◌, eqb, ℤ, length, take, drop}
use Rattle.e8.specs.Energy.{energy}
use Rattle.frames.specs.Kind.{is_kind, is_grade, message_bytes}
use Rattle.frames.specs.Sending.{unless, frame_after, LeastEnergy}
use Rattle.refusals.specs.Number.{number_of}
use Rattle.power_account.specs.declared.Account.{Account}
use Rattle.power_account.specs.Counted.{number_for}
use Rattle.power_account.specs.History.{Call, answer, after}
use Rattle.queue_turns.specs.declared.Queued.{Queued as Answered}

-- the tests before anything is sent, for so many message bytes and n coordinates: 1, 2, then 3 where the bytes are not a whole number of
-- messages, and 4 where n is not a frame's length times their number. 0 where all are passed
unfoldable pub queue_refusal : ℕ → ℕ → ℕ → ℕ → ℕ
unfolding is_kind is_grade message_bytes
queue_refusal k b bytes n =
    unless (is_kind k) 1 (unless (is_grade b) 2
    (unless (eqb (bytes % message_bytes k b) 0) 3 (unless (eqb n (2 ^ k * (bytes / message_bytes k b))) 4 0)))

-- the number of messages that stand in the bytes
abbrev pub messages_in : ℕ → ℕ → List ℕ → ℕ
messages_in k b bytes = length bytes / message_bytes k b

-- the first q messages in the bytes, each as a call of sending that leaves no bit free and lends a frame's length of coordinates
unfoldable pub calls_for : ℕ → ℕ → ℕ → List ℕ → List Call
calls_for zero k b bytes = []
calls_for (suc q) k b bytes =
    record { kind = k; grade = b; free = 0; message = take (message_bytes k b) bytes; n = 2 ^ k } ∷ calls_for q k b (drop (message_bytes k b) bytes)

-- all of them
abbrev pub calls_of : ℕ → ℕ → List ℕ → List Call
calls_of k b bytes = calls_for (messages_in k b bytes) k b bytes

-- ---- EACH IN TURN, with the account that the one before it gave, up to the first that is refused

-- what sending a queue comes to: the refusal number, 0 where every message is sent, the number of messages sent, and the account
pub record Queued : Type 0 where
  pub number : ℕ
  pub sent : ℕ
  pub account : Account

-- an answer read so
abbrev pub queued : Answered → Queued
queued q = record { number = number_of q.answer; sent = q.sent; account = q.account }

-- a message was sent before those of q
abbrev pub one_more : Queued → Queued
one_more q = record { number = q.number; sent = q.sent + 1; account = q.account }

-- the refusal, 0 for none; how many were sent; the account
unfoldable pub in_turn : Account → List Call → Queued
in_turn a [] = record { number = 0; sent = 0; account = a }
in_turn a (c ∷ cs) = cond (eqb (answer a c) 0) (one_more (in_turn (after a c) cs)) (record { number = answer a c; sent = 0; account = after a c })

-- the lent coordinates f afterwards: each call is lent the next of them
unfoldable pub frames_in_turn : Account → List Call → List ℤ → List ℤ
unfolding frame_after
frames_in_turn a [] f = f
frames_in_turn a (c ∷ cs) f =
    frame_after (answer a c) c.kind c.grade c.free (number_for a) c.message (take c.n f)
    ++ cond (eqb (answer a c) 0) (frames_in_turn (after a c) cs (drop c.n f)) (drop c.n f)

-- ---- the call: where a test before it is not passed nothing is sent, and else each in turn

unfoldable pub queue_outcome : ℕ → ℕ → List ℕ → ℕ → Account → Queued
unfolding queue_refusal in_turn calls_for
queue_outcome k b bytes n a =
    cond (eqb (queue_refusal k b (length bytes) n) 0) (in_turn a (calls_of k b bytes))
    (record { number = queue_refusal k b (length bytes) n; sent = 0; account = a })

unfoldable pub queue_frames : ℕ → ℕ → List ℕ → List ℤ → Account → List ℤ
unfolding queue_refusal frames_in_turn calls_for
queue_frames k b bytes f a = cond (eqb (queue_refusal k b (length bytes) (length f)) 0) (frames_in_turn a (calls_of k b bytes) f) f

-- ---- what stands end to end

-- piece i, where each has n elements
abbrev pub piece : {A : Type 0} → ℕ → ℕ → List A → List A
piece n i xs = take n (drop (n * i) xs)

-- each of the first `sent` frames in f has the least energy of its class, and no coordinate of it is larger than M in size
pub record EachLeast (k b sent : ℕ) (f : List ℤ) : Type 0 where
  pub each : (i : ℕ) → i < sent → LeastEnergy k b (piece (2 ^ k) i f) (energy (piece (2 ^ k) i f))
