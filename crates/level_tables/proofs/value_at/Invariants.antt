use Rattle.std.proofs.Common.{◌≡◌, ℕ, ◌+◌, Bool, List, get_or}
use Rattle.bits.specs.Message.{message_bit}
use Rattle.reed_muller.specs.Level.{lies_in, order}
use Rattle.reed_muller.proofs.Parity.{tested}
use Rattle.level_tables.proofs.value_at.Given as goal

-- mask k of the order lies in p; message bit k from `from` on
abbrev pub in_p : ℕ → ℕ → ℕ → Bool
in_p m p k = lies_in (get_or (order m) k 0) p

abbrev pub bit-from : List ℕ → ℕ → ℕ → ℕ
bit-from message from k = message_bit message (from + k)

-- the parity of the message bits passed whose masks lie in p
abbrev pub invariant-loop-k : goal.invariant-loop-k
invariant-loop-k l = l.s ≡ tested (in_p l.m l.p) (bit-from l.message l.from) l.k
