-- the first bytes are put, and w is what is above them
use Rattle.std.proofs.Common.{◌≡◌, ℕ, ◌*◌, ◌/◌, ◌^◌, ◌<◌, get_or}
use Rattle.bits.specs.Message.{byte_of}
use Rattle.bits.proofs.Digits.{digit}
use Rattle.bits.proofs.put_bytes.Given as goal

abbrev pub invariant-loop-byte : goal.invariant-loop-byte
invariant-loop-byte l =
    (l.w ≡ l.bits / 2 ^ (8 * l.byte-index)) × ((i : ℕ) → i < l.byte-index → get_or l.byte-items i 0 ≡ byte_of (digit l.bits) i)
