-- A row of bits written into bytes, whole bytes at a time. Private contracts cite it; clients need none of it. Assumes nothing.
use Rattle.std.specs.Prelude.{ℕ, ◌*◌, List, length, get_or}
use Rattle.bits.specs.Message.{message_bit, bytes_of, with_bits}

-- the first n bytes of the row, and from there on those that were there before
unfoldable pub written_over : ℕ → List ℕ → List ℕ → List ℕ
unfolding bytes_of with_bits message_bit
written_over n row before = bytes_of (length before) (with_bits 0 (8 * n) (λ t. get_or row t 0) (message_bit before))
