-- The bits of a message's bytes, and bytes with bits put into them.
-- Clients cite message_bit, bytes_of and with_bits. Assumes nothing.
use Rattle.std.specs.Prelude.{ℕ, ◌+◌, ◌-◌, ◌*◌, ◌/◌, ◌%◌, ◌^◌, ◌&&◌, cond, List, leb, ltb, get_or}
use Rattle.bits.specs.Number.{table, number}

-- message bit k: bit k mod 8 (lowest first) of byte k div 8
unfoldable pub message_bit : List ℕ → ℕ → ℕ
message_bit bytes k = get_or bytes (k / 8) 0 / 2 ^ (k % 8) % 2

-- byte j of the bits: bit 8 j + i counts 2 ^ i
unfoldable pub byte_of : (ℕ → ℕ) → ℕ → ℕ
byte_of bit j = number 8 (λ i. bit (8 * j + i))

-- the n bytes of the bits
unfoldable pub bytes_of : ℕ → (ℕ → ℕ) → List ℕ
unfolding table byte_of
bytes_of n bit = table n (byte_of bit)

-- the new bits 0, 1, .. at from, from + 1, .. below from + count, and the old bits elsewhere
unfoldable pub with_bits : ℕ → ℕ → (ℕ → ℕ) → (ℕ → ℕ) → ℕ → ℕ
with_bits from count new old i = cond (leb from i && ltb i (from + count)) (new (i - from)) (old i)
