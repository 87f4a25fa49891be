use Rattle.std.proofs.Common.{◌≡◌, ℕ, ◌+◌, ◌*◌, ◌/◌, ◌%◌, ◌^◌, ap, ◌∙◌, arith}
use Rattle.std.proofs.lemmas.Nat.{one_shl}
use Rattle.bits.specs.Message.{message_bit}
use Rattle.bits.proofs.Message.{message-small, number-mod, digit-of}
use Rattle.bits.proofs.Digits.{digit-from}
use Rattle.bits.proofs.bits_at.Goals as goal

-- the bits of the bytes that have them, less those below the first and those past the last
pub returns : goal.returns
returns c =
    let args = c.args in
    let message = args.message.now in
    let w : ℕ = c.held_by.result in
    let s : ℕ = args.from % 8 in
    let first : ℕ = 8 * (args.from / 8) in
    ap (λ (x : ℕ). w / 2 ^ s % x) (one_shl args.count 64 (omega arith))
    ∙ number-mod (w / 2 ^ s) args.count (λ t l.
    let e : first + (s + t) ≡ args.from + t = omega arith in
    digit-from w s t ∙ digit-of c.held_by.ensures (λ i l. message-small message (first + i)) (s + t) (omega arith) ∙ ap (message_bit message) e)
