use Rattle.std.proofs.Common.{◌≡◌, ℕ, ◌+◌, ◌-◌, ◌≢◌, ◌*◌, ◌/◌, ◌<◌, ◌^◌, length, ap, ◌∙◌, arith, below_more, get_or-set_other, get_or-set_same}
use Rattle.std.proofs.lemmas.Nat.{shr-shr}
use Rattle.bits.specs.Message.{message_bit, bytes_of, with_bits}
use Rattle.bits.proofs.Digits.{digit}
use Rattle.bits.proofs.Bytewise.{digits-byte, bytes_put}
use Rattle.bits.proofs.put_bytes.Goals as goal

pub loop-byte-preserved : goal.loop-byte-preserved
loop-byte-preserved c =
    let i : ℕ = c.loop-byte.byte-index in
    let up : 8 * i + 8 ≡ 8 * (i + 1) = omega arith in
    let w : c.loop-byte.w ≡ c.args.bits / 2 ^ (8 * i) = c.loop-byte.invariant.0 in
    let lt : i < length c.loop-byte.byte-items = omega arith in (
      omega (arith, w, shr-shr c.args.bits (8 * i) 8, ap (λ (e : ℕ). c.args.bits / 2 ^ e) up),
      below_more _ _
          (λ k h. let ne : k ≢ i = omega arith in rw get_or-set_other (c.loop-byte.invariant.1 k h))
          (rw (get_or-set_same, w) (digits-byte c.args.bits i)),
    )

pub returns-clause-out : goal.returns-clause-out
returns-clause-out c =
    let a = c.args in
    let n : ℕ = a.at + a.n - a.at in
    let new : ℕ → ℕ = digit a.bits in
    bytes_put a.out.now c.loop-byte.byte-items a.at n new (omega arith) (omega arith) (λ j. (c.type_inv.out j).fits)
    (λ i l. c.loop-byte.invariant.1 i (omega arith))
    ∙ ap (λ (n : ℕ). bytes_of (length a.out.now) (with_bits (8 * a.at) (8 * n) new (message_bit a.out.now))) (omega arith)
