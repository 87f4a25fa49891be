use Rattle.std.proofs.Common.{◌≡◌, ℕ, ◌+◌, ◌-◌, ◌*◌, ◌/◌, ◌%◌, ◌^◌, ap, ◌∙◌, arith}
use Rattle.bits.proofs.Digits.{low-shifted}
use Rattle.level_transform.proofs.low_bits.Goals as goal

-- a shift up and down again
pub returns : goal.returns
returns c =
    let n : ℕ = c.args.n in
    let s : ℕ = 64 - n in
    let e : 64 ≡ n + s = omega arith in
    ap (λ (W : ℕ). c.args.w * 2 ^ s % 2 ^ W / 2 ^ s) e ∙ low-shifted c.args.w n s
