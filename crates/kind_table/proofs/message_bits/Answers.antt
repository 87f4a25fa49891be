-- `message_bits` meets its contract: the coordinates' bits are few. Assumes nothing.
use Rattle.std.proofs.Common.{ℕ, ◌*◌, ap, arith}
use Rattle.frames.specs.Kind.{message_bits}
use Rattle.frames.proofs.Limits.{few-level-bits, coordinate-bits}
use Rattle.kind_table.proofs.message_bits.Goals as goal

pub overflow_mul-result : goal.overflow_mul-result
overflow_mul-result c =
    omega (arith, ap (λ (n : ℕ). n * c.args.grade) c.positions.ensures, coordinate-bits c.args.kind c.args.grade c.requires.0 c.requires.1)

pub overflow_add-result : goal.overflow_add-result
overflow_add-result c =
    omega (
      arith,
      ap (λ (n : ℕ). n * c.args.grade) c.positions.ensures,
      coordinate-bits c.args.kind c.args.grade c.requires.0 c.requires.1,
      few-level-bits c.args.kind c.requires.0,
    )

pub returns : goal.returns
unfolding message_bits
returns c = omega (arith, ap (λ (n : ℕ). n * c.args.grade) c.positions.ensures)
