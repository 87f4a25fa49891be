-- `free_set` meets its contract: the free bits and the spare ones are the high bits of the last byte. Assumes nothing.
use Rattle.std.proofs.Common.{◌≡◌, ℕ, ◌+◌, ◌-◌, ◌*◌, ◌≤◌, length, arith}
use Rattle.frames.specs.Kind.{message_bits}
use Rattle.frames.specs.Free.{free_from}
use Rattle.free_bits.proofs.LastByte.{LastByte, last_byte}
use Rattle.accepting.proofs.Tests.{free-none, free-last}
use Rattle.accepting.proofs.free_set.Goals as goal

-- bit `at` of the last of l bytes is the first of them, where the message has m bits
record Begins (k b f l m : ℕ) : Type 0 where
  place : 8 * (l - 1) + (m - f - 8 * (l - 1)) ≡ free_from k b f
  low : m - f - 8 * (l - 1) ≤ 8

begins : (k b f l m : ℕ) → m ≡ message_bits k b → LastByte k b l → f ≤ 4 → Begins k b f l m
unfolding free_from
begins k b f l m e t few = record { place = omega (arith, t.begin); low = omega (arith, t.some, t.end) }

pub overflow_sub-last : goal.overflow_sub-last
overflow_sub-last c = let p = c.requires in (last_byte c.args.kind c.args.grade (length c.args.message.now) p.0 p.1 p.2 p.4).some

pub overflow_sub-at : goal.overflow_sub-at
overflow_sub-at c =
    let p = c.requires in
    let t = last_byte c.args.kind c.args.grade (length c.args.message.now) p.0 p.1 p.2 p.4 in
    omega (arith, t.begin)

pub overflow_mul-at : goal.overflow_mul-at
overflow_mul-at c =
    let p = c.requires in
    let t = last_byte c.args.kind c.args.grade (length c.args.message.now) p.0 p.1 p.2 p.4 in
    omega (arith, t.few)

pub overflow_sub-at-2 : goal.overflow_sub-at-2
overflow_sub-at-2 c =
    let p = c.requires in
    let t = last_byte c.args.kind c.args.grade (length c.args.message.now) p.0 p.1 p.2 p.4 in
    omega (arith, t.begin)

pub returns-then-at-eq8 : goal.returns-then-at-eq8
returns-then-at-eq8 c =
    let g = c.args in
    let p = c.requires in
    let t = last_byte g.kind g.grade (length g.message.now) p.0 p.1 p.2 p.4 in
    free-none g.kind g.grade g.free _ g.message.now p.4 t.some (begins g.kind g.grade g.free _ c.message_bits.result c.message_bits.ensures t p.3).place
    (omega arith)

pub bounds-message-last : goal.bounds-message-last
bounds-message-last c =
    let p = c.requires in
    let t = last_byte c.args.kind c.args.grade (length c.args.message.now) p.0 p.1 p.2 p.4 in
    omega (arith, t.some)

pub overflow_cast-result : goal.overflow_cast-result
overflow_cast-result c =
    let p = c.requires in
    let t = last_byte c.args.kind c.args.grade (length c.args.message.now) p.0 p.1 p.2 p.4 in
    omega (arith, (begins c.args.kind c.args.grade c.args.free _ c.message_bits.result c.message_bits.ensures t p.3).low)

pub overflow_shr-result : goal.overflow_shr-result
overflow_shr-result c =
    let p = c.requires in
    let t = last_byte c.args.kind c.args.grade (length c.args.message.now) p.0 p.1 p.2 p.4 in
    omega (arith, (begins c.args.kind c.args.grade c.args.free _ c.message_bits.result c.message_bits.ensures t p.3).low)

pub returns : goal.returns
returns c =
    let g = c.args in
    let p = c.requires in
    let t = last_byte g.kind g.grade (length g.message.now) p.0 p.1 p.2 p.4 in
    let b = begins g.kind g.grade g.free _ c.message_bits.result c.message_bits.ensures t p.3 in
    free-last g.kind g.grade g.free _ g.message.now p.4 t.some b.place (λ j. (c.type_inv.message j).fits) (omega (arith, b.low))
