-- In each arm the kind is known, and with it how many bits each level has.
use Rattle.std.proofs.Common.{◌≡◌, ℕ, ◌≤◌, ◌<◌, length, get_or, refl, ap, arith, rules}
use Rattle.frames.specs.Kind.{level_bits}
use Rattle.frames.proofs.Limits.{kind-low, kind-high}
use Rattle.frame_message.proofs.Pieces.{counts-3, counts-4, counts-5, counts-6, level-total, first-level, next_level, levels-left}
use Rattle.frame_message.proofs.write_levels.Goals as goal

pub put_bytes-requires : goal.put_bytes-requires
put_bytes-requires c = (omega arith, omega (arith, ap level_bits c.in-4.is, level-total counts-4))

pub put_bytes-requires-in-5 : goal.put_bytes-requires-in-5
put_bytes-requires-in-5 c = (omega arith, omega (arith, ap level_bits c.in-5.is, level-total counts-5))

pub put_bytes-rest-requires : goal.put_bytes-rest-requires
put_bytes-rest-requires c =
    let k = c.args.kind in
    let six : k ≡ 6 = omega (arith, kind-low k c.requires.0, kind-high k c.requires.0) in
    (omega arith, omega (arith, ap level_bits six, level-total counts-6))

pub put_bytes-requires-in_default : goal.put_bytes-requires-in_default
put_bytes-requires-in_default c =
    let k = c.args.kind in
    let six : k ≡ 6 = omega (arith, kind-low k c.requires.0, kind-high k c.requires.0) in
    let room : 14 ≤ length c.args.out.now = omega (arith, ap level_bits six, level-total counts-6) in
    (omega arith, omega arith)

pub returns-in-3 : goal.returns-in-3
returns-in-3 c =
    let a = c.args in
    let first = first-level counts-3 a.words a.out.now (λ j. (c.type_inv.out j).fits) c.message_held.result c.message_held.ensures in
    let left = levels-left a.words (level-total counts-3) (omega arith) first a.kind c.in-3.is in
    record { out = left.0; rest = left.1 }

pub returns-in-4 : goal.returns-in-4
returns-in-4 c =
    let a = c.args in
    let bytes : (j : ℕ) → get_or a.out.now j 0 < 256 = λ j. search rules in
    let first = first-level counts-4 a.words a.out.now bytes c.message_held-low.result c.message_held-low.ensures in
    let both = next_level counts-4 a.words first 1 refl c.message_held-high.result c.message_held-high.ensures 2 4 refl (omega arith)
    _ c.put_bytes.result c.put_bytes.ensures.out c.put_bytes.ensures.rest in
    let left = levels-left a.words (level-total counts-4) (omega arith) both a.kind c.in-4.is in
    record { out = left.0; rest = left.1 }

pub returns-in-5 : goal.returns-in-5
returns-in-5 c =
    let a = c.args in
    let bytes : (j : ℕ) → get_or a.out.now j 0 < 256 = λ j. search rules in
    let first = first-level counts-5 a.words a.out.now bytes c.message_held-low-in-5.result c.message_held-low-in-5.ensures in
    let both = next_level counts-5 a.words first 1 refl c.message_held-high-in-5.result c.message_held-high-in-5.ensures 4 0 refl (omega arith)
    _ c.put_bytes-in-5.result c.put_bytes-in-5.ensures.out c.put_bytes-in-5.ensures.rest in
    let left = levels-left a.words (level-total counts-5) (omega arith) both a.kind c.in-5.is in
    record { out = left.0; rest = left.1 }

pub returns-in_default : goal.returns-in_default
returns-in_default c =
    let a = c.args in
    let six : a.kind ≡ 6 = omega (arith, kind-low a.kind c.requires.0, kind-high a.kind c.requires.0) in
    let bytes : (j : ℕ) → get_or a.out.now j 0 < 256 = λ j. search rules in
    let first = first-level counts-6 a.words a.out.now bytes c.message_held-low-in_default.result c.message_held-low-in_default.ensures in
    let two = next_level counts-6 a.words first 1 refl c.message_held-middle.result c.message_held-middle.ensures 6 1 refl (omega arith)
    _ c.put_bytes-rest.result c.put_bytes-rest.ensures.out c.put_bytes-rest.ensures.rest in
    let three = next_level counts-6 a.words two 2 refl c.message_held-high-in_default.result c.message_held-high-in_default.ensures 8 0 refl (omega arith)
    _ c.put_bytes-in_default.result c.put_bytes-in_default.ensures.out c.put_bytes-in_default.ensures.rest in
    let left = levels-left a.words (level-total counts-6) (omega arith) three a.kind six in
    record { out = left.0; rest = left.1 }
