-- `clear_free`: the free bits are the last of the last byte. Assumes nothing.
use Prim.Native.Nat.{ℕ, ◌+◌, ◌-◌, ◌*◌, ◌%◌, ◌^◌, ◌≤◌, ◌<◌}
use mathlib.Core.Path.{◌≡◌, sym, ap, ◌∙◌}
use mathlib.Core.List.{List}
use native.Mathlib.Omega.{arith}
use lib.ListN.{length}
use lib.Pow.{pow_pos}
use borrow.Author.Rules.{rules}
use Rattle.bits.proofs.Digits.{one_shifted}
use Rattle.frames.specs.Kind.{message_bits}
use Rattle.frames.specs.Free.{free_from, filled}
use Rattle.frames.proofs.Rows.{grade-low, grade-high}
use Rattle.free_bits.proofs.Filled.{filled_none}
use Rattle.free_bits.proofs.LastByte.{LastByte, last_byte}
use Rattle.fixed_bits.proofs.Cleared.{cleared}
use Rattle.fixed_bits.proofs.clear_free.Statement.{statement}
use Rattle.fixed_bits.proofs.clear_free.Tie as tie

-- 1 moved up by `at` bits is not moved out of a byte
shifted-pos : (at : ℕ) → at < 8 → 0 < 1 * 2 ^ at % 2 ^ 8
shifted-pos at h = omega (arith, one_shifted at 8 h, pow_pos at)

last : (s : tie.Start) → LastByte s.args.kind s.args.grade (length s.args.message.now)
last s =
    let a = s.args in
    last_byte a.kind a.grade (length a.message.now) s.requires.0 (grade-low a.grade s.requires.1) (grade-high a.grade s.requires.1) s.requires.3.long

-- where the message ends
module _ (c : tie.After-message_bits) where
  abbrev start : tie.Start
  start = c.before.before.before

  abbrev bytes : List ℕ
  bytes = start.args.message.now

  begin : 8 * (length bytes - 1) + 4 ≤ c.message_bits.result
  begin = omega (arith, (last start).begin, c.message_bits.ensures)

  within : c.message_bits.result ≤ 8 * (length bytes - 1) + 8
  within = omega (arith, (last start).some, (last start).end, c.message_bits.ensures)

  end : free_from start.args.kind start.args.grade start.args.free + start.args.free ≡ message_bits start.args.kind start.args.grade
  unfolding free_from
  end = omega (arith, (last start).begin, start.requires.2)

sub-last : tie.Need-overflow_sub-last
sub-last c = (last c.before.before).some

message-bits-requires : tie.Need-message_bits-requires
message-bits-requires c κs = let s = c.before.before in (s.requires.0, grade-high s.args.grade s.requires.1)

sub_at : tie.Need-overflow_sub-at
sub_at c = omega (arith, begin c, (start c).requires.2)

mul_at : tie.Need-overflow_mul-at
mul_at c = omega (arith, (last (start c)).few)

sub-at-2 : tie.Need-overflow_sub-at-2
sub-at-2 c = omega (arith, begin c, (start c).requires.2)

slice-read-b : tie.Need-bounds-message-last
slice-read-b c = omega (arith, (last (start c.before)).some)

cast-message : tie.Need-overflow_cast-message
cast-message c = omega (arith, within c.before)

shl-message : tie.Need-overflow_shl-message
shl-message c = let m = c.before in omega (arith, within m)

rem-message : tie.Need-nonzero_rem-message
rem-message c = let m = c.before in shifted-pos _ (omega (arith, within m))

slice-write-message : tie.Need-bounds-message-last-2
slice-write-message c = omega (arith, (last (start c.before)).some)

same_length : tie.Need-shape_of-message
same_length c = search rules

returns-2 : tie.Need-returns
unfolding free_from
returns-2 c =
    let m = c.before in
    let s = start m in
    let g = s.args in
    cleared g.kind g.grade g.free _ (bytes m) s.requires.3 (last s).some
    (omega (arith, begin m, m.message_bits.ensures, s.requires.2)) (end m) (omega (arith, within m))

pub clear_free_spec : {M : Type 1} → statement M
clear_free_spec =
    tie.close
    (tie.spec
    (λ c. let s = c.before.before in
    let g = s.args in
    let none : g.free ≡ 0 = omega arith in
    sym (ap (λ (f : ℕ). filled g.kind g.grade f 0 g.message.now) none ∙ filled_none g.kind g.grade 0 g.message.now s.requires.3.each))
    sub-last
    message-bits-requires
    sub_at
    mul_at
    sub-at-2
    slice-read-b
    cast-message
    shl-message
    rem-message
    slice-write-message
    same_length
    returns-2)
