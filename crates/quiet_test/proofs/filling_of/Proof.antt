-- `filling_of`: the free bits are the last message bits of the last byte, and no bit behind them is set. Assumes nothing.
use Prim.Native.Nat.{ℕ, ◌+◌, ◌-◌, ◌*◌, ◌^◌, ◌≤◌, ◌<◌}
use mathlib.Core.Path.{◌≡◌}
use native.Mathlib.Nat.{div-le_self}
use native.Mathlib.Omega.{arith}
use lib.ListN.{length, get_or}
use Rattle.frames.specs.Kind.{message_bits}
use Rattle.frames.specs.Free.{free_from}
use Rattle.frames.proofs.Rows.{grade-low, grade-high}
use Rattle.free_bits.proofs.LastByte.{LastByte, last_byte, last-filling}
use Rattle.quiet_test.proofs.filling_of.Statement.{statement}
use Rattle.quiet_test.proofs.filling_of.Tie as tie

last : (s : tie.Start) → LastByte s.args.kind s.args.grade (length s.args.message.now)
last s =
    let a = s.args in
    last_byte a.kind a.grade (length a.message.now) s.requires.0 (grade-low a.grade s.requires.1) (grade-high a.grade s.requires.1) s.requires.4.long

-- where the free bits begin in it
module _ (c : tie.After-message_bits) where
  abbrev start : tie.Start
  start = c.before.before

  abbrev at : ℕ
  at = c.message_bits.result - start.args.free - 8 * (length start.args.message.now - 1)

  place : 8 * (length start.args.message.now - 1) + at ≡ free_from start.args.kind start.args.grade start.args.free
  unfolding free_from
  place = omega (arith, (last start).begin, c.message_bits.ensures, start.requires.3)

  end : free_from start.args.kind start.args.grade start.args.free + start.args.free ≡ message_bits start.args.kind start.args.grade
  unfolding free_from
  end = omega (arith, (last start).begin, start.requires.3)

  fits : start.args.free ≤ 8 - at
  fits = omega (arith, (last start).begin, (last start).some, (last start).end, c.message_bits.ensures, start.requires.3)

  less : at < 8
  less = omega (arith, fits, start.requires.2)

sub-last : tie.Need-overflow_sub-last
sub-last c = (last c.before).some

message-bits-requires : tie.Need-message_bits-requires
message-bits-requires c κs = let s = c.before in (s.requires.0, grade-high s.args.grade s.requires.1)

sub_at : tie.Need-overflow_sub-at
sub_at c = let s = start c in omega (arith, (last s).begin, c.message_bits.ensures, s.requires.3)

mul_at : tie.Need-overflow_mul-at
mul_at c = omega (arith, (last (start c)).few)

sub-at-2 : tie.Need-overflow_sub-at-2
sub-at-2 c = let s = start c in omega (arith, (last s).begin, c.message_bits.ensures, s.requires.3)

shared-slice-read-b : tie.Need-bounds-message-last
shared-slice-read-b c = omega (arith, (last (start c.before)).some)

cast-result : tie.Need-overflow_cast-result
cast-result c = omega (arith, less c.before)

shr-result : tie.Need-overflow_shr-result
shr-result c = omega (arith, less c.before)

cast-result-2 : tie.Need-overflow_cast-result-2
cast-result-2 c =
    let m = c.before in
    let s = start m in
    let i = length s.args.message.now - 1 in
    omega (arith, div-le_self (get_or s.args.message.now i 0) (2 ^ at m), s.requires.4.each i)

returns : tie.Need-returns
returns c =
    let m = c.before in
    let s = start m in
    let g = s.args in
    last-filling g.kind g.grade g.free (at m) g.message.now s.requires.4.each (last s).some (place m) (less m) s.requires.4 (fits m) (end m)

pub filling_of_spec : {M : Type 1} → statement M
filling_of_spec =
    tie.close
    (tie.spec
    sub-last
    message-bits-requires
    sub_at
    mul_at
    sub-at-2
    shared-slice-read-b
    cast-result
    shr-result
    cast-result-2
    returns)
