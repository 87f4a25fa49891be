use Rattle.std.proofs.Common.{◌≡◌, ◌∷◌, ◌∙◌, ap, nat_abs, w32, to_z, of_z, arith}
use mir.Facts.{to_z-of_z}
use Rattle.text.specs.Text.{decimal_of, signed_of}
use Rattle.text.proofs.Buffer.{put-more}
use Rattle.text.proofs.Decimal.{signed-neg, signed-pos}
use Rattle.text.proofs.put_signed.Goals as goal

pub put_byte-a-requires : goal.put_byte-a-requires
put_byte-a-requires c =
    let back : to_z w32 (of_z w32 c.args.z) ≡ c.args.z = to_z-of_z c.ranges.z in
    let m : c.from-m.result ≡ nat_abs c.args.z = c.from-m.ensures ∙ c.unsigned_abs.ensures.value ∙ ap nat_abs back in
    let e : signed_of c.args.z ≡ 45 ∷ decimal_of c.from-m.result = rw m (signed-neg _ (rw back at c.if-z-lt0.true)) in
    let h = rw e at c.requires in
    omega (arith, h)

pub put_decimal-requires : goal.put_decimal-requires
put_decimal-requires c =
    let back : to_z w32 (of_z w32 c.args.z) ≡ c.args.z = to_z-of_z c.ranges.z in
    let m : c.from-m.result ≡ nat_abs c.args.z = c.from-m.ensures ∙ c.unsigned_abs.ensures.value ∙ ap nat_abs back in
    let e : signed_of c.args.z ≡ 45 ∷ decimal_of c.from-m.result = rw m (signed-neg _ (rw back at c.if-z-lt0.true)) in
    let h = rw e at c.requires in
    omega (arith, h, c.put_byte-a.ensures.after)

pub returns-then-z-lt0 : goal.returns-then-z-lt0
returns-then-z-lt0 c =
    let back : to_z w32 (of_z w32 c.args.z) ≡ c.args.z = to_z-of_z c.ranges.z in
    let m : c.from-m.result ≡ nat_abs c.args.z = c.from-m.ensures ∙ c.unsigned_abs.ensures.value ∙ ap nat_abs back in
    let e : signed_of c.args.z ≡ 45 ∷ decimal_of c.from-m.result = rw m (signed-neg _ (rw back at c.if-z-lt0.true)) in
    let h = rw e at c.requires in
    rw e (put-more c.put_byte-a.ensures c.put_decimal.ensures (omega (arith, h, c.put_byte-a.ensures.after)))

pub put_decimal-requires-else-z-lt0 : goal.put_decimal-requires-else-z-lt0
put_decimal-requires-else-z-lt0 c =
    let back : to_z w32 (of_z w32 c.args.z) ≡ c.args.z = to_z-of_z c.ranges.z in
    let m : c.from-m.result ≡ nat_abs c.args.z = c.from-m.ensures ∙ c.unsigned_abs.ensures.value ∙ ap nat_abs back in
    let e : signed_of c.args.z ≡ decimal_of c.from-m.result = rw m (signed-pos _ (rw back at c.if-z-lt0.false)) in
    rw e at c.requires

pub returns-else-z-lt0 : goal.returns-else-z-lt0
returns-else-z-lt0 c =
    let back : to_z w32 (of_z w32 c.args.z) ≡ c.args.z = to_z-of_z c.ranges.z in
    let m : c.from-m.result ≡ nat_abs c.args.z = c.from-m.ensures ∙ c.unsigned_abs.ensures.value ∙ ap nat_abs back in
    let e : signed_of c.args.z ≡ decimal_of c.from-m.result = rw m (signed-pos _ (rw back at c.if-z-lt0.false)) in
    rw e c.put_decimal-else-z-lt0.ensures
