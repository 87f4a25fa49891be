use Rattle.std.proofs.Common.{◌≡◌, ℕ, ◌+◌, ◌*◌, ◌≤◌, ◌<◌, List, length, take, get_or, sym, ap, ap₂, ◌∙◌, ℤ, pos, SFits, w32, to_z, of_z, arith, rules}
use Rattle.octets.specs.Place.{put_at}
use Rattle.octets.proofs.Place.{put-none}
use Rattle.four_bytes.specs.FourBytes.{four_bytes, coordinate_bytes}
use Rattle.four_bytes.proofs.Laws.{twos-is}
use Rattle.four_bytes.proofs.Stored.{next-put}
use Rattle.four_bytes.proofs.put_coordinates.Goals as goal

-- one coordinate more, as it is read and put
one_more : (o₀ o o' : List ℕ) (p : ℕ) (f : List ℤ) (i w at : ℕ) → i < length f → p + 4 * length f ≤ length o₀ → SFits w32 (get_or f i (pos 0))
    → o ≡ put_at o₀ p (coordinate_bytes (take i f)) → w ≡ of_z w32 (get_or f i (pos 0)) → o' ≡ put_at o at (four_bytes w) → at ≡ p + 4 * i
    → o' ≡ put_at o₀ p (coordinate_bytes (take (i + 1) f))
one_more o₀ o o' p f i w at h r fits is e put a =
    put ∙ ap (λ (n : ℕ). put_at o n (four_bytes w)) a
    ∙ ap₂ (λ (x : List ℕ) (y : ℕ). put_at x (p + 4 * i) (four_bytes y)) is (e ∙ sym (twos-is (get_or f i (pos 0)) fits)) ∙ next-put o₀ p f i h r

pub loop-i-init : goal.loop-i-init
unfolding coordinate_bytes
loop-i-init c = sym (put-none c.args.out.now c.args.p)

pub loop-i-preserved : goal.loop-i-preserved
loop-i-preserved c =
    let o = c.args.out.now in
    let p = c.args.p in
    let f = c.args.frame.now in
    let i : ℕ = 2 * c.loop-i.i in
    let fits : SFits w32 (get_or f i (pos 0)) = search rules in
    let fits' : SFits w32 (get_or f (i + 1) (pos 0)) = search rules in
    let back : to_z w32 (of_z w32 (get_or f i (pos 0))) ≡ get_or f i (pos 0) = search rules in
    let back' : to_z w32 (of_z w32 (get_or f (i + 1) (pos 0))) ≡ get_or f (i + 1) (pos 0) = search rules in
    let first = one_more o c.loop-i.out c.put_four.new.out p f i c.cast_unsigned.result (p + 8 * c.loop-i.i) (omega arith) c.requires.1 fits c.loop-i.invariant
    (c.cast_unsigned.ensures ∙ ap (of_z w32) back) c.put_four.ensures (omega arith) in
    let second = one_more o c.put_four.new.out c.put_four-in-loop-i.new.out p f (i + 1) c.cast_unsigned-in-loop-i.result (p + 8 * c.loop-i.i + 4) (omega arith)
    c.requires.1 fits' first (c.cast_unsigned-in-loop-i.ensures ∙ ap (of_z w32) back') c.put_four-in-loop-i.ensures (omega arith) in
    let e : i + 1 + 1 ≡ 2 * (c.loop-i.i + 1) = omega arith in
    second ∙ ap (λ (m : ℕ). put_at o p (coordinate_bytes (take m f))) e
