use Rattle.std.proofs.Common.{◌≡◌, ℕ, ◌+◌, ◌-◌, ◌*◌, ◌/◌, ◌≤◌, ◌<◌, refl, ap, ◌∙◌, ℤ, pos, ◌+ℤ◌, ◌-ℤ◌, w32, to_z, of_z, arith}
use mir.Facts.{to_z_pos}
use Rattle.integers.proofs.Zed.{#◌, ◌⊖◌, tz, sfits! }
use Rattle.costs.proofs.Lifted.{lifted-range, residue-number}
use Rattle.costs.proofs.coordinate.nearest_number.Goals as goal

-- four times a quotient by 1024
up_small : (l h r : ℕ) → l ≤ 98304 → h ≤ 1024 → r < 4 → 4 * ((l + h - 256 * r) / 1024) + r ≤ 400
up_small l h r a b k = omega arith

-- a difference of small numbers
less : (u d : ℕ) → u ≤ 400 → d ≤ 400 → to_z w32 (of_z w32 (to_z w32 u -ℤ pos d)) ≡ pos u -ℤ pos d
less u d hu hd = tz (ap (λ (z : ℤ). z -ℤ pos d) (to_z_pos w32 {n = u} (omega arith))) (sfits! w32 (# u ⊖ # d) (omega arith) (omega arith))

pub returns : goal.returns
returns c =
    let l = c.lifted.result in
    let r = c.args.c in
    let t = c.args.t in
    let is : pos l ≡ t +ℤ pos 65536 = c.lifted.ensures ∙ ap (λ (z : ℤ). z +ℤ pos 65536) (tz refl c.ranges.t) in
    less (4 * ((l + 512 - 256 * r) / 1024) + r) 256 (up_small l 512 r (lifted-range t c.requires.0 l is).1 (omega arith) c.requires.1) (omega arith)
    ∙ residue-number t c.requires.0 l r is c.requires.1
