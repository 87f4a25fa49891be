-- Before the turn at number i the numbers after it are packed: number i comes below them
use Rattle.std.proofs.Common.{◌≡◌, ℕ, suc, ◌+◌, ◌*◌, ◌-◌, ◌^◌, ◌%◌, ◌<◌, ◌≤◌, ℤ, pos, nat_abs, List, ◌++◌, map, length, get_or, drop, to_z, of_z, w32}
use Rattle.std.proofs.Common.{refl, sym, ◌∙◌, ap, ap₂, subst, arith, rules}
use lib.Pow.{pow_mono}
use Rattle.bits.specs.Number.{sum_to, number}
use Rattle.bits.proofs.Message.{number_lt}
use Rattle.bits.proofs.Digits.{one_shifted, moved_up}
use Rattle.frames.specs.Message.{widths}
use Rattle.frames.specs.Reading.{digits}
use Rattle.frames.proofs.Numbers.{total, total-widths}
use Rattle.block_reading.proofs.Packing.{pack-more, all_from, total-from, total-drop, sizes-at, sizes-length, row_from, packed_from}
use Rattle.block_reading.proofs.BitRows.{all-bits}
use Rattle.block_reading.proofs.packed_by.Goals as goal

packed_lt : (b : ℕ) (s : List ℤ) (i : ℕ) → packed_from b s i < 2 ^ total (drop i (widths b))
packed_lt b s i = number_lt (λ t. get_or (row_from b s i) t 0) (total (drop i (widths b))) (λ t l. all-bits (drop i (widths b)) (drop i (map nat_abs s)) t)

-- number i, of w bits, below those after it
module _ (b i w : ℕ) (s : List ℤ) (some : 1 ≤ b) (most : b ≤ 4) (eight : length s ≡ 8) (low : i < 8) (ew : w ≡ get_or (widths b) i 0) where
  abbrev n : ℕ
  n = total (drop (suc i) (widths b))

  from-i : w + n ≡ total (drop i (widths b))
  from-i = sym (total-from (widths b) i (omega arith) ∙ ap (λ (v : ℕ). v + n) (sym ew))

  below : w + n ≤ 32
  below = omega (arith, from-i, total-drop (widths b) i, total-widths b some, most)

  row-i : digits w (get_or (map nat_abs s) i 0) ++ row_from b s (suc i) ≡ row_from b s i
  row-i = sym (all_from (widths b) (map nat_abs s) i (omega arith) (omega (arith, sizes-length s))
      ∙ ap (λ (v : ℕ). digits v (get_or (map nat_abs s) i 0) ++ row_from b s (suc i)) (sym ew))

  more : packed_from b s (suc i) * 2 ^ w % 2 ^ 64 + nat_abs (get_or s i (pos 0)) % (1 * 2 ^ w % 2 ^ 64) ≡ packed_from b s i
  more =
      ap₂ ◌+◌ (moved_up (packed_from b s (suc i)) w n 64 (packed_lt b s (suc i)) (omega (arith, below)))
      (ap₂ (λ (x m : ℕ). x % m) (sizes-at s i) (one_shifted w 64 (omega (arith, below))))
      ∙ pack-more w n (get_or (map nat_abs s) i 0) (row_from b s (suc i))
      ∙ ap₂ (λ (m : ℕ) (row : List ℕ). number m (λ t. get_or row t 0)) from-i row-i

  small : packed_from b s i < 2 ^ 32
  small = omega (arith, packed_lt b s i, pow_mono {j = 32} (subst (λ (m : ℕ). m ≤ 32) from-i below))

pub loop-i-init : goal.loop-i-init
unfolding sum_to
loop-i-init c = refl

pub loop-i-preserved : goal.loop-i-preserved
loop-i-preserved c =
    let i = c.loop-i.i - 1 in
    let z = get_or c.args.s i (pos 0) in
    let up : c.loop-i.i ≡ suc i = omega arith in
    let back : to_z w32 (of_z w32 z) ≡ z = search rules in
    let e = c.loop-i.invariant ∙ ap (packed_from c.args.grade c.args.s) up in
    ap₂ (λ (x : ℕ) (y : ℤ). x * 2 ^ c.width-w.result % 2 ^ 64 + nat_abs y % (1 * 2 ^ c.width-w.result % 2 ^ 64)) e back
    ∙ more c.args.grade i c.width-w.result c.args.s c.requires.0 c.requires.1 (search rules) (omega arith) c.width-w.ensures

pub overflow_add-bits : goal.overflow_add-bits
overflow_add-bits c =
    let i = c.loop-i.i - 1 in
    let next = small c.args.grade i c.width-w.result c.args.s c.requires.0 c.requires.1 (search rules) (omega arith) c.width-w.ensures in
    record { fits = omega (arith, loop-i-preserved c, next) }
