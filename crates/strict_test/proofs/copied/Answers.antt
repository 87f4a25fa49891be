-- Part by part, until the frame's length.
use Rattle.std.proofs.Common.{◌≡◌, ℕ, ◌^◌, ◌≤◌, List, ◌++◌, length, take, drop, refl, sym, ◌∙◌, ℤ, arith}
use lib.Pow.{pow_mono}
use Rattle.frames.proofs.Limits.{kind-low, kind-high}
use Rattle.strict_test.proofs.Copy.{Copied, copy-long, copy-begun, copy-whole}
use Rattle.strict_test.proofs.copied.Goals as goal

-- a frame of a kind from m on has 2 ^ m coordinates and more
at_least : {n k : ℕ} (m : ℕ) → n ≡ 2 ^ k → m ≤ k → 2 ^ m ≤ n
at_least {k = k} m e h = omega (arith, pow_mono {j = k} h)

-- and of a kind up to m no more
at_most : {n k : ℕ} (m : ℕ) → n ≡ 2 ^ k → k ≤ m → n ≤ 2 ^ m
at_most {k = k} m e h = omega (arith, pow_mono {i = k} {j = m} h)

part : {f g y : List ℤ} {k : ℕ} (m n : ℕ) → length f ≡ 2 ^ k → m ≤ k → n ≡ 2 ^ m → length g ≡ length f → y ≡ take n f ++ drop n g → Copied f g y n
part m n l h e same is = record { room = omega (arith, at_least m l h); same = same; is = is }

pub copy_part-requires : goal.copy_part-requires
copy_part-requires c =
    let low = kind-low c.args.kind c.requires.0 in
    (omega arith, at_least 3 c.requires.1 low, c.requires.2 ∙ sym c.requires.1, refl)

pub copy_part-requires-2 : goal.copy_part-requires-2
copy_part-requires-2 c =
    let low = kind-low c.args.kind c.requires.0 in
    let long = c.requires.2 ∙ sym c.requires.1 in
    let to-8 = part 3 8 c.requires.1 low refl long c.copy_part.ensures in
    (omega arith, at_least 4 c.requires.1 (omega arith), copy-long to-8, copy-begun to-8)

pub copy_part-requires-3 : goal.copy_part-requires-3
copy_part-requires-3 c =
    let low = kind-low c.args.kind c.requires.0 in
    let long = c.requires.2 ∙ sym c.requires.1 in
    let to-8 = part 3 8 c.requires.1 low refl long c.copy_part.ensures in
    let to-16 = part 4 16 c.requires.1 (omega arith) refl (copy-long to-8) c.copy_part-2.ensures in
    (omega arith, at_least 5 c.requires.1 (omega arith), copy-long to-16, copy-begun to-16)

pub copy_part-requires-4 : goal.copy_part-requires-4
copy_part-requires-4 c =
    let low = kind-low c.args.kind c.requires.0 in
    let long = c.requires.2 ∙ sym c.requires.1 in
    let to-8 = part 3 8 c.requires.1 low refl long c.copy_part.ensures in
    let to-16 = part 4 16 c.requires.1 (omega arith) refl (copy-long to-8) c.copy_part-2.ensures in
    let to-32 = part 5 32 c.requires.1 (omega arith) refl (copy-long to-16) c.copy_part-3.ensures in
    (omega arith, at_least 6 c.requires.1 (omega arith), copy-long to-32, copy-begun to-32)

pub returns-then-kind-eq4 : goal.returns-then-kind-eq4
returns-then-kind-eq4 c =
    let low = kind-low c.args.kind c.requires.0 in
    let long = c.requires.2 ∙ sym c.requires.1 in
    let to-8 = part 3 8 c.requires.1 low refl long c.copy_part.ensures in
    let to-16 = part 4 16 c.requires.1 (omega arith) refl (copy-long to-8) c.copy_part-2.ensures in
    copy-whole to-16 (at_most 4 c.requires.1 (omega arith))

pub returns-then-kind-eq5 : goal.returns-then-kind-eq5
returns-then-kind-eq5 c =
    let low = kind-low c.args.kind c.requires.0 in
    let long = c.requires.2 ∙ sym c.requires.1 in
    let to-8 = part 3 8 c.requires.1 low refl long c.copy_part.ensures in
    let to-16 = part 4 16 c.requires.1 (omega arith) refl (copy-long to-8) c.copy_part-2.ensures in
    let to-32 = part 5 32 c.requires.1 (omega arith) refl (copy-long to-16) c.copy_part-3.ensures in
    copy-whole to-32 (at_most 5 c.requires.1 (omega arith))

pub returns : goal.returns
returns c =
    let low = kind-low c.args.kind c.requires.0 in
    let long = c.requires.2 ∙ sym c.requires.1 in
    let to-8 = part 3 8 c.requires.1 low refl long c.copy_part.ensures in
    let to-16 = part 4 16 c.requires.1 (omega arith) refl (copy-long to-8) c.copy_part-2.ensures in
    let to-32 = part 5 32 c.requires.1 (omega arith) refl (copy-long to-16) c.copy_part-3.ensures in
    let to-64 = part 6 64 c.requires.1 (omega arith) refl (copy-long to-32) c.copy_part-4.ensures in
    copy-whole to-64 (at_most 6 c.requires.1 (kind-high c.args.kind c.requires.0))
