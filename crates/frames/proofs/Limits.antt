-- THE LIMITS that the table of kinds sets, which proofs share: each by one test over the rows. Assumes nothing.
use Prim.Native.Nat.{ℕ, zero, suc, ◌+◌, ◌*◌, ◌%◌, ◌^◌, ◌≤◌, ◌<◌}
use mathlib.Core.Path.{◌≡◌, refl, ap, subst}
use mathlib.Core.Bool.{Bool, true, false, ◌&&◌, ◌||◌, cond, true≢false}
use mathlib.Core.List.{List, [], ◌∷◌}
use native.Mathlib.Nat.{zero-add, mul-le-mul, mul-le-mul_left}
use native.Mathlib.Omega.{arith}
use lib.Count.{ones}
use lib.Dec.{eqb, leb, ltb}
use lib.ListN.{length, get_or, take}
use borrow.Author.Tests.{leb-true, lt-ltb}
use Rattle.bits.specs.Number.{table}
use Rattle.reed_muller.specs.Level.{dimension, masks, of_weight, Tabled}
use Rattle.e8.proofs.Within.{and_both}
use Rattle.frames.specs.Kind.{Row, kinds, broken_numbers, broken_number, listed, is_kind, is_grade, degrees_in, degrees, levels, blocks}
use Rattle.frames.specs.Kind.{dimensions, level_bits, message_bits, message_bytes, scale}
use Rattle.frames.specs.Frame.{least_distance}
use Rattle.frames.proofs.Levels.{Fit, apart_by}
use Rattle.frames.proofs.Class.{Shape}
use Rattle.frames.proofs.Rows.{each_row, each-row-and-grade, row-le, row-eq}

-- ---- levels

pub some_level : (k : ℕ) → is_kind k ≡ true → 1 ≤ levels k
unfolding levels degrees kinds
some_level = row-le (λ k. 1) levels refl

pub few-levels : (k : ℕ) → is_kind k ≡ true → levels k ≤ 3
unfolding levels degrees kinds
few-levels = row-le levels (λ k. 3) refl

-- a number that is in no row has no level, and so a kind is what has one
unlisted : (k : ℕ) (rows : List Row) → listed k rows ≡ false → degrees_in k rows ≡ []
unlisted k [] e = refl
unlisted k (row ∷ rows) e = go (eqb k row.kind) (unlisted k rows) e
  where
    go : (t : Bool) → (listed k rows ≡ false → degrees_in k rows ≡ []) → (t || listed k rows) ≡ false → cond t row.degrees (degrees_in k rows) ≡ []
    go true later e = absurd (true≢false e)
    go false later e = later e

pub kind-has-level : (k : ℕ) → ltb 0 (levels k) ≡ is_kind k
unfolding levels degrees is_kind
kind-has-level k = go (listed k kinds) refl
  where
    go : (t : Bool) → listed k kinds ≡ t → ltb 0 (length (degrees_in k kinds)) ≡ t
    go true e = lt-ltb 0 (length (degrees_in k kinds)) (some_level k e)
    go false e = ap (λ (rs : List ℕ). ltb 0 (length rs)) (unlisted k kinds e)

-- every kind has a number for each of its levels
pub levels-numbered : (k : ℕ) → is_kind k ≡ true → levels k ≤ length broken_numbers
unfolding levels degrees kinds
levels-numbered = row-le levels (λ k. length broken_numbers) refl

-- and none of these numbers is 0, which is success
pub number-refuses : (i : ℕ) → i < length broken_numbers → 1 ≤ broken_number i
number-refuses i h = go broken_numbers refl i h
  where
    each : List ℕ → Bool
    each [] = true
    each (n ∷ ns) = leb 1 n && each ns

    go : (ns : List ℕ) → each ns ≡ true → (i : ℕ) → i < length ns → 1 ≤ get_or ns i 0
    go [] e i h = absurd (omega arith)
    go (n ∷ ns) e zero h = leb-true 1 n (and_both (leb 1 n) (each ns) e).0
    go (n ∷ ns) e (suc i) h = go ns (and_both (leb 1 n) (each ns) e).1 i (omega arith)

-- ---- coordinates

pub kind-low : (k : ℕ) → is_kind k ≡ true → 3 ≤ k
unfolding kinds
kind-low = row-le (λ k. 3) (λ k. k) refl

pub kind-high : (k : ℕ) → is_kind k ≡ true → k ≤ 6
unfolding kinds
kind-high = row-le (λ k. k) (λ k. 6) refl

-- the lengths have tables of masks
pub tabled : (k : ℕ) → is_kind k ≡ true → Tabled k
tabled k kind = (kind-low k kind, kind-high k kind)

pub few-positions : (k : ℕ) → is_kind k ≡ true → 2 ^ k ≤ 64
unfolding kinds
few-positions = row-le (λ k. 2 ^ k) (λ k. 64) refl

pub whole-blocks : (k : ℕ) → is_kind k ≡ true → 8 * blocks k ≡ 2 ^ k
unfolding kinds
whole-blocks = row-eq (λ k. 8 * blocks k) (λ k. 2 ^ k) refl

pub some_block : (k : ℕ) → is_kind k ≡ true → 1 ≤ blocks k
unfolding kinds
some_block = row-le (λ k. 1) blocks refl

-- the distances 4, 8, 16, 32 are the least of 4^i·2^(m−r) over the levels, and of 4^a
pub distances : (k : ℕ) → is_kind k ≡ true → apart_by k (degrees k) ≡ least_distance k
unfolding degrees kinds
distances = row-eq (λ k. apart_by k (degrees k)) least_distance refl

-- ---- degrees

-- the degrees rs are at most m
abbrev fits : ℕ → List ℕ → Bool
fits m [] = true
fits m (r ∷ rs) = leb r m && fits m rs

fits-fit : (m : ℕ) (rs : List ℕ) → fits m rs ≡ true → Fit m rs
fits-fit m [] e = tt
fits-fit m (r ∷ rs) e = let t = and_both (leb r m) (fits m rs) e in (leb-true r m t.0, fits-fit m rs t.1)

-- what the laws need of a kind
pub shape : (k : ℕ) → is_kind k ≡ true → Shape k
unfolding degrees kinds
shape k kind = record { fit = fits-fit k (degrees k) (each_row (λ k. fits k (degrees k)) refl k kind); whole = whole-blocks k kind }

fit_at : (m : ℕ) (rs : List ℕ) → Fit m rs → (i : ℕ) → i < length rs → get_or rs i 0 ≤ m
fit_at m [] h i l = absurd (omega arith)
fit_at m (r ∷ rs) h zero l = h.0
fit_at m (r ∷ rs) h (suc i) l = fit_at m rs h.1 i (omega arith)

-- the degrees of a kind are at most the kind
pub degree-fits : (k : ℕ) → is_kind k ≡ true → (i : ℕ) → i < levels k → get_or (degrees k) i 0 ≤ k
unfolding levels
degree-fits k kind i h = fit_at k (degrees k) (shape k kind).fit i h

-- ---- message bits

pub few-level-bits : (k : ℕ) → is_kind k ≡ true → level_bits k ≤ 112
unfolding level_bits degrees kinds dimension masks of_weight table ones
few-level-bits = row-le level_bits (λ k. 112) refl

-- at most 256 bits for the coordinates, and 368 in all
pub coordinate-bits : (k b : ℕ) → is_kind k ≡ true → b ≤ 4 → 2 ^ k * b ≤ 256
coordinate-bits k b kind h = mul-le-mul (few-positions k kind) h

pub few-message-bits : (k b : ℕ) → is_kind k ≡ true → b ≤ 4 → message_bits k b ≤ 368
unfolding message_bits
few-message-bits k b kind h = omega (arith, few-level-bits k kind, coordinate-bits k b kind h)

-- a message has at least one byte
pub some_bits : (k b : ℕ) → is_kind k ≡ true → is_grade b ≡ true → 8 ≤ message_bits k b
unfolding message_bits level_bits degrees kinds dimension masks of_weight table ones
some_bits k b kind grade = leb-true 8 (message_bits k b) (each-row-and-grade (λ k b. leb 8 (message_bits k b)) refl k b kind grade)

-- the bytes hold the bits, and those of the levels
pub bytes-hold : (k b : ℕ) → message_bits k b ≤ 8 * message_bytes k b
unfolding message_bytes
bytes-hold k b = omega arith

pub levels-hold : (k b : ℕ) → level_bits k ≤ 8 * message_bytes k b
unfolding message_bits
levels-hold k b = omega (arith, bytes-hold k b)

-- ---- pieces of a message, taken and put as one number

-- a piece of `count` bits from bit `from` on, of a message of `bits` bits: a number holds it, also with the bits before it in its first byte
pub record Piece (from count bits : ℕ) : Type 0 where
  pub few : count ≤ 63
  pub word : from % 8 + count ≤ 64
  pub inside : from + count ≤ bits

-- the pieces of levels of the degrees rs, from bit `from` on: each level begins where the one before ends
abbrev held : ℕ → ℕ → List ℕ → Bool
held m from [] = true
held m from (r ∷ rs) = (leb (dimension r m) 63 && leb (from % 8 + dimension r m) 64) && held m (from + dimension r m) rs

held-piece : (m from : ℕ) (rs : List ℕ) → held m from rs ≡ true → (i : ℕ) → i < length rs
    → Piece (from + dimensions m (take i rs)) (dimension (get_or rs i 0) m) (from + dimensions m rs)
held-piece m from [] e i h = absurd (omega arith)
held-piece m from (r ∷ rs) e zero h =
    let t = (and_both (leb (dimension r m) 63 && leb (from % 8 + dimension r m) 64) (held m (from + dimension r m) rs) e).0 in
    let s = and_both (leb (dimension r m) 63) (leb (from % 8 + dimension r m) 64) t in
    let here : from ≡ from + 0 = omega arith in
    subst (λ (f : ℕ). Piece f (dimension r m) (from + (dimension r m + dimensions m rs))) here (record {
      few = leb-true (dimension r m) 63 s.0;
      word = leb-true (from % 8 + dimension r m) 64 s.1;
      inside = omega arith;
    })
held-piece m from (r ∷ rs) e (suc i) h =
    let t = (and_both (leb (dimension r m) 63 && leb (from % 8 + dimension r m) 64) (held m (from + dimension r m) rs) e).1 in
    let p = held-piece m (from + dimension r m) rs t i (omega arith) in
    let here : from + dimension r m + dimensions m (take i rs) ≡ from + (dimension r m + dimensions m (take i rs)) = omega arith in
    subst (λ (f : ℕ). Piece f (dimension (get_or rs i 0) m) (from + (dimension r m + dimensions m rs))) here (record {
      few = p.few;
      word = p.word;
      inside = omega (arith, p.inside);
    })

levels-held : (k : ℕ) → is_kind k ≡ true → held k 0 (degrees k) ≡ true
unfolding degrees kinds dimension masks of_weight table ones
levels-held = each_row (λ k. held k 0 (degrees k)) refl

-- level i: its bits stand behind those of the levels before it
pub level-piece : (k i : ℕ) → is_kind k ≡ true → i < levels k → Piece (dimensions k (take i (degrees k))) (dimension (get_or (degrees k) i 0) k) (level_bits k)
unfolding levels level_bits
level-piece k i kind h = simp zero-add at (held-piece k 0 (degrees k) (levels-held k kind) i h)

-- the bits of block j are among those of the message
pub block_room : (k b j : ℕ) → is_kind k ≡ true → j < blocks k → level_bits k + 8 * b * j + 8 * b ≤ message_bits k b
unfolding message_bits
block_room k b j kind h =
    let l : j + 1 ≤ blocks k = omega arith in
    omega (arith, mul-le-mul_left (8 * b) l, ap (λ (n : ℕ). n * b) (whole-blocks k kind))

-- block j
pub block-piece : (k b j : ℕ) → is_kind k ≡ true → b ≤ 4 → j < blocks k → Piece (level_bits k + 8 * b * j) (8 * b) (message_bits k b)
block-piece k b j kind high h = record { few = omega arith; word = omega arith; inside = block_room k b j kind h }

-- ---- grades

-- one that is none of the first three
pub last-grade : {b : ℕ} → 1 ≤ b → b ≤ 4 → (b ≡ 1 → ⊥) → (b ≡ 2 → ⊥) → (b ≡ 3 → ⊥) → 4 ≡ b
last-grade l h x y z = omega arith

-- ---- the scale

pub scale-128 : (k b : ℕ) → is_kind k ≡ true → is_grade b ≡ true → scale k b ≤ 128
unfolding scale levels degrees kinds
scale-128 k b kind grade = leb-true (scale k b) 128 (each-row-and-grade (λ k b. leb (scale k b) 128) refl k b kind grade)
