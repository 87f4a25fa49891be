-- The blocks of the fillings: their coordinates, their size, and that they stand one behind the other. Assumes nothing.
use Prim.Native.Nat.{ℕ, zero, suc, ◌+◌, ◌-◌, ◌*◌, ◌/◌, ◌%◌, ◌^◌, ◌≤◌, ◌<◌}
use mathlib.Core.Path.{◌≡◌, refl, sym, ap, ◌∙◌}
use mathlib.Core.Bool.{Bool, true, false}
use mathlib.Core.List.{List, [], ◌∷◌, ◌++◌, append-nil}
use native.Mathlib.Nat.{mul-le-mul, zero-mul}
use native.Mathlib.Numerals.{add-one}
use native.Mathlib.Omega.{arith}
use native.Mathlib.Decide.{ℕ_discrete}
use lib.ListN.{length, get_or, take, drop, length-append, length-drop, drop_of_length-le, take-append-drop}
use lib.Seq.{ext_get_or, take_all, drop_at, take-append-le, drop-append-le}
use lib.Pow.{pow_mono, pow_pos}
use lib.IntN.{ℤ, pos, nat_abs, ◌+ℤ◌}
use borrow.Rule.Slice.PartMut.{put_mid}
use Rattle.integers.proofs.Zed.{`◌, #◌, ◌⊕◌, eq! }
use Rattle.bits.proofs.Sum.{sum-zero}
use Rattle.bits.proofs.Digits.{digit, digit-small, digit-none}
use Rattle.e8.specs.Energy.{energy, Within}
use Rattle.e8.specs.Lattice.{part}
use Rattle.e8.specs.Ties.{least_block_by, least_frame_by}
use Rattle.e8.proofs.Within.{within-to, within-at, within_all}
use Rattle.e8.proofs.Ties.{least_frame_by-size, least_frame_by-within, least_frame_by-part}
use Rattle.coordinates.proofs.Size.{sum-abs, less-abs}
use Rattle.frames.specs.Message.{widths}
use Rattle.frames.specs.Free.{first_least}
use Rattle.free_bits.proofs.First.{first_least-at, first_least-ext}
use Rattle.e8.proofs.Blockwise.{Made}
use Rattle.filling_search.specs.Filling.{filling_numbers, shift, shift_all, shifted_block, filled_block, filled_blocks, shaped_blocks, quiet_of, quiet_last}
use Rattle.frames.proofs.Numbers.{total}
use Rattle.leader.proofs.BlockNumbers.{numbers-at, numbers-length, numbers-below}

shift-length : (off : Bool) (a : ℕ) (ss : List ℕ) (zs : List ℤ) → length ss ≡ length zs → length (shift_all off a ss zs) ≡ length zs
shift-length off a [] zs h = h
shift-length off a (s ∷ ss) [] h = refl
shift-length off a (s ∷ ss) (z ∷ zs) h = ap suc (shift-length off a ss zs (omega arith))

shift-at : (off : Bool) (a : ℕ) (ss : List ℕ) (zs : List ℤ) → length ss ≡ length zs → (i : ℕ) → i < length zs
    → get_or (shift_all off a ss zs) i (pos 0) ≡ shift off a (get_or ss i 0) (get_or zs i (pos 0))
shift-at off a [] zs h i l = absurd (omega arith)
shift-at off a (s ∷ ss) [] h i l = absurd (omega arith)
shift-at off a (s ∷ ss) (z ∷ zs) h zero l = refl
shift-at off a (s ∷ ss) (z ∷ zs) h (suc i) l = shift-at off a ss zs (omega arith) i (omega arith)

-- the numbers of a filling are eight, each below 32
pub filling-eight : (b f φ : ℕ) → length (filling_numbers b f φ) ≡ 8
unfolding filling_numbers
filling-eight b f φ = numbers-length (digit (φ * 2 ^ (8 * b - f))) 0 (widths b)

pub filling-small : (b f φ i : ℕ) → b ≤ 4 → i < 8 → get_or (filling_numbers b f φ) i 0 < 32
unfolding filling_numbers
filling-small b f φ i high h = numbers-below (digit (φ * 2 ^ (8 * b - f))) (digit-small (φ * 2 ^ (8 * b - f))) 0 b i high h

module _ (a b f φ : ℕ) (x : List ℤ) (eight : length x ≡ 8) where
  -- a filling put in, or taken out
  pub shifted-size : (off : Bool) → length (shifted_block off a b f φ x) ≡ 8
  unfolding shifted_block
  shifted-size off = shift-length off a (filling_numbers b f φ) x (filling-eight b f φ ∙ sym eight) ∙ eight

  pub shifted_at : (off : Bool) (i : ℕ) → i < 8
      → get_or (shifted_block off a b f φ x) i (pos 0) ≡ shift off a (get_or (filling_numbers b f φ) i 0) (get_or x i (pos 0))
  unfolding shifted_block
  shifted_at off i h = shift-at off a (filling_numbers b f φ) x (filling-eight b f φ ∙ sym eight) i (omega arith)

  pub filled-size : length (filled_block a b f φ x) ≡ 8
  filled-size = shifted-size false

  pub filled_at : (i : ℕ) → i < 8 → get_or (filled_block a b f φ x) i (pos 0) ≡ get_or x i (pos 0) +ℤ pos (2 ^ a * get_or (filling_numbers b f φ) i 0)
  filled_at i h = shifted_at false i h

  -- no coordinate moves by more than 256
  module _ (few : a ≤ 3) (high : b ≤ 4) where
    by-256 : (i : ℕ) → i < 8 → 2 ^ a * get_or (filling_numbers b f φ) i 0 ≤ 256
    by-256 i h =
        let n : ℕ = get_or (filling_numbers b f φ) i 0 in
        let p : 2 ^ a ≤ 8 = pow_mono {j = 3} few in
        let low : n ≤ 32 = omega (arith, filling-small b f φ i high h) in
        mul-le-mul {n₁ = 2 ^ a} {m₁ = n} {n₂ = 8} {m₂ = 32} p low

    moved-size : (off : Bool) (s B : ℕ) (z : ℤ) → nat_abs z ≤ B → 2 ^ a * s ≤ 256 → nat_abs (shift off a s z) ≤ B + 256
    moved-size false s B z h m = sum-abs z (pos (2 ^ a * s)) B 256 h m
    moved-size true s B z h m = less-abs z (pos (2 ^ a * s)) B 256 h m

    pub shifted-within : (off : Bool) (B : ℕ) → Within B x → Within (B + 256) (shifted_block off a b f φ x)
    shifted-within off B near = within_all (B + 256) (shifted_block off a b f φ x) (λ i l.
        let h : i < 8 = omega (arith, shifted-size off) in
        rw (shifted_at off i h) (moved-size off (get_or (filling_numbers b f φ) i 0) B (get_or x i (pos 0)) (within-at B x i near) (by-256 i h)))

  pub filled_within : a ≤ 3 → b ≤ 4 → Within (2 ^ 9) x → Within (2 ^ 10) (filled_block a b f φ x)
  filled_within few high near =
      within-to (2 ^ 9 + 256) (2 ^ 10) (filled_block a b f φ x) (omega arith) (shifted-within few high false (2 ^ 9) near)

-- ---- all fillings

within-append : (B : ℕ) (xs ys : List ℤ) → Within B xs → Within B ys → Within B (xs ++ ys)
within-append B [] ys hx hy = hy
within-append B (x ∷ xs) ys hx hy = (hx.0, within-append B xs ys hx.1 hy)

part-append : (xs ys : List ℤ) (j : ℕ) → 8 * j + 8 ≤ length xs → part j (xs ++ ys) ≡ part j xs
part-append xs ys j h =
    ap (take 8) (drop-append-le (8 * j) xs ys (omega arith)) ∙ take-append-le 8 (drop (8 * j) xs) ys (simp length-drop (omega arith))

module _ (a b f : ℕ) (x : List ℤ) (eight : length x ≡ 8) where
  pub filled-made : (n : ℕ) → Made n (λ j. filled_block a b f j x) (filled_blocks a b f x)
  unfolding filled_blocks
  filled-made n = record { none = refl; more = λ j. rw (add-one j) refl; eight = λ j h. filled-size a b f j x eight }

  pub all-length : (n : ℕ) → length (filled_blocks a b f x n) ≡ 8 * n
  unfolding filled_blocks
  all-length zero = refl
  all-length (suc n) =
      length-append (filled_blocks a b f x n) (filled_block a b f n x) ∙ omega (arith, all-length n, filled-size a b f n x eight)

  pub all-within : a ≤ 3 → b ≤ 4 → Within (2 ^ 9) x → (n : ℕ) → Within (2 ^ 10) (filled_blocks a b f x n)
  unfolding filled_blocks
  all-within few high near zero = tt
  all-within few high near (suc n) = within-append (2 ^ 10) (filled_blocks a b f x n) (filled_block a b f n x) (all-within few high near n)
      (filled_within a b f n x eight few high near)

  -- block j is that of the filling j
  pub all-part : (n j : ℕ) → j < n → part j (filled_blocks a b f x n) ≡ filled_block a b f j x
  unfolding filled_blocks
  all-part zero j h = absurd (omega arith)
  all-part (suc n) j h = go (all-part n j) (ℕ_discrete j n)
    where
      B : List ℤ
      B = filled_blocks a b f x n

      go : (j < n → part j B ≡ filled_block a b f j x) → Dec (j ≡ n) → part j (B ++ filled_block a b f n x) ≡ filled_block a b f j x
      go ih (yes e) =
          ap (take 8) (drop_at B (filled_block a b f n x) (8 * j) (omega (arith, all-length n)))
          ∙ take_all 8 (filled_block a b f n x) (omega (arith, filled-size a b f n x eight)) ∙ ap (λ (i : ℕ). filled_block a b f i x) (sym e)
      go ih (no ne) = part-append B (filled_block a b f n x) j (omega (arith, all-length n, ne)) ∙ ih (omega (arith, ne))

-- one of them is taken
pub quiet-below : (a b f : ℕ) (x : List ℤ) → quiet_of a b f x < 2 ^ f
unfolding quiet_of
quiet-below a b f x = (first_least-at (λ φ. energy (least_block_by false (2 ^ (a + b - 1)) (filled_block a b f φ x))) (2 ^ f) (pow_pos f)).below

-- ---- shaped, they are the least blocks of the fillings

module _ (a b f : ℕ) (x : List ℤ) (eight : length x ≡ 8) (some : 1 ≤ a) (few : a ≤ 3) (low : 1 ≤ b) (high : b ≤ 4) (free : f ≤ 4)
    (near : Within (2 ^ 9) x) where
  abbrev H : ℕ
  H = 2 ^ (a + b - 1)

  abbrev all : List ℤ
  all = filled_blocks a b f x (2 ^ f)

  long : length all ≡ 8 * 2 ^ f
  long = all-length a b f x eight (2 ^ f)

  -- there are 1 to 16
  counted : (1 ≤ 2 ^ f) × (2 ^ f ≤ 16)
  counted = (pow_pos f, pow_mono {j = 4} free)

  -- what `shape` asks
  pub all_take : (length all % 8 ≡ 0) × (length all ≤ 1024) × Within (2 ^ 24) all × (8 ≤ length all)
  all_take = (
    omega (arith, long),
    omega (arith, long, counted),
    within-to (2 ^ 10) (2 ^ 24) all (omega arith) (all-within a b f x eight few high near (2 ^ f)),
    omega (arith, long, counted),
  )

  -- and gives
  pub shaped-is : least_frame_by false H (length all / 8) all ≡ shaped_blocks a b f x
  unfolding shaped_blocks
  shaped-is = let n : length all / 8 ≡ 2 ^ f = omega (arith, long) in ap (λ (m : ℕ). least_frame_by false H m all) n

  shaped-size : length (shaped_blocks a b f x) ≡ 8 * 2 ^ f
  unfolding shaped_blocks
  shaped-size = least_frame_by-size H (pow_pos (a + b - 1)) false (2 ^ f) all long

  shaped-near : Within (2 ^ 10) (shaped_blocks a b f x)
  unfolding shaped_blocks
  shaped-near = within-to (2 * H) (2 ^ 10) (least_frame_by false H (2 ^ f) all) (omega (arith, pow_mono {i = a + b - 1} {j = 6} (omega arith)))
      (least_frame_by-within H (pow_pos (a + b - 1)) false (2 ^ f) all)

  shaped-part : (j : ℕ) → j < 2 ^ f → part j (shaped_blocks a b f x) ≡ least_block_by false H (filled_block a b f j x)
  unfolding shaped_blocks
  shaped-part j h = least_frame_by-part H (pow_pos (a + b - 1)) false (2 ^ f) all long j h ∙ ap (least_block_by false H) (all-part a b f x eight (2 ^ f) j h)

  -- what `first_least` asks
  pub shaped-takes : let y = shaped_blocks a b f x in (length y % 8 ≡ 0) × (8 ≤ length y) × (length y ≤ 1024) × Within (2 ^ 10) y
  shaped-takes = (omega (arith, shaped-size), omega (arith, shaped-size, counted), omega (arith, shaped-size, counted), shaped-near)

  -- and what it finds
  pub shaped-first : let y = shaped_blocks a b f x in first_least (λ j. energy (part j y)) (length y / 8) ≡ quiet_of a b f x
  unfolding quiet_of
  shaped-first =
      let n : length (shaped_blocks a b f x) / 8 ≡ 2 ^ f = omega (arith, shaped-size) in
      ap (first_least (λ j. energy (part j (shaped_blocks a b f x)))) n ∙ first_least-ext (2 ^ f) (λ j h. ap energy (shaped-part j h))

-- ---- a last block

module _ (l : List ℤ) (some : 8 ≤ length l) where
  abbrev s : ℕ
  s = length l - 8

  pub last_block : take (s + 8 - s) (drop s l) ≡ drop s l
  last_block = take_all (s + 8 - s) (drop s l) (simp length-drop (omega arith))

  behind : drop (s + 8 - s) (drop s l) ≡ []
  behind = drop_of_length-le (drop s l) {i = s + 8 - s} (simp length-drop (omega arith))

  pub put_last : (y : List ℤ) → put_mid s (s + 8 - s) l y ≡ take s l ++ y
  put_last y = ap (λ (t : List ℤ). take s l ++ (y ++ t)) behind ∙ ap (λ (t : List ℤ). take s l ++ t) (append-nil y)

-- ---- where no bit is free, nothing is put

no_number : (b o : ℕ) → o < 8 → get_or (filling_numbers b 0 0) o 0 ≡ 0
unfolding filling_numbers
no_number b o l = numbers-at (digit (0 * 2 ^ (8 * b - 0))) 0 (widths b) o l ∙ sum-zero (get_or (widths b) o 0) _ (λ i h.
    ap (λ (x : ℕ). digit x (0 + total (take o (widths b)) + i) * 2 ^ i) (zero-mul (2 ^ (8 * b - 0)))
    ∙ ap (λ (d : ℕ). d * 2 ^ i) (digit-none (0 + total (take o (widths b)) + i)) ∙ zero-mul (2 ^ i))

none_filled : (a b : ℕ) (x : List ℤ) → length x ≡ 8 → filled_block a b 0 0 x ≡ x
none_filled a b x eight = ext_get_or (pos 0) _ x (filled-size a b 0 0 x eight ∙ sym eight) (λ o l.
    let h : o < 8 = omega (arith, l, filled-size a b 0 0 x eight) in
    filled_at a b 0 0 x eight o h ∙ ap (λ (n : ℕ). get_or x o (pos 0) +ℤ pos (2 ^ a * n)) (no_number b o h) ∙ same (get_or x o (pos 0)))
  where
    same : (z : ℤ) → z +ℤ pos (2 ^ a * 0) ≡ z
    same z = eq! (` z ⊕ # (2 ^ a * 0)) (` z) (omega arith)

pub none_last : (a b : ℕ) (l : List ℤ) → 8 ≤ length l → quiet_last a b 0 l ≡ l
unfolding quiet_last
none_last a b l some =
    let x : List ℤ = drop (length l - 8) l in
    let zero-filling : quiet_of a b 0 x ≡ 0 = omega (arith, quiet-below a b 0 x) in
    ap (λ (y : List ℤ). take (length l - 8) l ++ y) (ap (λ (φ : ℕ). filled_block a b 0 φ x) zero-filling ∙ none_filled a b x (simp length-drop (omega arith)))
    ∙ take-append-drop (length l - 8) l

-- a filling of no bits changes nothing
pub unfilled : (a b f : ℕ) (l : List ℤ) → f ≡ 0 → 8 ≤ length l → l ≡ quiet_last a b f l
unfilled a b f l none h = sym (ap (λ (n : ℕ). quiet_last a b n l) none ∙ none_last a b l h)
