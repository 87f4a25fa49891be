-- THE FREE BITS STAND IN THE LAST BLOCK: the fillings of a message share every block of the leader and of the sent frame but the last, so the first quiet
-- filling is found there. For every kind of the table, every grade, free count and number. Assumes nothing.
use Prim.Native.Nat.{ℕ, zero, suc, ◌+◌, ◌-◌, ◌*◌, ◌/◌, ◌%◌, ◌^◌, ◌≤◌, ◌<◌}
use mathlib.Core.Path.{◌≡◌, refl, sym, ap, ap₂, ◌∙◌, fun_ext}
use mathlib.Core.Bool.{Bool, true}
use mathlib.Core.List.{List, [], ◌∷◌, ◌++◌}
use native.Mathlib.Nat.{mul-le-mul_left, le_trans, max-le, le-max_left, le-max_right, le_of_eq, le_antisymm}
use native.Mathlib.Decide.{dec_lt}
use native.Mathlib.Omega.{arith}
use lib.ListN.{length, get_or}
use lib.Seq.{ext_get_or}
use lib.Pow.{pow_pos}
use lib.IntN.{ℤ, pos}
use Rattle.bits.specs.Message.{message_bit}
use Rattle.bits.proofs.Sum.{sum-ext}
use Rattle.reed_muller.specs.Level.{dimension}
use Rattle.reed_muller.proofs.Codeword.{codeword-cong}
use Rattle.e8.specs.Energy.{energy}
use Rattle.e8.specs.Lattice.{part}
use Rattle.e8.specs.Largest.{largest_to, largest_block}
use Rattle.e8.specs.Ties.{least_block_by, least_frame_by}
use Rattle.e8.proofs.Order.{energy-append}
use Rattle.e8.proofs.Ties.{least_frame_by-none, least_frame_by-snoc, least_frame_by-part}
use Rattle.frames.specs.Kind.{is_kind, is_grade, degrees, blocks, dimensions, level_bits, message_bits}
use Rattle.frames.specs.Message.{widths, numbers, block_numbers, stacked, coordinate, leader}
use Rattle.frames.specs.Frame.{half, is_odd, numbered_frame}
use Rattle.frames.specs.Free.{is_free_count, free_from, filled, filled_frame, Quiet, first_least, quiet_filling, quiet_frame}
use Rattle.frames.specs.Demands.{SameTaken, QuietSent}
use Rattle.frames.proofs.Numbers.{total, total-widths}
use Rattle.frames.proofs.Frame.{part_length, part_at}
use Rattle.frames.proofs.One.{leader-at}
use Rattle.frames.proofs.Rows.{grade-low}
use Rattle.frames.proofs.Limits.{some_block, whole-blocks}
use Rattle.frames.proofs.Demands.{half_pos, leader-blocks}
use Rattle.frames.proofs.Numbered.{same-largest-sent}
use Rattle.free_bits.proofs.First.{IsFirst, first_least-at, first-only}
use Rattle.free_bits.proofs.Filled.{filled-fixed}
use Rattle.free_bits.proofs.Fillings.{free-few, quiet_is, quiet-energy, same-filling, quiet-either, filled-frame-long}

-- ---- what hangs on the first bits alone

stacked-cong : (m : ℕ) (rs : List ℕ) (bit bit' : ℕ → ℕ) (from s p : ℕ) → ((t : ℕ) → t < dimensions m rs → bit (from + t) ≡ bit' (from + t))
    → stacked m rs bit from s p ≡ stacked m rs bit' from s p
unfolding stacked
stacked-cong m [] bit bit' from s p h = refl
stacked-cong m (r ∷ rs) bit bit' from s p h = ap₂ (λ (c t : ℕ). c + 2 * t)
    (codeword-cong r m (λ i. bit (from + i)) (λ i. bit' (from + i)) (λ i l. ap (λ (n : ℕ). n % 2) (h i (omega arith))) p)
    (stacked-cong m rs bit bit' (from + dimension r m) s p (λ t l. later t l))
  where
    later : (t : ℕ) → t < dimensions m rs → bit (from + dimension r m + t) ≡ bit' (from + dimension r m + t)
    later t l =
        let a : from + dimension r m + t ≡ from + (dimension r m + t) = omega arith in
        ap bit a ∙ h (dimension r m + t) (omega arith) ∙ ap bit' (sym a)

numbers-cong : (ws : List ℕ) (bit bit' : ℕ → ℕ) (from : ℕ) → ((o : ℕ) → o < total ws → bit (from + o) ≡ bit' (from + o))
    → numbers bit from ws ≡ numbers bit' from ws
unfolding numbers
numbers-cong [] bit bit' from h = refl
numbers-cong (w ∷ ws) bit bit' from h = ap₂ ◌∷◌ (sum-ext w (λ i l. ap (λ (n : ℕ). n * 2 ^ i) (h i (omega arith)))) (numbers-cong ws bit bit' (from + w) later)
  where
    later : (o : ℕ) → o < total ws → bit (from + w + o) ≡ bit' (from + w + o)
    later o l =
        let a : from + w + o ≡ from + (w + o) = omega arith in
        ap bit a ∙ h (w + o) (omega arith) ∙ ap bit' (sym a)

levels-are : (k : ℕ) → level_bits k ≡ dimensions k (degrees k)
unfolding level_bits
levels-are k = refl

module _ (k b : ℕ) (low : 1 ≤ b) (x y : List ℕ) (j : ℕ) (agree : (i : ℕ) → i < level_bits k + 8 * b * j → message_bit x i ≡ message_bit y i) where
  numbers-same : (i : ℕ) → i < j → block_numbers k b x i ≡ block_numbers k b y i
  unfolding block_numbers
  numbers-same i h = numbers-cong (widths b) (message_bit x) (message_bit y) (level_bits k + 8 * b * i)
      (λ o l. agree (level_bits k + 8 * b * i + o) (let s : i + 1 ≤ j = omega arith in omega (arith, mul-le-mul_left (8 * b) s, total-widths b low)))

  pub coordinate-same : (p : ℕ) → p < 8 * j → coordinate k b x p ≡ coordinate k b y p
  unfolding coordinate
  coordinate-same p h =
      ap (λ (l : List ℕ). stacked k (degrees k) (message_bit x) 0 (get_or l (p % 8) 0) p) (numbers-same (p / 8) (omega arith))
      ∙ stacked-cong k (degrees k) (message_bit x) (message_bit y) 0 (get_or (block_numbers k b y (p / 8)) (p % 8) 0) p (λ t l. first t l)
    where
      first : (t : ℕ) → t < dimensions k (degrees k) → message_bit x (0 + t) ≡ message_bit y (0 + t)
      first t l = agree (0 + t) (omega (arith, levels-are k))

  -- messages that agree in the bits of the levels and of the first j blocks have these blocks of their leaders in common
  pub leader-begin : is_kind k ≡ true → j ≤ blocks k → (i : ℕ) → i < j → part i (leader k b x) ≡ part i (leader k b y)
  leader-begin kind jn i h = ext_get_or (pos 0) (part i (leader k b x)) (part i (leader k b y)) (lx ∙ sym ly)
      (λ o l. let s : o < 8 = omega (arith, l, lx) in
      part_at (leader k b x) (blocks k) i (leader-blocks k b kind x) inside o s
      ∙ leader-at k b x (8 * i + o) (omega (arith, whole-blocks k kind)) ∙ ap pos (coordinate-same (8 * i + o) (omega arith))
      ∙ sym (leader-at k b y (8 * i + o) (omega (arith, whole-blocks k kind)))
      ∙ sym (part_at (leader k b y) (blocks k) i (leader-blocks k b kind y) inside o s))
    where
      inside : i < blocks k
      inside = omega arith

      lx : length (part i (leader k b x)) ≡ 8
      lx = part_length (leader k b x) (blocks k) i (leader-blocks k b kind x) inside

      ly : length (part i (leader k b y)) ≡ 8
      ly = part_length (leader k b y) (blocks k) i (leader-blocks k b kind y) inside

-- blocks of less energy, one by one, and the largest of them
largest-mono : (f g : List ℤ) (n : ℕ) → ((i : ℕ) → i < n → energy (part i f) ≤ energy (part i g)) → largest_to n f ≤ largest_to n g
unfolding largest_to
largest-mono f g zero h = omega arith
largest-mono f g (suc n) h = max-le (le_trans (largest-mono f g n (λ i l. h i (omega arith))) (le-max_left (largest_to n g) (energy (part n g))))
    (le_trans (h n (omega arith)) (le-max_right (largest_to n g) (energy (part n g))))

-- the sent blocks hang on the leader's blocks
least-begin : (odd : Bool) (H n : ℕ) (x y : List ℤ) → ((i : ℕ) → i < n → part i x ≡ part i y) → least_frame_by odd H n x ≡ least_frame_by odd H n y
least-begin odd H zero x y h = least_frame_by-none odd H x ∙ sym (least_frame_by-none odd H y)
least-begin odd H (suc n) x y h =
    least_frame_by-snoc odd H n x ∙ ap₂ (λ a c. a ++ least_block_by odd H c) (least-begin odd H n x y (λ i l. h i (omega arith))) (h n (omega arith))
    ∙ sym (least_frame_by-snoc odd H n y)

-- ---- the fillings of a message

-- a search is not changed by what every number adds
shifted : (c : ℕ) (e : ℕ → ℕ) (n : ℕ) → 0 < n → first_least (λ i. c + e i) n ≡ first_least e n
shifted c e n h = first-only (λ i. c + e i) n (first_least (λ i. c + e i) n) (first_least e n) (first_least-at (λ i. c + e i) n h)
    (let s : IsFirst e n (first_least e n) = first_least-at e n h in record {
      below = s.below;
      least = λ i l. omega (arith, s.least i l);
      first = λ i l. omega (arith, s.first i l);
    })

module _ (k b f number : ℕ) (kind : is_kind k ≡ true) (low : 1 ≤ b) (few : f ≤ 4) (bytes : List ℕ) where
  abbrev odd : Bool
  odd = is_odd number

  -- the number of blocks before the last
  abbrev before : ℕ
  before = blocks k - 1

  pub behind : level_bits k + 8 * b * before ≤ free_from k b f
  unfolding free_from message_bits
  behind =
      let e : blocks k ≡ before + 1 = omega (arith, some_block k kind) in
      omega (arith, ap (λ (n : ℕ). n * b) (whole-blocks k kind), ap (λ (n : ℕ). 8 * b * n) e, low)

  -- the blocks of the sent frame before the last, which no filling changes
  abbrev pub fixed_blocks : List ℤ
  fixed_blocks = least_frame_by odd (half k b) before (leader k b bytes)

  -- the last one
  abbrev pub last_block : ℕ → List ℤ
  last_block φ = least_block_by odd (half k b) (part before (leader k b (filled k b f φ bytes)))

  pub filled_frame-is : (φ : ℕ) → filled_frame k b f number bytes φ ≡ fixed_blocks ++ last_block φ
  unfolding filled_frame numbered_frame
  filled_frame-is φ =
      ap (λ (n : ℕ). least_frame_by odd (half k b) n L) e ∙ least_frame_by-snoc odd (half k b) before L
      ∙ ap (λ (x : List ℤ). x ++ last_block φ) (least-begin odd (half k b) before L (leader k b bytes)
      (leader-begin k b low (filled k b f φ bytes) bytes before (λ i l. filled-fixed k b f φ bytes i (omega (arith, behind))) kind (omega arith)))
    where
      L : List ℤ
      L = leader k b (filled k b f φ bytes)

      e : blocks k ≡ suc before
      e = omega (arith, some_block k kind)

  -- nor do they change what the levels add up to
  pub stacked-filled : (φ s p : ℕ) → stacked k (degrees k) (message_bit (filled k b f φ bytes)) 0 s p ≡ stacked k (degrees k) (message_bit bytes) 0 s p
  stacked-filled φ s p = stacked-cong k (degrees k) (message_bit (filled k b f φ bytes)) (message_bit bytes) 0 s p
      (λ t l. filled-fixed k b f φ bytes (0 + t) (omega (arith, behind, levels-are k)))

  -- THE FIRST QUIET FILLING is the first whose last block has the least energy
  pub quiet_filling-is : quiet_filling k b f number bytes ≡ first_least (λ φ. energy (last_block φ)) (2 ^ f)
  unfolding quiet_filling
  quiet_filling-is =
      ap (λ (e : ℕ → ℕ). first_least e (2 ^ f)) (fun_ext (λ φ. ap energy (filled_frame-is φ) ∙ energy-append fixed_blocks (last_block φ)))
      ∙ shifted (energy fixed_blocks) (λ φ. energy (last_block φ)) (2 ^ f) (pow_pos f)

  -- ---- the largest block, which is fixed too

  abbrev leader_of : ℕ → List ℤ
  leader_of φ = leader k b (filled k b f φ bytes)

  abbrev frame_of : ℕ → List ℤ
  frame_of φ = filled_frame k b f number bytes φ

  -- a block of a filling's frame
  block-is : (φ i : ℕ) → i < blocks k → part i (frame_of φ) ≡ least_block_by odd (half k b) (part i (leader_of φ))
  unfolding filled_frame numbered_frame
  block-is φ i h = least_frame_by-part (half k b) (half_pos k b) odd (blocks k) (leader_of φ) (leader-blocks k b kind (filled k b f φ bytes)) i h

  -- the last blocks are in the order of the frames, since all others are the same
  last-order : (φ ψ : ℕ) → energy (frame_of φ) ≤ energy (frame_of ψ) → energy (last_block φ) ≤ energy (last_block ψ)
  last-order φ ψ e = omega (
    arith,
    e,
    ap energy (filled_frame-is φ) ∙ energy-append fixed_blocks (last_block φ),
    ap energy (filled_frame-is ψ) ∙ energy-append fixed_blocks (last_block ψ),
  )

  -- so that no block of a quieter frame has more energy
  block-order : (φ ψ : ℕ) → energy (frame_of φ) ≤ energy (frame_of ψ) → (i : ℕ) → i < blocks k → energy (part i (frame_of φ)) ≤ energy (part i (frame_of ψ))
  block-order φ ψ e i h = go (dec_lt i before)
    where
      common : (χ : ℕ) → i < before → part i (leader_of χ) ≡ part i (leader k b bytes)
      common χ l =
          leader-begin k b low (filled k b f χ bytes) bytes before (λ j l. filled-fixed k b f χ bytes j (omega (arith, behind))) kind (omega arith) i l

      at_last : (χ : ℕ) → i ≡ before → energy (part i (frame_of χ)) ≡ energy (last_block χ)
      at_last χ z = ap energy (block-is χ i h) ∙ ap (λ (j : ℕ). energy (least_block_by odd (half k b) (part j (leader_of χ)))) z

      go : Dec (i < before) → energy (part i (frame_of φ)) ≤ energy (part i (frame_of ψ))
      go (yes l) = le_of_eq (ap energy (block-is φ i h ∙ ap (least_block_by odd (half k b)) (common φ l ∙ sym (common ψ l)) ∙ sym (block-is ψ i h)))
      go (no t) =
          let z : i ≡ before = omega (arith, some_block k kind) in
          omega (arith, at_last φ z, at_last ψ z, last-order φ ψ e)

  -- and a quieter frame has no larger block
  largest-order : (φ ψ : ℕ) → energy (frame_of φ) ≤ energy (frame_of ψ) → largest_block (frame_of φ) ≤ largest_block (frame_of ψ)
  largest-order φ ψ e = omega (arith, count φ, count ψ, to (blocks k) (λ i h. block-order φ ψ e i h))
    where
      count : (χ : ℕ) → largest_block (frame_of χ) ≡ largest_to (blocks k) (frame_of χ)
      count χ = ap (λ (n : ℕ). largest_to (n / 8) (frame_of χ)) (filled-frame-long k b f number kind low bytes χ)

      to : (n : ℕ) → ((i : ℕ) → i < n → energy (part i (frame_of φ)) ≤ energy (part i (frame_of ψ))) → largest_to n (frame_of φ) ≤ largest_to n (frame_of ψ)
      to = largest-mono (frame_of φ) (frame_of ψ)

  -- EVERY QUIET FRAME has the largest block of the one that is sent
  pub quiet-largest : (g : List ℤ) → Quiet k b f number bytes g → largest_block g ≡ largest_block (quiet_frame k b f number bytes)
  quiet-largest g i =
      let q = quiet_is k b f number bytes in
      ap largest_block i.sent ∙ le_antisymm
      (largest-order i.φ q.φ (i.least.least q.φ q.least.below)) (largest-order q.φ i.φ (q.least.least i.φ i.least.below))
      ∙ sym (ap largest_block q.sent)

-- ---- request E7's promise of what is sent, and that nothing of it hangs on the number

pub quiet-sent : (k b f number : ℕ) → is_kind k ≡ true → is_grade b ≡ true → is_free_count f ≡ true → (bytes : List ℕ) → QuietSent k b f number bytes
quiet-sent k b f number kind grade few bytes = record {
  quiet = quiet_is k b f number bytes;
  energy-alike = quiet-energy k b f number bytes;
  largest-alike = quiet-largest k b f number kind (grade-low b grade) (free-few f few) bytes;
}

pub same_taken : (k b f number other : ℕ) → is_kind k ≡ true → (bytes : List ℕ) → SameTaken k b f number other bytes
unfolding quiet_frame filled_frame
same_taken k b f number other kind bytes = record {
  filling = same;
  same-energy = quiet-either k b f kind bytes number other;
  same-largest = same-largest-sent k b kind number other (filled k b f (quiet_filling k b f number bytes) bytes)
      ∙ ap (λ (φ : ℕ). largest_block (filled_frame k b f other bytes φ)) same;
}
  where
    same : quiet_filling k b f number bytes ≡ quiet_filling k b f other bytes
    same = same-filling k b f kind bytes number other
