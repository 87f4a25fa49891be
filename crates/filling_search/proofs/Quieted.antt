-- From the last block of a leader to that of a filling's leader, and so to the sent frame. For every kind of the table, every grade, free count and number.
-- Assumes nothing.
use Prim.Native.Nat.{ℕ, suc, ◌+◌, ◌-◌, ◌*◌, ◌/◌, ◌%◌, ◌^◌, ◌≤◌, ◌<◌}
use mathlib.Core.Path.{◌≡◌, sym, ap, ap₂, ◌∙◌, subst}
use mathlib.Core.Bool.{true, false}
use mathlib.Core.List.{List, [], ◌∷◌, ◌++◌}
use native.Mathlib.Nat.{add-zero, pow-suc}
use native.Mathlib.Decide.{dec_lt}
use native.Mathlib.Omega.{arith}
use lib.ListN.{length, get_or, take, drop, length-take, length-drop, take-append-drop}
use lib.Seq.{ext_get_or, take_all, get_or-take}
use lib.Pow.{shl-shr}
use lib.IntN.{ℤ, pos, ◌+ℤ◌}
use Rattle.bits.specs.Number.{number}
use Rattle.bits.specs.Message.{message_bit}
use Rattle.bits.proofs.Sum.{sum-ext, sum-add}
use Rattle.bits.proofs.Message.{number-ext, under}
use Rattle.bits.proofs.Digits.{digit, digit-none, digit-from}
use Rattle.reed_muller.specs.Level.{dimension}
use Rattle.e8.specs.Energy.{energy}
use Rattle.e8.specs.Lattice.{part}
use Rattle.e8.specs.Ties.{least_block_by}
use Rattle.frames.specs.Kind.{is_kind, degrees, levels, blocks, level_bits, message_bits}
use Rattle.frames.specs.Message.{widths, numbers, block_numbers, stacked, coordinate, leader}
use Rattle.frames.specs.Frame.{half, is_odd}
use Rattle.frames.specs.Free.{free_from, filled, FreeMessage, quiet_filling}
use Rattle.frames.proofs.Numbers.{total, total-widths}
use Rattle.frames.proofs.Frame.{at, part_length, part_at}
use Rattle.frames.proofs.One.{leader-length, leader-at}
use Rattle.frames.proofs.Limits.{some_block, whole-blocks}
use Rattle.free_bits.proofs.First.{first_least-ext}
use Rattle.free_bits.proofs.Filled.{filled-fixed, filled-free}
use Rattle.free_bits.proofs.Fillings.{filled-energy}
use Rattle.free_bits.proofs.LastBlock.{coordinate-same, stacked-filled, quiet_filling-is}
use Rattle.filling_search.specs.Filling.{filling_numbers, filled_block, quiet_of, quiet_last}
use Rattle.leader.proofs.BlockNumbers.{numbers-at, total-suc, total-le}
use Rattle.filling_search.proofs.Tried.{filled-size, filled_at, quiet-below}
use Rattle.leader.proofs.Laid.{long}

-- ---- a sum of numbers

number-add : (n : ℕ) (f g : ℕ → ℕ) → number n (λ i. f i + g i) ≡ number n f + number n g
number-add n f g = sum-ext n (λ i l. each i) ∙ sum-add n (λ i. f i * 2 ^ i) (λ i. g i * 2 ^ i)
  where
    each : (i : ℕ) → (f i + g i) * 2 ^ i ≡ f i * 2 ^ i + g i * 2 ^ i
    each i = omega arith

-- more in the number that is over the levels
stacked-raised : (m : ℕ) (rs : List ℕ) (bit : ℕ → ℕ) (from s d p : ℕ) → stacked m rs bit from (s + d) p ≡ stacked m rs bit from s p + 2 ^ length rs * d
unfolding stacked
stacked-raised m [] bit from s d p = omega arith
stacked-raised m (r ∷ rs) bit from s d p = rw (pow-suc 2 (length rs)) (omega (arith, stacked-raised m rs bit (from + dimension r m) s d p))

module _ (k b f : ℕ) (kind : is_kind k ≡ true) (low : 1 ≤ b) (high : b ≤ 4) (few : f ≤ 4) (bytes : List ℕ) (m : FreeMessage k b f bytes) where
  -- the number of blocks before the last
  abbrev n : ℕ
  n = blocks k - 1

  -- where the last block's bits begin
  abbrev F : ℕ
  F = level_bits k + 8 * b * n

  ends : F + 8 * b ≡ message_bits k b
  unfolding message_bits
  ends =
      let e : blocks k ≡ n + 1 = omega (arith, some_block k kind) in
      omega (arith, ap (λ (i : ℕ). i * b) (whole-blocks k kind), ap (λ (i : ℕ). 8 * b * i) e)

  frees : free_from k b f ≡ F + (8 * b - f)
  unfolding free_from
  frees = omega (arith, ends)

  module _ (φ : ℕ) (below : φ < 2 ^ f) where
    abbrev h : ℕ
    h = 8 * b - f

    abbrev new : List ℕ
    new = filled k b f φ bytes

    -- a bit of the last block: the old one, or that of the filling
    bit_is : (q : ℕ) → q < 8 * b → message_bit new (F + q) ≡ message_bit bytes (F + q) + digit (φ * 2 ^ h) q
    bit_is q l = go (dec_lt q h)
      where
        go : Dec (q < h) → message_bit new (F + q) ≡ message_bit bytes (F + q) + digit (φ * 2 ^ h) q
        go (yes s) =
            let none : digit (φ * 2 ^ h) q ≡ 0 = ap (λ (x : ℕ). digit x q) (sym (add-zero (φ * 2 ^ h))) ∙ under 0 φ h q s ∙ digit-none q in
            omega (arith, filled-fixed k b f φ bytes (F + q) (omega (arith, frees)), none)
        go (no s) =
            let e : F + q ≡ free_from k b f + (q - h) = omega (arith, frees) in
            let up : h + (q - h) ≡ q = omega arith in
            let there : digit (φ * 2 ^ h) q ≡ digit φ (q - h) =
            ap (digit (φ * 2 ^ h)) (sym up) ∙ sym (digit-from (φ * 2 ^ h) h (q - h)) ∙ ap (λ (x : ℕ). digit x (q - h)) (shl-shr φ h) in
            omega (
              arith,
              ap (message_bit new) e,
              ap (message_bit bytes) e,
              filled-free k b f (omega (arith, ends)) φ bytes m.message.long (q - h) (omega arith),
              m.free (q - h) (omega arith),
              there,
            )

    -- a number of the last block
    number_is : (o : ℕ) → o < 8
        → get_or (numbers (message_bit new) F (widths b)) o 0 ≡ get_or (numbers (message_bit bytes) F (widths b)) o 0 + get_or (filling_numbers b f φ) o 0
    unfolding filling_numbers
    number_is o l =
        numbers-at (message_bit new) F (widths b) o l
        ∙ number-ext w (λ i s. each i s)
        ∙ number-add w (λ i. message_bit bytes (F + t + i)) (λ i. digit (φ * 2 ^ h) (0 + t + i))
        ∙ sym (ap₂ ◌+◌ (numbers-at (message_bit bytes) F (widths b) o l) (numbers-at (digit (φ * 2 ^ h)) 0 (widths b) o l))
      where
        t : ℕ
        t = total (take o (widths b))

        w : ℕ
        w = get_or (widths b) o 0

        each : (i : ℕ) → i < w → message_bit new (F + t + i) ≡ message_bit bytes (F + t + i) + digit (φ * 2 ^ h) (0 + t + i)
        each i s =
            let e : F + t + i ≡ F + (t + i) = omega arith in
            let z : 0 + t + i ≡ t + i = omega arith in
            rw (e, z) (bit_is (t + i) (omega (arith, total-suc (widths b) o l, total-le (widths b) (suc o), total-widths b low)))

    -- a coordinate of the last block
    coordinate-is : (o : ℕ) → o < 8 → coordinate k b new (8 * n + o) ≡ coordinate k b bytes (8 * n + o) + 2 ^ levels k * get_or (filling_numbers b f φ) o 0
    unfolding coordinate block_numbers levels
    coordinate-is o l =
        let j : (8 * n + o) / 8 ≡ n = omega arith in
        let r : (8 * n + o) % 8 ≡ o = omega arith in
        rw (j, r)
        (stacked-filled k b f 0 kind low few bytes φ (get_or (numbers (message_bit new) F (widths b)) o 0) (8 * n + o)
        ∙ ap (λ (s : ℕ). stacked k (degrees k) (message_bit bytes) 0 s (8 * n + o)) (number_is o l)
        ∙ stacked-raised k (degrees k) (message_bit bytes) 0 _ _ (8 * n + o))

    -- THE LAST BLOCK of a filling's leader
    pub last-is : filled_block (levels k) b f φ (part n (leader k b bytes)) ≡ part n (leader k b new)
    last-is = ext_get_or (pos 0) _ _ (size ∙ sym (part_length (leader k b new) (blocks k) n (long k b kind new) inside))
        (λ o l. each o (omega (arith, l, size)))
      where
        inside : n < blocks k
        inside = omega (arith, some_block k kind)

        old : length (part n (leader k b bytes)) ≡ 8
        old = part_length (leader k b bytes) (blocks k) n (long k b kind bytes) inside

        size : length (filled_block (levels k) b f φ (part n (leader k b bytes))) ≡ 8
        size = filled-size (levels k) b f φ (part n (leader k b bytes)) old

        each : (o : ℕ) → o < 8 → at (filled_block (levels k) b f φ (part n (leader k b bytes))) o ≡ at (part n (leader k b new)) o
        each o l =
            let p : 8 * n + o < 2 ^ k = omega (arith, whole-blocks k kind, some_block k kind) in
            filled_at (levels k) b f φ (part n (leader k b bytes)) old o l
            ∙ ap (λ (z : ℤ). z +ℤ pos (2 ^ levels k * get_or (filling_numbers b f φ) o 0))
            (part_at (leader k b bytes) (blocks k) n (long k b kind bytes) inside o l ∙ leader-at k b bytes (8 * n + o) p)
            ∙ ap pos (sym (coordinate-is o l)) ∙ sym (leader-at k b new (8 * n + o) p)
            ∙ sym (part_at (leader k b new) (blocks k) n (long k b kind new) inside o l)

    -- the blocks before it are common
    begin-is : take (8 * n) (leader k b bytes) ≡ take (8 * n) (leader k b new)
    begin-is = ext_get_or (pos 0) _ _ (size bytes ∙ sym (size new)) (λ p l. each p (omega (arith, l, size bytes)))
      where
        inside : 8 * n ≤ 2 ^ k
        inside = omega (arith, whole-blocks k kind)

        size : (x : List ℕ) → length (take (8 * n) (leader k b x)) ≡ 8 * n
        size x = simp length-take (omega (arith, leader-length k b x, inside))

        same : (i : ℕ) → i < F → message_bit bytes i ≡ message_bit new i
        same i l = sym (filled-fixed k b f φ bytes i (omega (arith, frees)))

        each : (p : ℕ) → p < 8 * n → at (take (8 * n) (leader k b bytes)) p ≡ at (take (8 * n) (leader k b new)) p
        each p l =
            get_or-take (8 * n) (leader k b bytes) p (pos 0) l ∙ leader-at k b bytes p (omega (arith, inside))
            ∙ ap pos (coordinate-same k b low bytes new n same p l)
            ∙ sym (get_or-take (8 * n) (leader k b new) p (pos 0) l ∙ leader-at k b new p (omega (arith, inside)))

    -- and so the leader with the block put in is the filling's
    pub filled-leader : take (8 * n) (leader k b bytes) ++ filled_block (levels k) b f φ (part n (leader k b bytes)) ≡ leader k b new
    filled-leader =
        ap₂ ◌++◌ begin-is (last-is ∙ take_all 8 (drop (8 * n) (leader k b new)) (simp length-drop (omega (arith, leader-length k b new, whole-blocks k kind))))
        ∙ take-append-drop (8 * n) (leader k b new)

  -- ---- the filling that is taken

  abbrev L : List ℤ
  L = leader k b bytes

  pub filling-is : (number : ℕ) → quiet_of (levels k) b f (part n L) ≡ quiet_filling k b f number bytes
  unfolding quiet_of quiet_filling half is_odd
  filling-is number =
      first_least-ext (2 ^ f) (λ φ l. ap (λ (x : List ℤ). energy (least_block_by false (half k b) x)) (last-is φ l))
      ∙ sym (quiet_filling-is k b f 0 kind low few bytes)
      ∙ first_least-ext (2 ^ f) (λ φ l. filled-energy k b f kind bytes 0 number φ)

  -- where the last block begins
  last-at : length L - 8 ≡ 8 * n
  last-at = omega (arith, leader-length k b bytes, whole-blocks k kind, some_block k kind)

  -- it is what stands behind the others
  last-part : drop (length L - 8) L ≡ part n L
  last-part = ap (λ (i : ℕ). drop i L) last-at
      ∙ sym (take_all 8 (drop (8 * n) L) (simp length-drop (omega (arith, leader-length k b bytes, whole-blocks k kind))))

  -- THE LEADER of the filling that is sent
  pub quiet-leader : (number : ℕ) → quiet_last (levels k) b f L ≡ leader k b (filled k b f (quiet_filling k b f number bytes) bytes)
  unfolding quiet_last
  quiet-leader number =
      ap₂ (λ (i : ℕ) (x : List ℤ). take i L ++ filled_block (levels k) b f (quiet_of (levels k) b f x) x) last-at last-part
      ∙ ap (λ (φ : ℕ). take (8 * n) L ++ filled_block (levels k) b f φ (part n L)) (filling-is number)
      ∙ filled-leader (quiet_filling k b f number bytes)
      (subst (λ (φ : ℕ). φ < 2 ^ f) (filling-is number) (quiet-below (levels k) b f (part n L)))
