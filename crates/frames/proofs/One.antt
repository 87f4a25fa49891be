-- One message for each class: the message read from a frame of the coding set has its leader in the frame's class, and no other message has.
-- For any kind of whole blocks and any grade. Assumes nothing.
use Prim.Native.Nat.{ℕ, zero, suc, ◌+◌, ◌-◌, ◌*◌, ◌%◌, ◌/◌, ◌^◌, ◌≤◌, ◌<◌}
use mathlib.Core.Path.{◌≡◌, sym, ap, ap₂, ◌∙◌, subst, fun_ext}
use mathlib.Core.List.{List, [], ◌∷◌, ◌++◌}
use native.Mathlib.Nat.{mod-lt, mul-le-mul_left, div-add-mod'}
use native.Mathlib.Decide.{dec_lt, ℕ_discrete}
use native.Mathlib.Omega.{arith}
use lib.Dec.{lit<}
use lib.ListN.{length, get_or, get_or-append, get_or-eq_default}
use lib.Seq.{get_or-append-add}
use lib.Pow.{pow_pos}
use lib.IntN.{ℤ, pos, ◌+ℤ◌, ◌-ℤ◌, ◌*ℤ◌}
use Rattle.integers.proofs.Zed.{`◌, #◌, ◌⊕◌, ◌⊖◌, ◌⊗◌, eq!, eq?}
use Rattle.bits.specs.Number.{table}
use Rattle.reed_muller.specs.Level.{dimension, order, backwards}
use Rattle.bits.specs.Message.{message_bit, byte_of, bytes_of}
use Rattle.bits.proofs.Table.{length-table, table_at}
use Rattle.bits.proofs.Message.{message-small}
use Rattle.reed_muller.proofs.Parity.{backwards-small}
use Rattle.bits.proofs.Message.{length-bytes, bits_of_bytes, bytes-of-bits, bit_past, byte-lt}
use Rattle.e8.specs.Lattice.{InBlock, part}
use Rattle.e8.specs.Rows.{ints, reduced}
use Rattle.e8.proofs.Rows.{ints-length, reduced-length, reduced-ranged, reduced-in, ranged-unique}
use Rattle.frames.specs.Kind.{degrees, levels, blocks, dimensions, level_bits, message_bits, message_bytes}
use Rattle.frames.specs.Message.{Message, widths, block_numbers, stacked, coordinate, leader}
use Rattle.frames.specs.Frame.{level_word, InCodingSet, half, SameClass}
use Rattle.frames.specs.Reading.{level_message, level_messages, quotients, digits, all_digits, block_messages, read_bits, open_message}
use Rattle.frames.proofs.Stacked.{Agree, stacked-agree, read_levels, stacked-read}
use Rattle.frames.proofs.Numbers.{total, Fits, numbers_fit, fits-length, numbers-agree, numbers-read, total-widths, fits-ranged, ranged-fits}
use Rattle.frames.proofs.Frame.{at, codes-of, messages-of, quotient-at, quotients-length, ints_at, part_length, part_at, moved_at, is-moved}
use Rattle.frames.proofs.Lengths.{levels-length, blocks-length, read_length}
use Rattle.frames.proofs.Class.{Shape, half_is, point, point_at_lem, point-long, minus-at}
use Rattle.frames.proofs.Limits.{bytes-hold}

-- ---- lists of bits

-- every entry, and what stands past the end, is below 2
record Bits (l : List ℕ) : Type 0 where
  small : (i : ℕ) → get_or l i 0 < 2

append-small : (l m : List ℕ) → ((i : ℕ) → get_or l i 0 < 2) → ((i : ℕ) → get_or m i 0 < 2) → (i : ℕ) → get_or (l ++ m) i 0 < 2
append-small [] m hl hm i = hm i
append-small (x ∷ l) m hl hm zero = hl 0
append-small (x ∷ l) m hl hm (suc i) = append-small l m (λ j. hl (suc j)) hm i

bits-append : {l m : List ℕ} → Bits l → Bits m → Bits (l ++ m)
bits-append {l} {m} hl hm = record { small = append-small l m hl.small hm.small }

none-small : (i : ℕ) → get_or {A = ℕ} [] i 0 < 2
none-small zero = lit< tt
none-small (suc i) = lit< tt

bits_none : Bits []
bits_none = record { small = none-small }

-- an entry of a table, or what stands past its end
pub table_below : (B : ℕ) (f : ℕ → ℕ) (n : ℕ) → 0 < B → ((i : ℕ) → f i < B) → (i : ℕ) → get_or (table n f) i 0 < B
table_below B f n z h i = go (dec_lt i n)
  where
    go : Dec (i < n) → get_or (table n f) i 0 < B
    go (yes l) = rw (table_at f n i l) (h i)
    go (no k) = rw (get_or-eq_default (table n f) 0 {n = i} (omega (arith, length-table f n))) z

bits-table : (f : ℕ → ℕ) → ((i : ℕ) → f i < 2) → (n : ℕ) → Bits (table n f)
bits-table f h n = record { small = table_below 2 f n (lit< tt) h }

levels-bits : (m i : ℕ) (rs : List ℕ) (f : List ℤ) → Bits (level_messages m i rs f)
unfolding level_messages level_message
levels-bits m i [] f = bits_none
levels-bits m i (r ∷ rs) f =
    bits-append
    (bits-table (λ t. backwards m (level_word i f) (get_or (order m) t 0)) (λ t. backwards-small m (level_word i f) (get_or (order m) t 0)) (dimension r m))
    (levels-bits m (suc i) rs f)

all-bits : (ws ss : List ℕ) → Bits (all_digits ws ss)
unfolding all_digits digits
all-bits [] ss = bits_none
all-bits (w ∷ ws) [] = bits_none
all-bits (w ∷ ws) (s ∷ ss) = bits-append (bits-table (λ t. s / 2 ^ t % 2) (λ t. mod-lt _ (lit< tt)) w) (all-bits ws ss)

blocks-bits : (b n : ℕ) (v : List ℤ) → Bits (block_messages b n v)
unfolding block_messages
blocks-bits b zero v = bits_none
blocks-bits b (suc n) v = bits-append (blocks-bits b n v) (all-bits (widths b) (reduced (2 ^ (b - 1)) (part n v)))

-- ---- the leader, coordinate by coordinate

pub leader-length : (k b : ℕ) (bytes : List ℕ) → length (leader k b bytes) ≡ 2 ^ k
unfolding leader
leader-length k b bytes = ints-length (table (2 ^ k) (coordinate k b bytes)) ∙ length-table (coordinate k b bytes) (2 ^ k)

pub leader-at : (k b : ℕ) (bytes : List ℕ) (p : ℕ) → p < 2 ^ k → at (leader k b bytes) p ≡ pos (coordinate k b bytes p)
unfolding leader
leader-at k b bytes p h = ints_at (table (2 ^ k) (coordinate k b bytes)) p ∙ ap pos (table_at (coordinate k b bytes) (2 ^ k) p h)

numbers-8 : (k b : ℕ) (bytes : List ℕ) (j : ℕ) → Fits (widths b) (block_numbers k b bytes j)
unfolding block_numbers
numbers-8 k b bytes j = numbers_fit (message_bit bytes) (message-small bytes) (level_bits k + 8 * b * j) (widths b)

-- ---- the numbers of the blocks of a list v of quotients, at grade c + 1

module _ (c n : ℕ) (v : List ℤ) (lv : length v ≡ 8 * n) where
  abbrev h : ℕ
  h = 2 ^ c

  abbrev S : ℕ → List ℕ
  S j = reduced h (part j v)

  grade : suc c - 1 ≡ c
  grade = omega arith

  in-class : (j : ℕ) → j < n → InBlock h (part j v) (ints (S j))
  in-class j l = reduced-in h 1 (part j v) (pow_pos c) (part_length v n j lv l)

  S-length : (j : ℕ) → j < n → length (S j) ≡ 8
  S-length j l = reduced-length h (part j v) ∙ part_length v n j lv l

  S-fits : (j : ℕ) → j < n → Fits (widths (suc c)) (S j)
  S-fits j l = ranged-fits c (S j) (S-length j l) (reduced-ranged h (part j v) (pow_pos c) (omega (arith, part_length v n j lv l)))

  grade-S : (j : ℕ) → reduced (2 ^ (suc c - 1)) (part j v) ≡ S j
  grade-S j = ap (λ (e : ℕ). reduced (2 ^ e) (part j v)) grade

  long : (i : ℕ) → i ≤ n → length (block_messages (suc c) i v) ≡ 8 * suc c * i
  long i l = blocks-length (suc c) i v (omega arith) (omega arith)

  blocks_at : (i : ℕ) → i ≤ n → (j o : ℕ) → j < i → o < 8 * suc c
      → get_or (block_messages (suc c) i v) (8 * suc c * j + o) 0 ≡ get_or (all_digits (widths (suc c)) (S j)) o 0
  unfolding block_messages
  blocks_at zero l j o hj ho = absurd (omega arith)
  blocks_at (suc i) l j o hj ho = go (blocks_at i (omega arith) j o) (ℕ_discrete j i)
    where
      A : List ℕ
      A = block_messages (suc c) i v

      B : List ℕ
      B = all_digits (widths (suc c)) (reduced (2 ^ (suc c - 1)) (part i v))

      inside : j < i → 8 * suc c * j + o < length A
      inside k = omega (arith, long i (omega arith), mul-le-mul_left (8 * suc c) k)

      go : (j < i → o < 8 * suc c → get_or A (8 * suc c * j + o) 0 ≡ get_or (all_digits (widths (suc c)) (S j)) o 0) → Dec (j ≡ i)
          → get_or (A ++ B) (8 * suc c * j + o) 0 ≡ get_or (all_digits (widths (suc c)) (S j)) o 0
      go ih (yes e) =
          ap (λ (m : ℕ). get_or (A ++ B) (m + o) 0) (ap (λ (t : ℕ). 8 * suc c * t) e ∙ sym (long i (omega arith)))
          ∙ get_or-append-add A B o 0
          ∙ ap (λ (s : List ℕ). get_or (all_digits (widths (suc c)) s) o 0) (grade-S i ∙ ap S (sym e))
      go ih (no k) = let q : j < i = omega arith in get_or-append A B 0 (8 * suc c * j + o) (inside q) ∙ ih q ho

module _ (k c : ℕ) (shape : Shape k) where
  abbrev b : ℕ
  b = suc c

  bits_are : message_bits k b ≡ level_bits k + 8 * b * blocks k
  unfolding message_bits
  bits_are = omega (arith, ap (λ (m : ℕ). m * b) shape.whole)

  -- ---- the message of a frame of the coding set

  module _ (f : List ℤ) (set : InCodingSet k f) where
    abbrev v : List ℤ
    v = quotients (levels k) f

    lv : length v ≡ 8 * blocks k
    lv = quotients-length (levels k) f ∙ set.long ∙ sym shape.whole

    levels-long : length (level_messages k 0 (degrees k) f) ≡ level_bits k
    unfolding level_bits
    levels-long = levels-length k 0 (degrees k) f

    read-long : length (read_bits k b f) ≡ message_bits k b
    read-long = read_length k b f shape.whole (omega arith) set.long

    read-bits : (i : ℕ) → get_or (read_bits k b f) i 0 < 2
    unfolding read_bits
    read-bits = (bits-append (levels-bits k 0 (degrees k) f) (blocks-bits b (blocks k) v)).small

    pub message-bit : (i : ℕ) → message_bit (open_message k b f) i ≡ get_or (read_bits k b f) i 0
    unfolding open_message
    message-bit i = go (dec_lt i (8 * message_bytes k b))
      where
        bit : ℕ → ℕ
        bit i = get_or (read_bits k b f) i 0

        go : Dec (i < 8 * message_bytes k b) → message_bit (bytes_of (message_bytes k b) bit) i ≡ bit i
        go (yes l) = bits_of_bytes (message_bytes k b) bit (λ j l. read-bits j) i l
        go (no n) =
            bit_past (bytes_of (message_bytes k b) bit) i (omega (arith, length-bytes (message_bytes k b) bit))
            ∙ sym (get_or-eq_default (read_bits k b f) 0 {n = i} (omega (arith, read-long, bytes-hold k b)))

    pub open-message : Message k b (open_message k b f)
    unfolding open_message bytes_of
    open-message = record {
      long = length-bytes (message_bytes k b) (λ i. get_or (read_bits k b f) i 0);
      each = table_below 256 (byte_of (λ i. get_or (read_bits k b f) i 0)) (message_bytes k b) (lit< tt)
          (λ j. byte-lt (λ i. get_or (read_bits k b f) i 0) j (λ i l. read-bits (8 * j + i)));
      spare = λ i l. message-bit i ∙ get_or-eq_default (read_bits k b f) 0 {n = i} (omega (arith, read-long));
    }

    level-bits : (t : ℕ) → t < dimensions k (degrees k) → message_bit (open_message k b f) (0 + t) ≡ get_or (read_levels k (degrees k) (at f)) t 0
    unfolding read_bits level_bits
    level-bits t l =
        let e : 0 + t ≡ t = omega arith in
        ap (message_bit (open_message k b f)) e ∙ message-bit t
        ∙ get_or-append (level_messages k 0 (degrees k) f) (block_messages b (blocks k) v) 0 t (omega (arith, levels-long))
        ∙ ap (λ (x : List ℕ). get_or x t 0) (messages-of k (degrees k) f)

    block-bits : (j o : ℕ) → j < blocks k → o < total (widths b)
        → message_bit (open_message k b f) (level_bits k + 8 * b * j + o) ≡ get_or (all_digits (widths b) (reduced (2 ^ c) (part j v))) o 0
    unfolding read_bits
    block-bits j o hj ho =
        let e : level_bits k + 8 * b * j + o ≡ level_bits k + (8 * b * j + o) = omega arith in
        message-bit (level_bits k + 8 * b * j + o)
        ∙ ap (λ (m : ℕ). get_or (A ++ B) m 0) (e ∙ ap (λ (m : ℕ). m + (8 * b * j + o)) (sym levels-long))
        ∙ get_or-append-add A B (8 * b * j + o) 0
        ∙ blocks_at c (blocks k) v lv (blocks k) (omega arith) j o hj (omega (arith, total-widths (suc c) (omega arith)))
      where
        A : List ℕ
        A = level_messages k 0 (degrees k) f

        B : List ℕ
        B = block_messages b (blocks k) v

    pub open-numbers : (j : ℕ) → j < blocks k → block_numbers k b (open_message k b f) j ≡ reduced (2 ^ c) (part j v)
    unfolding block_numbers
    open-numbers j l = numbers-read (message_bit (open_message k b f)) (widths b) (reduced (2 ^ c) (part j v)) (level_bits k + 8 * b * j)
        (S-fits c (blocks k) v lv j l) (λ o ho. block-bits j o l ho)

    abbrev L : List ℤ
    L = leader k b (open_message k b f)

    lf : length f ≡ 8 * blocks k
    lf = set.long ∙ sym shape.whole

    lL : length L ≡ 8 * blocks k
    lL = leader-length k b (open_message k b f) ∙ sym shape.whole

    -- coordinate o of block j: the leader's is the frame's less 2^a times what the reduction took off
    leader-in-block : (j o : ℕ) → j < blocks k → o < 8
        → at L (8 * j + o) ≡ at f (8 * j + o) -ℤ pos (2 ^ levels k) *ℤ (at (part j v) o -ℤ at (ints (reduced (2 ^ c) (part j v))) o)
    unfolding coordinate levels
    leader-in-block j o hj ho =
        let l : 8 * j + o < 8 * blocks k = omega arith in
        let p : 8 * j + o < 2 ^ k = omega (arith, shape.whole) in
        let ej : (8 * j + o) / 8 ≡ j = omega arith in
        let eo : (8 * j + o) % 8 ≡ o = omega arith in
        leader-at k b (open_message k b f) (8 * j + o) p
        ∙ ap₂ (λ (i r : ℕ). pos (stacked k (degrees k) (message_bit (open_message k b f)) 0 (get_or (block_numbers k b (open_message k b f) i) r 0) (8 * j + o)))
        ej eo
        ∙ ap (λ (s : List ℕ). pos (stacked k (degrees k) (message_bit (open_message k b f)) 0 (get_or s o 0) (8 * j + o))) (open-numbers j hj)
        ∙ stacked-read k (degrees k) shape.fit (at f) (codes-of k (degrees k) f set.codewords) (message_bit (open_message k b f)) 0 level-bits
        (get_or (reduced (2 ^ c) (part j v)) o 0) (8 * j + o) p
        ∙ ap₂ (λ (x y : ℤ). at f (8 * j + o) -ℤ pos (2 ^ levels k) *ℤ (x -ℤ y))
        (sym (quotient-at (levels k) f (8 * j + o) (omega (arith, lf))) ∙ sym (part_at v (blocks k) j lv hj o ho))
        (sym (ints_at (reduced (2 ^ c) (part j v)) o))

    -- THE LEADER of the message read differs from the frame by a lattice point
    pub open-class : SameClass k b f L
    open-class = record {
      whole = lf;
      long = lL ∙ sym lf;
      blocks = λ j hj. let i : InBlock (2 ^ c) (part j v) (ints (reduced (2 ^ c) (part j v))) = in-class c (blocks k) v lv j hj in
          let l8 : length i.ws ≡ 8 = i.long ∙ part_length v (blocks k) j lv hj in
          record {
            ws = i.ws;
            long = l8 ∙ sym (part_length f (blocks k) j lf hj);
            point = i.point;
            is = is-moved (half k b) (part j f) i.ws (part j L) (part_length f (blocks k) j lf hj) l8 (part_length L (blocks k) j lL hj) (λ o ho.
                part_at L (blocks k) j lL hj o ho ∙ leader-in-block j o hj ho
                ∙ same (2 ^ levels k) (2 ^ c) (half k b) (at f (8 * j + o)) (at (part j v) o) (at (ints (reduced (2 ^ c) (part j v))) o) (at i.ws o)
                (half_is k c)
                (ap (λ (x : List ℤ). at x o) i.is ∙ moved_at (2 ^ c) (part j v) i.ws i.long o (omega (arith, part_length v (blocks k) j lv hj)))
                ∙ ap (λ (z : ℤ). z -ℤ pos (half k b) *ℤ at i.ws o) (sym (part_at f (blocks k) j lf hj o ho)));
          };
    }
      where
        same : (A h H : ℕ) (x v s w : ℤ) → H ≡ A * h → s ≡ v -ℤ pos h *ℤ w → x -ℤ pos A *ℤ (v -ℤ s) ≡ x -ℤ pos H *ℤ w
        same A h H x v s w e d = rw (e, d) (eq! (` x ⊖ # A ⊗ (` v ⊖ (` v ⊖ # h ⊗ ` w))) (` x ⊖ # (A * h) ⊗ ` w) (omega arith))

  -- ---- two messages whose leaders are in one class are one

  module _ (x y : List ℕ) (mx : Message k b x) (my : Message k b y) (d : SameClass k b (leader k b x) (leader k b y)) where
    lx : length (leader k b x) ≡ 8 * blocks k
    lx = leader-length k b x ∙ sym shape.whole

    -- the numbers at position p, and h times the point there
    abbrev s₁ : ℕ → ℕ
    s₁ p = get_or (block_numbers k b x (p / 8)) (p % 8) 0

    abbrev s₂ : ℕ → ℕ
    s₂ p = get_or (block_numbers k b y (p / 8)) (p % 8) 0

    abbrev w : ℕ → ℤ
    w p = pos (2 ^ c) *ℤ at (point d (p / 8)) (p % 8)

    stacks : (p : ℕ) → p < 2 ^ k
        → pos (stacked k (degrees k) (message_bit x) 0 (s₁ p) p) ≡ pos (stacked k (degrees k) (message_bit y) 0 (s₂ p) p) +ℤ pos (2 ^ levels k) *ℤ w p
    unfolding coordinate
    stacks p h = turned (2 ^ levels k) (2 ^ c) (half k b) (pos (coordinate k b x p)) (pos (coordinate k b y p)) (at (point d (p / 8)) (p % 8)) (half_is k c)
        (sym (leader-at k b y p h) ∙ minus-at d lx p (omega (arith, shape.whole))
        ∙ ap (λ (z : ℤ). z -ℤ pos (half k b) *ℤ at (point d (p / 8)) (p % 8)) (leader-at k b x p h))
      where
        turned : (A h H : ℕ) (x y u : ℤ) → H ≡ A * h → y ≡ x -ℤ pos H *ℤ u → x ≡ y +ℤ pos A *ℤ (pos h *ℤ u)
        turned A h H x y u e d = rw (d, e) (eq! (` x) (` x ⊖ # (A * h) ⊗ ` u ⊕ # A ⊗ (# h ⊗ ` u)) (omega arith))

    agree : Agree (message_bit x) (message_bit y) (message-small x) (message-small y) s₁ s₂ w k (degrees k) 0 0
    unfolding levels
    agree = stacked-agree (message_bit x) (message_bit y) (message-small x) (message-small y) s₁ s₂ w k (degrees k) shape.fit 0 0 stacks

    same_numbers : (j : ℕ) → j < blocks k → block_numbers k b y j ≡ block_numbers k b x j
    same_numbers j hj = ranged-unique (2 ^ c) (block_numbers k b x j) (block_numbers k b y j)
        (fits-ranged c (block_numbers k b x j) (numbers-8 k b x j)) (fits-ranged c (block_numbers k b y j) (numbers-8 k b y j))
        (record {
          ws = point d j;
          long = point-long d lx j hj ∙ sym (eight x);
          point = (point_at_lem d j hj).two;
          is = is-moved (2 ^ c) (ints (block_numbers k b x j)) (point d j) (ints (block_numbers k b y j)) (eight x) (point-long d lx j hj) (eight y)
              coordinate-at;
        })
      where
        eight : (z : List ℕ) → length (ints (block_numbers k b z j)) ≡ 8
        eight z = ints-length (block_numbers k b z j) ∙ fits-length (widths b) (block_numbers k b z j) (numbers-8 k b z j)

        rest_at : (o : ℕ) → o < 8 → pos (get_or (block_numbers k b x j) o 0) ≡ pos (get_or (block_numbers k b y j) o 0) +ℤ pos (2 ^ c) *ℤ at (point d j) o
        rest_at o ho =
            let ej : (8 * j + o) / 8 ≡ j = omega arith in
            let eo : (8 * j + o) % 8 ≡ o = omega arith in
            subst (λ (i : ℕ). pos (get_or (block_numbers k b x i) o 0) ≡ pos (get_or (block_numbers k b y i) o 0) +ℤ pos (2 ^ c) *ℤ at (point d i) o) ej
            (subst
            (λ (r : ℕ). pos (get_or (block_numbers k b x ((8 * j + o) / 8)) r 0)
            ≡ pos (get_or (block_numbers k b y ((8 * j + o) / 8)) r 0) +ℤ pos (2 ^ c) *ℤ at (point d ((8 * j + o) / 8)) r) eo
            (agree.rest (8 * j + o) (omega (arith, shape.whole))))

        coordinate-at : (o : ℕ) → o < 8 → at (ints (block_numbers k b y j)) o ≡ at (ints (block_numbers k b x j)) o -ℤ pos (2 ^ c) *ℤ at (point d j) o
        coordinate-at o ho =
            ints_at (block_numbers k b y j) o
            ∙ eq! (# (get_or (block_numbers k b y j) o 0)) (# (get_or (block_numbers k b x j) o 0) ⊖ # (2 ^ c) ⊗ ` (at (point d j) o))
            (omega (arith, eq? (# (get_or (block_numbers k b x j) o 0)) (# (get_or (block_numbers k b y j) o 0) ⊕ # (2 ^ c) ⊗ ` (at (point d j) o)) (rest_at o ho)))
            ∙ ap (λ (z : ℤ). z -ℤ pos (2 ^ c) *ℤ at (point d j) o) (sym (ints_at (block_numbers k b x j) o))

    block-agree : (j o : ℕ) → j < blocks k → o < 8 * b → message_bit x (level_bits k + 8 * b * j + o) ≡ message_bit y (level_bits k + 8 * b * j + o)
    unfolding block_numbers
    block-agree j o hj ho =
        numbers-agree (message_bit x) (message_bit y) (message-small x) (message-small y) (widths b) (level_bits k + 8 * b * j) (level_bits k + 8 * b * j)
        (sym (same_numbers j hj)) o (omega (arith, total-widths (suc c) (omega arith)))

    bit-agree : (i : ℕ) → message_bit x i ≡ message_bit y i
    unfolding level_bits
    bit-agree i = go (dec_lt i (level_bits k)) (dec_lt i (message_bits k b))
      where
        q : ℕ
        q = i - level_bits k

        j : ℕ
        j = q / (8 * b)

        o : ℕ
        o = q % (8 * b)

        split : j * (8 * b) + o ≡ q
        split = div-add-mod' q (8 * b)

        small : o < 8 * b
        small = mod-lt q (omega arith)

        early : q < 8 * b * blocks k → Dec (j < blocks k) → j < blocks k
        early h (yes l) = l
        early h (no n) = let l : blocks k ≤ j = omega arith in absurd (omega (arith, split, mul-le-mul_left (8 * b) l))

        go : Dec (i < level_bits k) → Dec (i < message_bits k b) → message_bit x i ≡ message_bit y i
        go (yes l) t = let e : i ≡ 0 + i = omega arith in ap (message_bit x) e ∙ agree.bits i l ∙ ap (message_bit y) (sym e)
        go (no n) (yes l) =
            let e : i ≡ level_bits k + 8 * b * j + o = omega (arith, split) in
            ap (message_bit x) e ∙ block-agree j o (early (omega (arith, bits_are)) (dec_lt j (blocks k))) small ∙ ap (message_bit y) (sym e)
        go (no n) (no t) = mx.spare i (omega arith) ∙ sym (my.spare i (omega arith))

    pub one-message : x ≡ y
    one-message =
        sym (bytes-of-bits x mx.each)
        ∙ ap₂ bytes_of (mx.long ∙ sym my.long) (fun_ext bit-agree)
        ∙ bytes-of-bits y my.each
