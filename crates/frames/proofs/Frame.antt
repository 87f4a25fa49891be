-- Frames as lists: their level words, their quotients, and the lattice point by which two of a class differ. Assumes nothing.
use Prim.Native.Nat.{ℕ, zero, suc, ◌+◌, ◌-◌, ◌*◌, ◌%◌, ◌/◌, ◌^◌, ◌≤◌, ◌<◌}
use mathlib.Core.Path.{◌≡◌, refl, sym, ap, ap₂, ◌∙◌, subst, fun_ext}
use mathlib.Core.Bool.{true}
use mathlib.Core.List.{List, [], ◌∷◌, ◌++◌}
use native.Mathlib.Nat.{mod-lt, pow-suc, div-add-mod', mul-le-mul_right}
use native.Mathlib.Decide.{dec_lt}
use native.Mathlib.Omega.{arith}
use lib.ListN.{length, get_or, length-take, length-drop}
use lib.Seq.{get_or-take, get_or-drop, ext_get_or}
use lib.Pow.{pow_pos}
use lib.IntN.{ℤ, pos, ◌+ℤ◌, ◌-ℤ◌, ◌*ℤ◌}
use lib.Signed.{shr_z}
use Rattle.integers.specs.Integer.{mod_z}
use Rattle.integers.proofs.Zed.{`◌, #◌, ◌⊕◌, ◌⊗◌, eq!, eq?}
use Rattle.integers.proofs.Floor.{div-mod, mod_z-lt, quot_is, rem_is, shr_one, shr-shr}
use Rattle.reed_muller.specs.Level.{belongs}
use Rattle.e8.specs.Lattice.{moved, part}
use Rattle.e8.specs.Rows.{ints}
use Rattle.e8.proofs.Group.{moved_length}
use Rattle.frames.specs.Frame.{weight_bit, level_word}
use Rattle.frames.specs.Reading.{level_message, level_messages, quotients}
use Rattle.frames.proofs.Levels.{Codes}
use Rattle.frames.proofs.Stacked.{read_levels}

-- coordinate p
abbrev pub at : List ℤ → ℕ → ℤ
at f p = get_or f p (pos 0)

-- ---- level words

pub weight-bit : (i : ℕ) (z : ℤ) → weight_bit i z ≡ mod_z (shr_z z (2 ^ i)) 2
unfolding weight_bit
weight-bit i z =
    ap (λ (m : ℕ). mod_z z m / n) (pow-suc 2 i) ∙ sym (ap (λ (y : ℤ). mod_z y 2) quotient ∙ rem_is (pos 2 *ℤ q +ℤ pos (r / n)) 2 q (r / n) bit refl)
  where
    n : ℕ
    n = 2 ^ i

    q : ℤ
    q = shr_z z (2 ^ i * 2)

    r : ℕ
    r = mod_z z (2 ^ i * 2)

    n_pos : 0 < n
    n_pos = pow_pos i

    bit : r / n < 2
    bit = go (dec_lt (r / n) 2)
      where
        go : Dec (r / n < 2) → r / n < 2
        go (yes h) = h
        go (no k) =
            let l : 2 ≤ r / n = omega arith in
            absurd (omega (arith, mul-le-mul_right n l, div-add-mod' r n, mod_z-lt z (2 ^ i * 2) (omega (arith, n_pos))))

    quotient : shr_z z n ≡ pos 2 *ℤ q +ℤ pos (r / n)
    quotient = quot_is z n (pos 2 *ℤ q +ℤ pos (r / n)) (r % n) (mod-lt r n_pos)
        (eq! (` z) (# n ⊗ (# 2 ⊗ ` q ⊕ # (r / n)) ⊕ # (r % n))
        (omega (arith, eq? (` z) (# (n * 2) ⊗ ` q ⊕ # r) (div-mod z (n * 2) (omega (arith, n_pos))), div-add-mod' r n)))

-- the frame without its levels below i
abbrev pub above : ℕ → List ℤ → ℕ → ℤ
above i f p = shr_z (at f p) (2 ^ i)

above-none : (f : List ℤ) → above 0 f ≡ at f
above-none f = fun_ext (λ p. shr_one (at f p))

next_level : (i : ℕ) (f : List ℤ) → (λ p. shr_z (above i f p) 2) ≡ above (suc i) f
next_level i f = fun_ext (λ p. shr-shr (at f p) (2 ^ i) 2 (pow_pos i) (omega arith) ∙ ap (shr_z (at f p)) (sym (pow-suc 2 i)))

word-is : (i : ℕ) (f : List ℤ) → level_word i f ≡ (λ p. mod_z (above i f p) 2)
word-is i f = fun_ext (λ p. weight-bit i (at f p))

-- the level words are codewords, by levels or by the stack
codes-from : (m : ℕ) (rs : List ℕ) (i : ℕ) (f : List ℤ)
    → ((j : ℕ) → j < length rs → belongs (get_or rs j 0) m (level_word (i + j) f) ≡ true) → Codes m rs (above i f)
codes-from m [] i f h = tt
codes-from m (r ∷ rs) i f h =
    let first : i + 0 ≡ i = omega arith in (
      ap (belongs r m) (sym (ap (λ (j : ℕ). level_word j f) first ∙ word-is i f)) ∙ h 0 (omega arith),
      subst (Codes m rs) (sym (next_level i f)) (codes-from m rs (suc i) f (λ j l.
          let later : suc i + j ≡ i + suc j = omega arith in
          ap (λ (n : ℕ). belongs (get_or rs j 0) m (level_word n f)) later ∙ h (suc j) (omega arith))),
    )

codes-back : (m : ℕ) (rs : List ℕ) (i : ℕ) (f : List ℤ) → Codes m rs (above i f)
    → (j : ℕ) → j < length rs → belongs (get_or rs j 0) m (level_word (i + j) f) ≡ true
codes-back m [] i f h j l = absurd (omega arith)
codes-back m (r ∷ rs) i f h zero l =
    let first : i + 0 ≡ i = omega arith in
    ap (belongs r m) (ap (λ (j : ℕ). level_word j f) first ∙ word-is i f) ∙ h.0
codes-back m (r ∷ rs) i f h (suc j) l =
    let later : i + suc j ≡ suc i + j = omega arith in
    ap (λ (n : ℕ). belongs (get_or rs j 0) m (level_word n f)) later ∙ codes-back m rs (suc i) f (subst (Codes m rs) (next_level i f) h.1) j (omega arith)

pub codes-of : (m : ℕ) (rs : List ℕ) (f : List ℤ) → ((j : ℕ) → j < length rs → belongs (get_or rs j 0) m (level_word j f) ≡ true) → Codes m rs (at f)
codes-of m rs f h = subst (Codes m rs) (above-none f) (codes-from m rs 0 f (λ j l.
    let e : 0 + j ≡ j = omega arith in ap (λ (n : ℕ). belongs (get_or rs j 0) m (level_word n f)) e ∙ h j l))

pub of-codes : (m : ℕ) (rs : List ℕ) (f : List ℤ) → Codes m rs (at f) → (j : ℕ) → j < length rs → belongs (get_or rs j 0) m (level_word j f) ≡ true
of-codes m rs f h j l =
    let e : j ≡ 0 + j = omega arith in
    ap (λ (n : ℕ). belongs (get_or rs j 0) m (level_word n f)) e ∙ codes-back m rs 0 f (subst (Codes m rs) (sym (above-none f)) h) j l

messages-from : (m i : ℕ) (rs : List ℕ) (f : List ℤ) → level_messages m i rs f ≡ read_levels m rs (above i f)
unfolding level_messages
messages-from m i [] f = refl
messages-from m i (r ∷ rs) f = ap₂ ◌++◌ (ap (level_message m r) (word-is i f)) (messages-from m (suc i) rs f ∙ ap (read_levels m rs) (sym (next_level i f)))

pub messages-of : (m : ℕ) (rs : List ℕ) (f : List ℤ) → level_messages m 0 rs f ≡ read_levels m rs (at f)
messages-of m rs f = messages-from m 0 rs f ∙ ap (read_levels m rs) (above-none f)

-- ---- coordinates of made lists

pub quotient-at : (a : ℕ) (f : List ℤ) (p : ℕ) → p < length f → at (quotients a f) p ≡ shr_z (at f p) (2 ^ a)
unfolding quotients
quotient-at a [] p h = absurd (omega arith)
quotient-at a (z ∷ f) zero h = refl
quotient-at a (z ∷ f) (suc p) h = quotient-at a f p (omega arith)

pub quotients-length : (a : ℕ) (f : List ℤ) → length (quotients a f) ≡ length f
unfolding quotients
quotients-length a [] = refl
quotients-length a (z ∷ f) = ap suc (quotients-length a f)

pub ints_at : (l : List ℕ) (p : ℕ) → at (ints l) p ≡ pos (get_or l p 0)
ints_at [] zero = refl
ints_at [] (suc p) = refl
ints_at (s ∷ l) zero = refl
ints_at (s ∷ l) (suc p) = ints_at l p

-- ---- blocks

module _ (f : List ℤ) (n i : ℕ) (long : length f ≡ 8 * n) (h : i < n) where
  pub part_length : length (part i f) ≡ 8
  part_length = simp (length-take, length-drop) (omega arith)

  pub part_at : (o : ℕ) → o < 8 → at (part i f) o ≡ at f (8 * i + o)
  part_at o l = rw (get_or-take, get_or-drop)

pub moved_at : (H : ℕ) (xs ws : List ℤ) → length ws ≡ length xs → (o : ℕ) → o < length xs → at (moved H xs ws) o ≡ at xs o -ℤ pos H *ℤ at ws o
moved_at H [] ws l o h = absurd (omega arith)
moved_at H (x ∷ xs) [] l o h = absurd (omega arith)
moved_at H (x ∷ xs) (w ∷ ws) l zero h = refl
moved_at H (x ∷ xs) (w ∷ ws) l (suc o) h = moved_at H xs ws (omega arith) o (omega arith)

-- a block is xs − H·ws when each of its eight coordinates is so
pub is-moved : (H : ℕ) (xs ws zs : List ℤ) → length xs ≡ 8 → length ws ≡ 8 → length zs ≡ 8
    → ((o : ℕ) → o < 8 → at zs o ≡ at xs o -ℤ pos H *ℤ at ws o) → zs ≡ moved H xs ws
is-moved H xs ws zs lx lw lz e =
    ext_get_or (pos 0) zs (moved H xs ws) (lz ∙ sym (moved_length H xs ws (lw ∙ sym lx) ∙ lx))
    (λ o h. e o (omega (arith, h, lz)) ∙ sym (moved_at H xs ws (lw ∙ sym lx) o (omega (arith, h, lz, lx))))
