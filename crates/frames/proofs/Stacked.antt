-- Stacked levels: their bits are codewords, a multiple of 2^a changes none of them, and they are read back. For any levels and any length 2^m.
-- Assumes nothing.
use Prim.Native.Nat.{ℕ, suc, ◌+◌, ◌-◌, ◌*◌, ◌%◌, ◌^◌, ◌<◌}
use mathlib.Core.Path.{◌≡◌, sym, ap, ◌∙◌, subst, fun_ext}
use mathlib.Core.List.{List, [], ◌∷◌, ◌++◌}
use native.Mathlib.Nat.{pow-succ', mod-eq_of_lt}
use native.Mathlib.Decide.{dec_lt}
use native.Mathlib.Omega.{arith}
use lib.ListN.{length, get_or, get_or-append}
use lib.Seq.{get_or-append-add}
use lib.Pow.{pow_pos}
use lib.IntN.{ℤ, pos, ◌+ℤ◌, ◌-ℤ◌, ◌*ℤ◌}
use lib.Signed.{shr_z}
use Rattle.integers.specs.Integer.{mod_z}
use Rattle.integers.proofs.Zed.{`◌, #◌, ◌⊕◌, ◌⊖◌, ◌⊗◌, eq!, eq?}
use Rattle.integers.proofs.Floor.{div-mod, mod_z-lt, quot_is, rem_is, shr_one, shr-shr}
use Rattle.reed_muller.specs.Level.{order, dimension, codeword, backwards, belongs}
use Rattle.bits.proofs.Table.{length-table, table_at}
use Rattle.reed_muller.proofs.Transform.{backwards-cong}
use Rattle.reed_muller.proofs.Codeword.{codeword-small, codeword-cong, backwards-bit}
use Rattle.reed_muller.proofs.Belongs.{belongs-cong, belongs-read, codeword-belongs}
use Rattle.frames.specs.Kind.{dimensions}
use Rattle.frames.specs.Message.{stacked}
use Rattle.frames.specs.Reading.{level_message}
use Rattle.frames.proofs.Levels.{Fit, Codes}

-- ---- one level more: c + 2·t

low : (c t : ℕ) → c < 2 → mod_z (pos (c + 2 * t)) 2 ≡ c
low c t h = omega arith

high : (c t : ℕ) → c < 2 → shr_z (pos (c + 2 * t)) 2 ≡ pos t
high c t h = ap pos (omega arith)

-- ---- the bits of the stack are codewords

pub stacked-codes : (m : ℕ) (rs : List ℕ) → Fit m rs → (bit : ℕ → ℕ) (from : ℕ) (s : ℕ → ℕ) → Codes m rs (λ p. pos (stacked m rs bit from (s p) p))
unfolding stacked
stacked-codes m [] fit bit from s = tt
stacked-codes m (r ∷ rs) fit bit from s = (
  ap (belongs r m) (fun_ext (λ p. low (c p) (t p) (codeword-small r m (λ i. bit (from + i)) p))) ∙ codeword-belongs r m fit.0 (λ i. bit (from + i)),
  subst (Codes m rs) (sym (fun_ext (λ p. high (c p) (t p) (codeword-small r m (λ i. bit (from + i)) p))))
      (stacked-codes m rs fit.1 bit (from + dimension r m) s),
)
  where
    c : ℕ → ℕ
    c p = codeword r m (λ i. bit (from + i)) p

    t : ℕ → ℕ
    t p = stacked m rs bit (from + dimension r m) (s p) p

-- ---- a multiple of 2^a changes no level bit

-- x is y + c·w
pub record Plus (c : ℕ) (x y : ℤ) : Type 0 where
  pub w : ℤ
  pub is : x ≡ y +ℤ pos c *ℤ w

module _ (c : ℕ) (x y w : ℤ) (e : x ≡ y +ℤ pos (2 * c) *ℤ w) where
  witness : x ≡ pos 2 *ℤ (shr_z y 2 +ℤ pos c *ℤ w) +ℤ pos (mod_z y 2)
  witness = eq! (` x) (# 2 ⊗ (` (shr_z y 2) ⊕ # c ⊗ ` w) ⊕ # (mod_z y 2))
      (omega (arith, eq? (` x) (` y ⊕ # (2 * c) ⊗ ` w) e, eq? (` y) (# 2 ⊗ ` (shr_z y 2) ⊕ # (mod_z y 2)) (div-mod y 2 (omega arith))))

  pub plus-low : mod_z x 2 ≡ mod_z y 2
  plus-low = rem_is x 2 (shr_z y 2 +ℤ pos c *ℤ w) (mod_z y 2) (mod_z-lt y 2 (omega arith)) witness

  pub plus-high : shr_z x 2 ≡ shr_z y 2 +ℤ pos c *ℤ w
  plus-high = quot_is x 2 (shr_z y 2 +ℤ pos c *ℤ w) (mod_z y 2) (mod_z-lt y 2 (omega arith)) witness

pub codes-plus : (m : ℕ) (rs : List ℕ) (x y : ℕ → ℤ) → ((p : ℕ) → p < 2 ^ m → Plus (2 ^ length rs) (x p) (y p)) → Codes m rs y → Codes m rs x
codes-plus m [] x y e h = tt
codes-plus m (r ∷ rs) x y e h = (
  belongs-cong r m (λ p. mod_z (x p) 2) (λ p. mod_z (y p) 2) (λ p l. ap (λ (n : ℕ). n % 2) (plus-low (2 ^ length rs) (x p) (y p) (e p l).w (at p l))) ∙ h.0,
  codes-plus m rs (λ p. shr_z (x p) 2) (λ p. shr_z (y p) 2)
      (λ p l. record { w = (e p l).w; is = plus-high (2 ^ length rs) (x p) (y p) (e p l).w (at p l) }) h.1,
)
  where
    at : (p : ℕ) (l : p < 2 ^ m) → x p ≡ y p +ℤ pos (2 * 2 ^ length rs) *ℤ (e p l).w
    at p l = subst (λ (c : ℕ). x p ≡ y p +ℤ pos c *ℤ (e p l).w) (pow-succ' 2 (length rs)) (e p l).is

-- ---- two stacks that differ by multiples of 2^a have the same level bits

module _ (bit bit' : ℕ → ℕ) (small : (i : ℕ) → bit i < 2) (small' : (i : ℕ) → bit' i < 2) (s s' : ℕ → ℕ) (w : ℕ → ℤ) where
  pub record Agree (m : ℕ) (rs : List ℕ) (from from' : ℕ) : Type 0 where
    pub bits : (t : ℕ) → t < dimensions m rs → bit (from + t) ≡ bit' (from' + t)
    pub rest : (p : ℕ) → p < 2 ^ m → pos (s p) ≡ pos (s' p) +ℤ w p

  pub stacked-agree : (m : ℕ) (rs : List ℕ) → Fit m rs → (from from' : ℕ)
      → ((p : ℕ) → p < 2 ^ m → pos (stacked m rs bit from (s p) p) ≡ pos (stacked m rs bit' from' (s' p) p) +ℤ pos (2 ^ length rs) *ℤ w p)
      → Agree m rs from from'
  unfolding stacked
  stacked-agree m [] fit from from' e = record {
    bits = λ t h. absurd (omega arith);
    rest = λ p h. eq! (# (s p)) (# (s' p) ⊕ ` (w p)) (omega (arith, eq? (# (s p)) (# (s' p) ⊕ # 1 ⊗ ` (w p)) (e p h)));
  }
  stacked-agree m (r ∷ rs) fit from from' e = join (stacked-agree m rs fit.1 (from + dimension r m) (from' + dimension r m) halves)
    where
      c : ℕ → ℕ
      c p = codeword r m (λ i. bit (from + i)) p

      c' : ℕ → ℕ
      c' p = codeword r m (λ i. bit' (from' + i)) p

      t₁ : ℕ → ℕ
      t₁ p = stacked m rs bit (from + dimension r m) (s p) p

      t₁' : ℕ → ℕ
      t₁' p = stacked m rs bit' (from' + dimension r m) (s' p) p

      at : (p : ℕ) → p < 2 ^ m → pos (c p + 2 * t₁ p) ≡ pos (c' p + 2 * t₁' p) +ℤ pos (2 * 2 ^ length rs) *ℤ w p
      at p h = subst (λ (n : ℕ). pos (c p + 2 * t₁ p) ≡ pos (c' p + 2 * t₁' p) +ℤ pos n *ℤ w p) (pow-succ' 2 (length rs)) (e p h)

      same : (p : ℕ) → p < 2 ^ m → c p ≡ c' p
      same p h =
          sym (low (c p) (t₁ p) (codeword-small r m (λ i. bit (from + i)) p))
          ∙ plus-low (2 ^ length rs) (pos (c p + 2 * t₁ p)) (pos (c' p + 2 * t₁' p)) (w p) (at p h)
          ∙ low (c' p) (t₁' p) (codeword-small r m (λ i. bit' (from' + i)) p)

      halves : (p : ℕ) → p < 2 ^ m → pos (t₁ p) ≡ pos (t₁' p) +ℤ pos (2 ^ length rs) *ℤ w p
      halves p h =
          sym (high (c p) (t₁ p) (codeword-small r m (λ i. bit (from + i)) p))
          ∙ plus-high (2 ^ length rs) (pos (c p + 2 * t₁ p)) (pos (c' p + 2 * t₁' p)) (w p) (at p h)
          ∙ ap (λ (z : ℤ). z +ℤ pos (2 ^ length rs) *ℤ w p) (high (c' p) (t₁' p) (codeword-small r m (λ i. bit' (from' + i)) p))

      go : Agree m rs (from + dimension r m) (from' + dimension r m)
          → (t : ℕ) → t < dimension r m + dimensions m rs → Dec (t < dimension r m) → bit (from + t) ≡ bit' (from' + t)
      go more t h (yes l) =
          sym (mod-eq_of_lt (small (from + t)))
          ∙ sym (backwards-bit r m fit.0 (λ i. bit (from + i)) t l)
          ∙ backwards-cong m c c' (λ p l. ap (λ (n : ℕ). n % 2) (same p l)) (get_or (order m) t 0)
          ∙ backwards-bit r m fit.0 (λ i. bit' (from' + i)) t l
          ∙ mod-eq_of_lt (small' (from' + t))
      go more t h (no k) =
          let a : from + t ≡ from + dimension r m + (t - dimension r m) = omega arith in
          let a' : from' + dimension r m + (t - dimension r m) ≡ from' + t = omega arith in
          ap bit a ∙ more.bits (t - dimension r m) (omega arith) ∙ ap bit' a'

      join : Agree m rs (from + dimension r m) (from' + dimension r m) → Agree m (r ∷ rs) from from'
      join more = record { bits = λ t h. go more t h (dec_lt t (dimension r m)); rest = more.rest }

-- ---- the stack is read back

-- the message bits of the levels of x, one behind the other
abbrev pub read_levels : ℕ → List ℕ → (ℕ → ℤ) → List ℕ
read_levels m [] x = []
read_levels m (r ∷ rs) x = level_message m r (λ p. mod_z (x p) 2) ++ read_levels m rs (λ p. shr_z (x p) 2)

pub level-length : (m r : ℕ) (v : ℕ → ℕ) → length (level_message m r v) ≡ dimension r m
unfolding level_message
level-length m r v = length-table (λ t. backwards m v (get_or (order m) t 0)) (dimension r m)

level-at : (m r : ℕ) (v : ℕ → ℕ) (t : ℕ) → t < dimension r m → get_or (level_message m r v) t 0 ≡ backwards m v (get_or (order m) t 0)
unfolding level_message
level-at m r v t h = table_at (λ t. backwards m v (get_or (order m) t 0)) (dimension r m) t h

pub stacked-read : (m : ℕ) (rs : List ℕ) → Fit m rs → (x : ℕ → ℤ) → Codes m rs x → (bit : ℕ → ℕ) (from : ℕ)
    → ((t : ℕ) → t < dimensions m rs → bit (from + t) ≡ get_or (read_levels m rs x) t 0) → (s p : ℕ) → p < 2 ^ m
    → pos (stacked m rs bit from s p) ≡ x p -ℤ pos (2 ^ length rs) *ℤ (shr_z (x p) (2 ^ length rs) -ℤ pos s)
unfolding stacked
stacked-read m [] fit x codes bit from e s p h =
    eq! (# s) (` (x p) ⊖ # 1 ⊗ (` (shr_z (x p) 1) ⊖ # s)) (omega (arith, eq? (` (shr_z (x p) 1)) (` (x p)) (shr_one (x p))))
stacked-read m (r ∷ rs) fit x codes bit from e s p h =
    step c-is (stacked-read m rs fit.1 (λ q. shr_z (x q) 2) codes.1 bit (from + dimension r m) later s p h)
  where
    A : List ℕ
    A = level_message m r (λ p. mod_z (x p) 2)

    B : List ℕ
    B = read_levels m rs (λ p. shr_z (x p) 2)

    n : ℕ
    n = 2 ^ length rs

    t : ℕ
    t = stacked m rs bit (from + dimension r m) s p

    y : ℤ
    y = shr_z (x p) 2

    c-is : codeword r m (λ i. bit (from + i)) p ≡ mod_z (x p) 2
    c-is =
        codeword-cong r m (λ i. bit (from + i)) (λ i. backwards m (λ q. mod_z (x q) 2) (get_or (order m) i 0))
        (λ i l. ap (λ (n : ℕ). n % 2)
        (e i (omega arith) ∙ get_or-append A B 0 i (omega (arith, level-length m r (λ q. mod_z (x q) 2))) ∙ level-at m r (λ q. mod_z (x q) 2) i l)) p
        ∙ belongs-read r m fit.0 (λ q. mod_z (x q) 2) codes.0 p h
        ∙ mod-eq_of_lt (mod_z-lt (x p) 2 (omega arith))

    later : (i : ℕ) → i < dimensions m rs → bit (from + dimension r m + i) ≡ get_or B i 0
    later i l =
        let a : from + dimension r m + i ≡ from + (dimension r m + i) = omega arith in
        ap bit a ∙ e (dimension r m + i) (omega arith)
        ∙ ap (λ (k : ℕ). get_or (A ++ B) (k + i) 0) (sym (level-length m r (λ q. mod_z (x q) 2))) ∙ get_or-append-add A B i 0

    step : codeword r m (λ i. bit (from + i)) p ≡ mod_z (x p) 2 → pos t ≡ y -ℤ pos n *ℤ (shr_z y n -ℤ pos s)
        → pos (codeword r m (λ i. bit (from + i)) p + 2 * t) ≡ x p -ℤ pos (2 ^ suc (length rs)) *ℤ (shr_z (x p) (2 ^ suc (length rs)) -ℤ pos s)
    step c ih =
        rw (pow-succ' 2 (length rs))
        (eq! (# (codeword r m (λ i. bit (from + i)) p + 2 * t)) (` (x p) ⊖ # (2 * n) ⊗ (` (shr_z (x p) (2 * n)) ⊖ # s))
        (omega (
          arith,
          eq? (# t) (` y ⊖ # n ⊗ (` (shr_z y n) ⊖ # s)) ih,
          ap (λ (k : ℕ). n * k) (eq? (` (shr_z y n)) (` (shr_z (x p) (2 * n))) (shr-shr (x p) 2 n (omega arith) (pow_pos (length rs)))),
          eq? (` (x p)) (# 2 ⊗ ` y ⊕ # (mod_z (x p) 2)) (div-mod (x p) 2 (omega arith)),
        )))
