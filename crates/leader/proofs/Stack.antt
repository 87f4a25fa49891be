-- The levels of a kind: the stack of their codewords, by the numbers that hold them. Assumes nothing.
use Prim.Native.Nat.{ℕ, zero, suc, ◌+◌, ◌-◌, ◌*◌, ◌%◌, ◌^◌, ◌≤◌, ◌<◌}
use mathlib.Core.Path.{◌≡◌, refl, sym, ap, ◌∙◌, subst}
use mathlib.Core.Bool.{cond}
use mathlib.Core.List.{List, [], ◌∷◌}
use native.Mathlib.Nat.{pow-suc}
use native.Mathlib.Decide.{dec_lt}
use native.Mathlib.Omega.{arith}
use lib.Dec.{ltb}
use lib.ListN.{length, get_or, take}
use borrow.Author.Tests.{lt-ltb, le-ltb}
use Rattle.bits.specs.Number.{given, number}
use Rattle.bits.proofs.Table.{table_at}
use Rattle.bits.specs.Message.{message_bit}
use Rattle.bits.proofs.Message.{number_lt, number-ext, number_bit, digit-of, message-small}
use Rattle.bits.proofs.Digits.{digit}
use Rattle.reed_muller.specs.Level.{dimension, codeword}
use Rattle.reed_muller.proofs.Codeword.{codeword-cong, codeword-small}
use Rattle.frames.specs.Kind.{degrees, levels, dimensions}
use Rattle.frames.specs.Message.{stacked}
use Rattle.leader.specs.Words.{level_start, level_value, codewords_of, over_levels}

-- ---- a number over levels

pub over-ext : (n : ℕ) {f g : ℕ → ℕ} (s : ℕ) → ((i : ℕ) → i < n → f i ≡ g i) → over_levels n f s ≡ over_levels n g s
unfolding over_levels
over-ext zero s h = refl
over-ext (suc n) s h = omega (arith, h 0 (omega arith), over-ext n s (λ i l. h (suc i) (omega arith)))

-- s over n levels stays below 2^n·(s + 1)
pub over_below : (n : ℕ) (c : ℕ → ℕ) (s : ℕ) → ((i : ℕ) → c i < 2) → over_levels n c s < 2 ^ n * (s + 1)
unfolding over_levels
over_below zero c s h = omega arith
over_below (suc n) c s h = rw (pow-suc 2 n) (omega (arith, h 0, over_below n (λ i. c (suc i)) s (λ i. h (suc i))))

-- over those of n levels from i + 1 on, and then over level i where there is one
pub over-more : (n i : ℕ) (c : ℕ → ℕ) (s : ℕ)
    → cond (ltb i n) (c i + 2 * over_levels (n - suc i) (λ t. c (suc i + t)) s) (over_levels (n - suc i) (λ t. c (suc i + t)) s) ≡ over_levels (n - i) (λ t. c (i + t)) s
unfolding over_levels
over-more n i c s = go (dec_lt i n)
  where
    -- the levels from i + 1 on
    later : ℕ
    later = over_levels (n - suc i) (λ t. c (suc i + t)) s

    go : Dec (i < n) → cond (ltb i n) (c i + 2 * later) later ≡ over_levels (n - i) (λ t. c (i + t)) s
    go (yes l) =
        let e : n - i ≡ suc (n - suc i) = omega arith in
        let first : i + 0 ≡ i = omega arith in
        let each : (t : ℕ) → t < n - suc i → c (suc i + t) ≡ c (i + suc t) = λ t u. ap c (omega arith) in
        rw (lt-ltb i n l, e) (omega (arith, ap c first, over-ext (n - suc i) s each))
    go (no l) =
        let e : n - i ≡ 0 = omega arith in
        let f : n - suc i ≡ 0 = omega arith in
        rw (le-ltb i n (omega arith), e, f) refl

-- ---- a level, by the number x that holds its message bits

pub held_below : {x n : ℕ} {f : ℕ → ℕ} → x ≡ number n f → ((t : ℕ) → t < n → f t < 2) → x < 2 ^ n
held_below {n = n} {f = f} e small = subst (λ (y : ℕ). y < 2 ^ n) (sym e) (number_lt f n small)

-- the codeword of level i of kind k
pub level-word : (k i : ℕ) (bytes : List ℕ) {x w : ℕ} → x ≡ number (dimension (get_or (degrees k) i 0) k) (λ t. message_bit bytes (level_start k i + t))
    → w ≡ number (2 ^ k) (codeword (get_or (degrees k) i 0) k (digit x)) → w ≡ number (2 ^ k) (level_value k (message_bit bytes) i)
level-word k i bytes e made =
    made
    ∙ number-ext (2 ^ k) (λ p l.
    codeword-cong _ k _ _ (λ t u. ap (λ (y : ℕ). y % 2) (digit-of e (λ t l. message-small bytes (level_start k i + t)) t u)) p)

-- ---- the levels of a kind

-- the value at p of level i of those of degrees rs, whose message bits begin at `from`
abbrev value_of : ℕ → List ℕ → (ℕ → ℕ) → ℕ → ℕ → ℕ → ℕ
value_of m rs bit from p i = codeword (get_or rs i 0) m (λ t. bit (from + dimensions m (take i rs) + t)) p

-- the stack is s over the levels' values
stacked-over : (m : ℕ) (rs : List ℕ) (bit : ℕ → ℕ) (from s p : ℕ) → stacked m rs bit from s p ≡ over_levels (length rs) (value_of m rs bit from p) s
unfolding stacked over_levels
stacked-over m [] bit from s p = refl
stacked-over m (r ∷ rs) bit from s p =
    omega (arith, first, stacked-over m rs bit (from + dimension r m) s p, over-ext (length rs) s (λ i l. each i))
  where
    first : codeword r m (λ t. bit (from + t)) p ≡ value_of m (r ∷ rs) bit from p 0
    first = let e : from ≡ from + 0 = omega arith in ap (λ (n : ℕ). codeword r m (λ t. bit (n + t)) p) e

    each : (i : ℕ) → value_of m rs bit (from + dimension r m) p i ≡ value_of m (r ∷ rs) bit from p (suc i)
    each i =
        let e : from + dimension r m + dimensions m (take i rs) ≡ from + (dimension r m + dimensions m (take i rs)) = omega arith in
        ap (λ (n : ℕ). codeword (get_or rs i 0) m (λ t. bit (n + t)) p) e

-- a stack over s stays below 2^a·(s + 1)
pub stacked-below : (m : ℕ) (rs : List ℕ) (bit : ℕ → ℕ) (from s p : ℕ) → stacked m rs bit from s p < 2 ^ length rs * (s + 1)
stacked-below m rs bit from s p =
    omega (arith, stacked-over m rs bit from s p, over_below (length rs) (value_of m rs bit from p) s (λ i. codeword-small _ m _ p))

-- the stack at p, from the numbers that hold the codewords
pub stacked-words : (k : ℕ) (bit : ℕ → ℕ) (p : ℕ) → p < 2 ^ k → levels k ≤ 3 → (s : ℕ)
    → stacked k (degrees k) bit 0 s p ≡ over_levels (levels k) (λ i. digit (get_or (codewords_of k bit) i 0) p) s
unfolding codewords_of levels
stacked-words k bit p h few s = stacked-over k (degrees k) bit 0 s p ∙ over-ext (levels k) s each
  where
    held : (i : ℕ) → i < levels k → get_or (codewords_of k bit) i 0 ≡ number (2 ^ k) (level_value k bit i)
    held i l = table_at (λ i. given (ltb i (levels k)) (number (2 ^ k) (level_value k bit i))) 3 i (omega arith) ∙ rw (lt-ltb i (levels k) l) refl

    each : (i : ℕ) → i < levels k → value_of k (degrees k) bit 0 p i ≡ digit (get_or (codewords_of k bit) i 0) p
    each i l =
        let e : 0 + dimensions k (take i (degrees k)) ≡ dimensions k (take i (degrees k)) = omega arith in
        ap (λ (n : ℕ). codeword (get_or (degrees k) i 0) k (λ t. bit (n + t)) p) e
        ∙ sym (ap (λ (x : ℕ). digit x p) (held i l) ∙ number_bit (level_value k bit i) (2 ^ k) (λ q u. codeword-small _ k _ q) p h)
