-- The numbers of a block: where each begins, how large it is, and how it is taken from the number that holds the block's bits. Assumes nothing.
use Prim.Native.Nat.{ℕ, zero, suc, ◌+◌, ◌/◌, ◌%◌, ◌^◌, ◌≤◌, ◌<◌}
use mathlib.Core.Path.{◌≡◌, refl, sym, ap, ap₂, ◌∙◌}
use mathlib.Core.List.{List, [], ◌∷◌}
use native.Mathlib.Nat.{zero-add}
use native.Mathlib.Omega.{arith}
use lib.ListN.{length, get_or, take}
use lib.Pow.{pow_mono}
use Rattle.bits.specs.Number.{number}
use Rattle.bits.proofs.Message.{number_lt, number-ext, number-mod}
use Rattle.bits.proofs.Digits.{digit, digit-from}
use Rattle.frames.specs.Message.{widths, numbers}
use Rattle.frames.proofs.Numbers.{total}

-- number c of the numbers begins where those before it end
pub numbers-at : (bit : ℕ → ℕ) (from : ℕ) (ws : List ℕ) (c : ℕ) → c < length ws
    → get_or (numbers bit from ws) c 0 ≡ number (get_or ws c 0) (λ i. bit (from + total (take c ws) + i))
unfolding numbers
numbers-at bit from [] c h = absurd (omega arith)
numbers-at bit from (w ∷ ws) zero h = let e : from ≡ from + 0 = omega arith in ap (λ (n : ℕ). number w (λ i. bit (n + i))) e
numbers-at bit from (w ∷ ws) (suc c) h =
    let e : from + w + total (take c ws) ≡ from + (w + total (take c ws)) = omega arith in
    numbers-at bit (from + w) ws c (omega arith) ∙ ap (λ (n : ℕ). number (get_or ws c 0) (λ i. bit (n + i))) e

pub numbers-length : (bit : ℕ → ℕ) (from : ℕ) (ws : List ℕ) → length (numbers bit from ws) ≡ length ws
unfolding numbers
numbers-length bit from [] = refl
numbers-length bit from (w ∷ ws) = ap suc (numbers-length bit (from + w) ws)

-- w bits of a number from bit `at` on
pub number_cut : (x at w : ℕ) → x / 2 ^ at % 2 ^ w ≡ number w (λ i. digit x (0 + at + i))
number_cut x at w = number-mod (x / 2 ^ at) w (λ i l. digit-from x at i ∙ ap (λ (n : ℕ). digit x (n + i)) (sym (zero-add at)))

pub total-suc : (ws : List ℕ) (c : ℕ) → c < length ws → total (take (suc c) ws) ≡ total (take c ws) + get_or ws c 0
total-suc [] c h = absurd (omega arith)
total-suc (w ∷ ws) zero h = omega arith
total-suc (w ∷ ws) (suc c) h = omega (arith, total-suc ws c (omega arith))

pub total-le : (ws : List ℕ) (c : ℕ) → total (take c ws) ≤ total ws
total-le [] zero = omega arith
total-le [] (suc c) = omega arith
total-le (w ∷ ws) zero = omega arith
total-le (w ∷ ws) (suc c) = omega (arith, total-le ws c)

-- the widths are small, and together 8b
pub width_small : (b c : ℕ) → b ≤ 4 → c < 8 → get_or (widths b) c 0 ≤ 5
width_small b zero h k = omega arith
width_small b (suc zero) h k = omega arith
width_small b (suc (suc zero)) h k = omega arith
width_small b (suc (suc (suc zero))) h k = omega arith
width_small b (suc (suc (suc (suc zero)))) h k = omega arith
width_small b (suc (suc (suc (suc (suc zero))))) h k = omega arith
width_small b (suc (suc (suc (suc (suc (suc zero)))))) h k = omega arith
width_small b (suc (suc (suc (suc (suc (suc (suc zero))))))) h k = omega arith
width_small b (suc (suc (suc (suc (suc (suc (suc (suc c)))))))) h k = absurd (omega arith)

-- a number of at most five bits
pub number_small : (bit : ℕ → ℕ) → ((i : ℕ) → bit i < 2) → (from w : ℕ) → w ≤ 5 → number w (λ i. bit (from + i)) < 32
number_small bit small from w h = omega (arith, number_lt (λ i. bit (from + i)) w (λ i l. small (from + i)), pow_mono {j = 5} h)

-- each of a block's numbers is one
pub numbers-below : (bit : ℕ → ℕ) → ((i : ℕ) → bit i < 2) → (from b o : ℕ) → b ≤ 4 → o < 8 → get_or (numbers bit from (widths b)) o 0 < 32
numbers-below bit small from b o h l =
    rw (numbers-at bit from (widths b) o l) (number_small bit small (from + total (take o (widths b))) (get_or (widths b) o 0) (width_small b o h l))

-- numbers of the same bits
pub numbers-ext : (f g : ℕ → ℕ) (from from' : ℕ) (ws : List ℕ)
    → ((i : ℕ) → i < total ws → f (from + i) ≡ g (from' + i)) → numbers f from ws ≡ numbers g from' ws
unfolding numbers
numbers-ext f g from from' [] h = refl
numbers-ext f g from from' (w ∷ ws) h =
    ap₂ ◌∷◌ (number-ext w (λ i l. h i (omega arith))) (numbers-ext f g (from + w) (from' + w) ws later)
  where
    later : (i : ℕ) → i < total ws → f (from + w + i) ≡ g (from' + w + i)
    later i l =
        let x : from + w + i ≡ from + (w + i) = omega arith in
        let y : from' + (w + i) ≡ from' + w + i = omega arith in
        ap f x ∙ h (w + i) (omega arith) ∙ ap g y
