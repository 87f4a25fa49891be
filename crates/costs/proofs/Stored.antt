-- A list written from its first element on, by what stands at each place. Assumes nothing.
use Prim.Native.Nat.{ℕ, ◌+◌, ◌<◌}
use mathlib.Core.Path.{◌≡◌, sym, ap, ◌∙◌}
use mathlib.Core.List.{List}
use native.Mathlib.Omega.{arith}
use native.Mathlib.Decide.{ℕ_discrete}
use lib.ListN.{length, get_or, set, length-set}
use lib.Seq.{get_or-set_same, get_or-set_other}

pub stored_more : {A : Type 0} (d : A) (g : ℕ → A) (f : List A) (p : ℕ) (v : A) → p < length f → v ≡ g p
    → ((q : ℕ) → q < p → get_or f q d ≡ g q) → (q : ℕ) → q < p + 1 → get_or (set f p v) q d ≡ g q
stored_more d g f p v h e so q l = go (ℕ_discrete q p)
  where
    go : Dec (q ≡ p) → get_or (set f p v) q d ≡ g q
    go (yes k) = ap (λ (n : ℕ). get_or (set f p v) n d) k ∙ get_or-set_same f p v d h ∙ e ∙ ap g (sym k)
    go (no n) = get_or-set_other f p q v d n ∙ so q (omega (arith, n, l))

-- two at once
pub stored-two : {A : Type 0} (d : A) (g : ℕ → A) (f : List A) (p : ℕ) (v w : A) → p + 1 < length f → v ≡ g p → w ≡ g (p + 1)
    → ((q : ℕ) → q < p → get_or f q d ≡ g q) → (q : ℕ) → q < p + 2 → get_or (set (set f p v) (p + 1) w) q d ≡ g q
stored-two d g f p v w h e k so q l =
    stored_more d g (set f p v) (p + 1) w (omega (arith, h, length-set f p v)) k (stored_more d g f p v (omega arith) e so) q (omega arith)
