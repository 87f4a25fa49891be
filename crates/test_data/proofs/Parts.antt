-- A part that is lent from the beginning of a row on, and written back. Assumes nothing.
use Prim.Native.Nat.{ℕ, ◌-◌}
use mathlib.Core.Path.{◌≡◌, ap, ◌∙◌}
use mathlib.Core.List.{List, ◌++◌}
use native.Mathlib.Omega.{arith}
use lib.ListN.{length, take, drop}
use lib.Seq.{take_at}
use borrow.Rule.Slice.PartMut.{put_mid, Post-is}

module _ {A : Type 0} (n : ℕ) (l l' : List A) where
  -- the row afterwards
  pub put_first : put_mid 0 (n - 0) l l' ≡ l' ++ drop n l
  put_first = ap (λ (t : List A). l' ++ t) (Post-is 0 n l (omega arith))

  -- and the part lent again
  pub first-put : length l' ≡ n - 0 → take (n - 0) (put_mid 0 (n - 0) l l') ≡ l'
  first-put h = ap (take (n - 0)) put_first ∙ take_at l' (drop n l) (n - 0) h
