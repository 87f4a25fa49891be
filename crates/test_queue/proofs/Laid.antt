-- The coordinates before a call: how many there are, and each of them. Assumes nothing.
use Prim.Native.Nat.{ℕ, zero, suc, ◌+◌, ◌<◌}
use mathlib.Core.Path.{◌≡◌, refl, ap, ◌∙◌}
use native.Mathlib.Omega.{arith}
use lib.IntN.{pos}
use lib.ListN.{length, get_or}
use Rattle.test_queue.specs.Judged.{laid_out}

pub laid-long : (n a : ℕ) → length (laid_out n a) ≡ n
unfolding laid_out
laid-long zero a = refl
laid-long (suc n) a = ap suc (laid-long n (a + 1))

pub laid-at : (n a p : ℕ) → p < n → get_or (laid_out n a) p (pos 0) ≡ pos (a + p)
unfolding laid_out
laid-at zero a p h = absurd (omega arith)
laid-at (suc n) a zero h = ap pos (omega arith)
laid-at (suc n) a (suc p) h = laid-at n (a + 1) p (omega arith) ∙ ap pos (omega arith)
