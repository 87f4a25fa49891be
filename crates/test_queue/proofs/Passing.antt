-- What the judgements of a queue make of the tally. Assumes nothing.
use Prim.Native.Nat.{ℕ}
use mathlib.Core.Path.{refl}
use mathlib.Core.Bool.{Bool, true, false, cond}
use mathlib.Core.List.{List}
use lib.IntN.{ℤ}
use Rattle.test_queue.specs.declared.judging.Queue.{Queue}
use Rattle.test_tally.specs.Tally.{judged, GrownBy}
use Rattle.test_tally.proofs.Counted.{grown-more, by_one}
use Rattle.test_queue.specs.Judged.{holds_by, is_begun, counted}

-- a queue that was sent each way is two judgements, or three
pub counted-grown : (q : Queue) (bytes : List ℕ) (n : ℕ) (left : List ℤ) (t : List ℕ) → GrownBy t (counted q bytes n left t)
unfolding counted
counted-grown q bytes n left t = go (is_begun q.answer.number)
  where
    judge : ℕ → List ℕ → List ℕ
    judge way u = judged way (holds_by way q bytes n left) u

    go : (b : Bool) → GrownBy t (cond b (judge 2 (judge 1 (judge 0 t))) (judge 1 (judge 0 t)))
    go true = grown-more (grown-more (by_one 0 _ refl) (by_one 1 _ refl)) (by_one 2 _ refl)
    go false = grown-more (by_one 0 _ refl) (by_one 1 _ refl)
