-- A frame that is shaped block by block: its least blocks. Assumes nothing.
use Prim.Native.Nat.{ℕ, ◌+◌, ◌*◌, ◌^◌}
use mathlib.Core.Path.{◌≡◌}
use mathlib.Core.Bool.{Bool}
use mathlib.Core.List.{List, ◌++◌}
use native.Mathlib.Numerals.{add-one}
use lib.ListN.{length}
use lib.Pow.{pow_pos}
use lib.IntN.{ℤ}
use Rattle.e8.specs.Lattice.{part}
use Rattle.e8.specs.Ties.{least_block_by, least_frame_by}
use Rattle.e8.proofs.Ties.{block_by-size, least_frame_by-none, least_frame_by-snoc}
use Rattle.e8.proofs.Blockwise.{Made, part-eight}

-- by either tie rule; half the scale is 2^k
module _ (last : Bool) (k : ℕ) (x : List ℤ) where
  -- block j shaped, and the first j blocks shaped
  abbrev pub least_at : ℕ → List ℤ
  least_at j = least_block_by last (2 ^ k) (part j x)

  abbrev pub least-to : ℕ → List ℤ
  least-to j = least_frame_by last (2 ^ k) j x

  least_more : (j : ℕ) → least-to (j + 1) ≡ least-to j ++ least_at j
  least_more j = rw (add-one j) (least_frame_by-snoc last (2 ^ k) j x)

  pub least-made : (n : ℕ) → length x ≡ 8 * n → Made n least_at least-to
  least-made n long = record {
    none = least_frame_by-none last (2 ^ k) x;
    more = least_more;
    eight = λ j h. block_by-size (2 ^ k) (pow_pos k) last (part j x) (part-eight n x long j h);
  }
