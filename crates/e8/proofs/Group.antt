-- To differ by a point of H·(2·E8) is an equivalence: the classes of blocks
use mathlib.Core.Path.{◌≡◌, refl, sym, ◌∙◌, ap}
use mathlib.Core.Bool.{Bool, false}
use mathlib.Core.List.{List, [], ◌∷◌}
use Prim.Native.Nat.{ℕ, suc, ◌*◌}
use native.Mathlib.Omega.{arith}
use lib.ListN.{length}
use lib.IntN.{ℤ, pos, negsuc, ◌-ℤ◌, ◌*ℤ◌}
use Rattle.integers.specs.Integer.{mod_z}
use Rattle.integers.proofs.Zed.{`◌, #◌, ◌⊕◌, ◌⊖◌, ◌⊗◌, ⊝◌, up, down, eq!, eq?}
use Rattle.integers.proofs.Floor.{mod_z-lt, multiple-rem}
use Rattle.e8.specs.Lattice.{sum, bit, Each, moved, InBlock}
use Rattle.e8.specs.Least.{lowered}
use Rattle.e8.specs.Rows.{add, times}
use Rattle.e8.proofs.Points.{add-length, add-point, bool-of, times-length, times-point}

add-moved : (H : ℕ) (xs ws vs : List ℤ) → moved H (moved H xs ws) vs ≡ moved H xs (add ws vs)
add-moved H [] ws vs = refl
add-moved H (x ∷ xs) [] vs = refl
add-moved H (x ∷ xs) (w ∷ ws) [] = refl
add-moved H (x ∷ xs) (w ∷ ws) (v ∷ vs) = cc (eq! (` x ⊖ # H ⊗ ` w ⊖ # H ⊗ ` v) (` x ⊖ # H ⊗ (` w ⊕ ` v)) (omega arith), add-moved H xs ws vs)

pub moved_length : (H : ℕ) (xs ws : List ℤ) → length ws ≡ length xs → length (moved H xs ws) ≡ length xs
moved_length H [] ws l = refl
moved_length H (x ∷ xs) [] l = absurd (omega arith)
moved_length H (x ∷ xs) (w ∷ ws) l = ap suc (moved_length H xs ws (omega arith))

pub block-length : (H : ℕ) (xs zs : List ℤ) → InBlock H xs zs → length zs ≡ length xs
block-length H xs zs i = ap length i.is ∙ moved_length H xs i.ws i.long

pub block-trans : (H : ℕ) (xs ys zs : List ℤ) → InBlock H xs ys → InBlock H ys zs → InBlock H xs zs
block-trans H xs ys zs i k =
    let l : length i.ws ≡ length k.ws = i.long ∙ sym (block-length H xs ys i) ∙ sym k.long in
    record {
      ws = add i.ws k.ws;
      long = add-length i.ws k.ws l ∙ i.long;
      is = k.is ∙ ap (λ y. moved H y k.ws) i.is ∙ add-moved H xs i.ws k.ws;
      point = add-point i.ws k.ws l i.point k.point;
    }

back : (H : ℕ) (xs ws : List ℤ) → length ws ≡ length xs → moved H (moved H xs ws) (times (negsuc 0) ws) ≡ xs
back H [] ws l = refl
back H (x ∷ xs) [] l = absurd (omega arith)
back H (x ∷ xs) (w ∷ ws) l = cc (eq! (` x ⊖ # H ⊗ ` w ⊖ # H ⊗ (⊝ # 1 ⊗ ` w)) (` x) (omega arith), back H xs ws (omega arith))

pub block-sym : (H : ℕ) (xs ys : List ℤ) → InBlock H xs ys → InBlock H ys xs
block-sym H xs ys i = record {
  ws = times (negsuc 0) i.ws;
  long = times-length (negsuc 0) i.ws ∙ i.long ∙ sym (block-length H xs ys i);
  is = sym (ap (λ y. moved H y (times (negsuc 0) i.ws)) i.is ∙ back H xs i.ws i.long);
  point = times-point (negsuc 0) i.ws i.point;
}

-- ---- the vector of one number: 0, and any in a length that 4 divides

abbrev same-as : ℤ → List ℤ → List ℤ
same-as q [] = []
same-as q (x ∷ xs) = q ∷ same-as q xs

same_length : (q : ℤ) (xs : List ℤ) → length (same-as q xs) ≡ length xs
same_length q [] = refl
same_length q (x ∷ xs) = ap suc (same_length q xs)

same-each : (q : ℤ) (b : Bool) (xs : List ℤ) → mod_z q 2 ≡ bit b → Each b (same-as q xs)
same-each q b [] h = tt
same-each q b (x ∷ xs) h = (h, same-each q b xs h)

same_sum : (q : ℤ) (xs : List ℤ) → sum (same-as q xs) ≡ pos (length xs) *ℤ q
same_sum q [] = eq! (# 0) (# 0 ⊗ ` q) (omega arith)
same_sum q (x ∷ xs) = eq! (` q ⊕ ` (sum (same-as q xs))) (# (suc (length xs)) ⊗ ` q)
    (omega (arith, eq? (` (sum (same-as q xs))) (# (length xs) ⊗ ` q) (same_sum q xs)))

same-moved : (H : ℕ) (q : ℤ) (xs : List ℤ) → lowered (pos H *ℤ q) xs ≡ moved H xs (same-as q xs)
same-moved H q [] = refl
same-moved H q (x ∷ xs) = ap (λ l. (x -ℤ pos H *ℤ q) ∷ l) (same-moved H q xs)

pub block-const : (H j : ℕ) (q : ℤ) (xs : List ℤ) → length xs ≡ 4 * j → InBlock H xs (lowered (pos H *ℤ q) xs)
block-const H j q xs l =
    let b : (c : Bool) × (mod_z q 2 ≡ bit c) = bool-of (mod_z q 2) (mod_z-lt q 2 (omega arith)) in
    record {
      ws = same-as q xs;
      long = same_length q xs;
      is = same-moved H q xs;
      point = record {
        odd = b.0;
        same = same-each q b.0 xs b.1;
        four = multiple-rem (sum (same-as q xs)) 4 (pos j *ℤ q) (omega arith)
            (eq! (` (sum (same-as q xs))) (# 4 ⊗ (# j ⊗ ` q))
            (omega (arith, eq? (` (sum (same-as q xs))) (# (length xs) ⊗ ` q) (same_sum q xs), ap (λ (n : ℕ). n * up q) l, ap (λ (n : ℕ). n * down q) l)));
      };
    }

none-moved : (H : ℕ) (xs : List ℤ) → xs ≡ moved H xs (same-as (pos 0) xs)
none-moved H [] = refl
none-moved H (x ∷ xs) = cc (eq! (` x) (` x ⊖ # H ⊗ # 0) (omega arith), none-moved H xs)

pub block-refl : (H : ℕ) (xs : List ℤ) → InBlock H xs xs
block-refl H xs = record {
  ws = same-as (pos 0) xs;
  long = same_length (pos 0) xs;
  is = none-moved H xs;
  point = record {
    odd = false;
    same = same-each (pos 0) false xs refl;
    four = multiple-rem (sum (same-as (pos 0) xs)) 4 (pos 0) (omega arith)
        (same_sum (pos 0) xs ∙ eq! (# (length xs) ⊗ # 0) (# 4 ⊗ # 0) (omega arith));
  };
}
