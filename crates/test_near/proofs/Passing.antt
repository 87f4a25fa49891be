-- A near reading of the first m bytes, judged: what the steps of `holds` make of each other. Assumes nothing.
use Prim.Native.Nat.{ℕ, ◌-◌, ◌≤◌, ◌<◌}
use mathlib.Core.Path.{◌≡◌, refl, sym, ap, ap₂, ◌∙◌}
use mathlib.Core.Bool.{Bool, true, false}
use mathlib.Core.List.{List, ◌++◌}
use native.Mathlib.Nat.{sub-zero}
use native.Mathlib.Omega.{arith}
use lib.Ieee.{Float}
use lib.ListN.{length, take}
use lib.Seq.{length-take-le}
use borrow.Rule.Slice.PartMut.{post_of, Post-is}
use borrow.Author.Tests.{le-leb, lt-leb}
use Rattle.near_reading.specs.Answer.{near_message}
use Rattle.octets.specs.Same.{same_bytes}
use Rattle.test_near.specs.declared.judging.Reading.{Reading}
use Rattle.test_near.specs.Judged.{answers_by, bytes_left, passes}

-- there are not as many bytes
pub no_room : (way : ℕ) (q : Reading) (xs : List Float) (m : ℕ) (bytes left : List ℕ) → length bytes < m
    → (false ≡ passes way q xs m bytes left) × (bytes ≡ bytes_left q xs m bytes)
unfolding passes bytes_left
no_room way q xs m bytes left h = (rw (lt-leb m (length bytes) h) refl, rw (lt-leb m (length bytes) h) refl)

-- there are; the answer is a, and `part` is what stands in the first m
module _ (way : ℕ) (q : Reading) (xs : List Float) (m : ℕ) (bytes left : List ℕ) {a : Bool} {part : List ℕ} (room : m ≤ length bytes)
    (answer : a ≡ answers_by way q xs (length (take (m - 0) bytes))) (message : part ≡ near_message q.kind q.grade xs (take (m - 0) bytes)) where
  lent : take (m - 0) bytes ≡ take m bytes
  lent = ap (λ (n : ℕ). take n bytes) (sub-zero m)

  answer-is : a ≡ answers_by way q xs m
  answer-is = answer ∙ ap (answers_by way q xs) (ap (λ (l : List ℕ). length l) lent ∙ length-take-le m bytes room)

  pub bytes-are : (part ++ post_of 0 (m - 0) bytes) ≡ bytes_left q xs m bytes
  unfolding bytes_left
  bytes-are = rw (le-leb m (length bytes) room)
      (ap₂ ◌++◌ (message ∙ ap (near_message q.kind q.grade xs) lent) (Post-is 0 m bytes (omega arith)))

  pub answer-wrong : a ≡ false → false ≡ passes way q xs m bytes left
  unfolding passes
  answer-wrong e = rw (le-leb m (length bytes) room, sym answer-is ∙ e) refl

  pub answer-right : {t : Bool} → a ≡ true → t ≡ same_bytes (part ++ post_of 0 (m - 0) bytes) left → t ≡ passes way q xs m bytes left
  unfolding passes
  answer-right e s = rw (le-leb m (length bytes) room, sym answer-is ∙ e) (s ∙ ap (λ (l : List ℕ). same_bytes l left) bytes-are)
