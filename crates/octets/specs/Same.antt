-- When two rows of bytes are the same. Assumes nothing.
use Rattle.std.specs.Prelude.{ℕ, ◌≡◌, Bool, true, false, ◌&&◌, List, [], ◌∷◌, eqb}

-- the same bytes, and as many
unfoldable pub same_bytes : List ℕ → List ℕ → Bool
same_bytes [] [] = true
same_bytes [] (b ∷ y) = false
same_bytes (a ∷ x) [] = false
same_bytes (a ∷ x) (b ∷ y) = eqb a b && same_bytes x y

-- the test holds exactly of a row and itself: "two messages are different when any byte is"
pub record SameExactly (x y : List ℕ) : Type 0 where
  pub same : x ≡ y → same_bytes x y ≡ true
  pub same-only : same_bytes x y ≡ true → x ≡ y
