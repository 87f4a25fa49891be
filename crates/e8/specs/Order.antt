-- Reading order: at the first coordinate where two frames differ, the smaller comes first. Clients cite Reads, and before, its test. Assumes nothing.
use Rattle.std.specs.Prelude.{◌≡◌, ◌⊎◌, Bool, true, false, cond, List, [], ◌∷◌, ℤ, ◌<ℤ◌}
use Rattle.std.specs.Int.Signed.{lt_z}

-- a stands before b in reading order, or is b
abbrev pub Reads : List ℤ → List ℤ → Type 0
Reads [] bv = Unit {0}
Reads (a ∷ av) [] = ⊥
Reads (a ∷ av) (b ∷ bv) = (a <ℤ b) ⊎ ((a ≡ b) × Reads av bv)

-- the same as a test
unfoldable pub before : List ℤ → List ℤ → Bool
before [] bv = true
before (a ∷ av) [] = false
before (a ∷ av) (b ∷ bv) = cond (lt_z a b) true (cond (lt_z b a) false (before av bv))
