-- THE NUMBERS TELL THE REFUSALS APART: none is 0, which is the number of success, and no two have one number. Assumes nothing.
use Rattle.std.specs.Prelude.{◌≡◌}
use Rattle.refusals.specs.declared.Refusal.{Refusal}
use Rattle.refusals.specs.Number.{code}

abbrev pub NoneIsZero : Type 0
NoneIsZero = (r : Refusal) → code r ≡ 0 → ⊥

abbrev pub EachItsOwn : Type 0
EachItsOwn = (r s : Refusal) → code r ≡ code s → r ≡ s
