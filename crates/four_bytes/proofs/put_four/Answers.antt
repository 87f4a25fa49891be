use Rattle.std.proofs.Common.{ℕ, List, get_or, ap}
use Rattle.four_bytes.proofs.Stored.{four-stored}
use Rattle.four_bytes.proofs.put_four.Goals as goal

pub returns : goal.returns
returns c =
    let at = λ (i : ℕ). ap (λ (bytes : List ℕ). get_or bytes i 0) c.to_le_bytes.ensures in
    four-stored c.args.out.now c.args.p c.requires c.args.w _ _ _ _ (at 0) (at 1) (at 2) (at 3)
