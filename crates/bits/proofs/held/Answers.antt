use Rattle.std.proofs.Common.{◌≡◌, ℕ, ◌-◌, ◌+◌, List, reverse, take, drop, fold, ap, ◌∙◌, arith, rules}
use Rattle.bits.proofs.Bytewise.{joined, held-part}
use Rattle.bits.proofs.held.Goals as goal

pub returns : goal.returns
returns c =
    let a = c.args in
    let xs : List ℕ = a.message.now in
    let e : c.fold.result ≡ fold joined 0 (reverse (take (a.first + a.n - a.first) (drop a.first xs))) = search rules in
    let n : a.first + a.n - a.first ≡ a.n = omega arith in
    e ∙ ap (λ (n : ℕ). fold joined 0 (reverse (take n (drop a.first xs)))) n
    ∙ held-part xs a.first a.n (λ j. (c.type_inv.message j).fits) (omega arith) (omega arith)
