-- `least_by` meets its contract
use mathlib.Core.Path.{◌≡◌, refl, sym, ap, ◌∙◌, subst}
use mathlib.Core.Bool.{Bool, true, false, cond}
use mathlib.Core.List.{List}
use Prim.Native.Nat.{ℕ, ◌*◌, ◌^◌, ◌≤◌}
use native.Mathlib.Omega.{arith}
use lib.IntN.{ℤ}
use lib.ListN.{length}
use lib.Pow.{pow_pos, pow_mono}
use borrow.Author.Rules.{rules}
use Rattle.e8.specs.Energy.{Within}
use Rattle.e8.specs.Least.{least_block}
use Rattle.e8.specs.Ties.{negated, least_block_by}
use Rattle.e8.proofs.Within.{within-to}
use Rattle.e8.proofs.Negation.{negated-length, negated-within}
use Rattle.e8.proofs.Ties.{block_by-within}
use Rattle.shaping.proofs.least_by.Statement.{statement}
use Rattle.shaping.proofs.least_by.Tie as tie

-- the signs changed before and after, or not at all
both : (t : Bool) (H : ℕ) (x : List ℤ) → cond t (negated (least_block H (cond t (negated x) x))) (least_block H (cond t (negated x) x)) ≡ least_block_by t H x
unfolding least_block_by
both true H x = refl
both false H x = refl

turned-within : (t : Bool) (B : ℕ) (x : List ℤ) → Within B x → Within B (cond t (negated x) x)
turned-within true B x h = negated-within B x h
turned-within false B x h = h

-- a least block is small
small : (k : ℕ) (x : List ℤ) → k ≤ 6 → length x ≡ 8 → Within (2 ^ 24) (least_block (2 ^ k) x)
unfolding least_block_by
small k x low l =
    within-to (2 * 2 ^ k) (2 ^ 24) (least_block (2 ^ k) x) (omega (arith, pow_mono {i = k} {j = 6} low)) (block_by-within (2 ^ k) (pow_pos k) false x l)

eight : (s : tie.Start) → length s.args.x ≡ 8
eight s = search rules

turned-eight : (t : Bool) (x : List ℤ) → length x ≡ 8 → length (cond t (negated x) x) ≡ 8
turned-eight true x l = negated-length x ∙ l
turned-eight false x l = l

turned-requires : tie.Need-turned-y-requires
turned-requires c κs = search rules

least-requires : tie.Need-least-z-requires
least-requires c κs =
    let s = c.before in
    (s.requires.0, subst (Within (2 ^ 24)) (sym c.turned-y.ensures) (turned-within s.args.last (2 ^ 24) s.args.x s.requires.1))

turned-requires-2 : tie.Need-turned-requires
turned-requires-2 c κs =
    let s = c.before.before in
    subst (Within (2 ^ 24)) (sym c.least-z.ensures)
    (small s.args.k c.before.turned-y.result s.requires.0
    (ap length c.before.turned-y.ensures ∙ turned-eight s.args.last s.args.x (eight s)))

returns : tie.Need-returns
returns c =
    let s = c.before.before.before in
    let H = 2 ^ s.args.k in
    c.turned.ensures
    ∙ ap (λ (z : List ℤ). cond s.args.last (negated z) z) (c.before.least-z.ensures ∙ ap (least_block H) c.before.before.turned-y.ensures)
    ∙ both s.args.last H s.args.x

pub least_by_spec : {M : Type 1} → statement M
least_by_spec = tie.close (tie.spec turned-requires least-requires turned-requires-2 returns)
