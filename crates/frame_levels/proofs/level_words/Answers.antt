-- Each turn holds one level more. Assumes nothing.
use Rattle.std.proofs.Common.{◌≡◌, ◌+◌, ◌*◌, ◌/◌, ℕ, List, length, min, sym, ap, ap₂, ◌∙◌, arith, rules}
use Rattle.std.proofs.Math.ListN.{set}
use Rattle.bits.specs.Number.{table, number}
use Rattle.frames.specs.Frame.{level_word}
use Rattle.bits.proofs.Table.{filled, filled_none, filled_more}
use Rattle.frames.specs.Kind.{levels}
use Rattle.frames.proofs.Limits.{few-levels, few-positions, kind-high, whole-blocks}
use Rattle.frame_levels.specs.Words.{backward_words}
use Rattle.frame_levels.proofs.Words.{backward_word, word-backwards}
use Rattle.frame_levels.proofs.level_words.Goals.{then-i-count, else-i-count}
use Rattle.frame_levels.proofs.level_words.Goals as goal

pub loop-i-init : goal.loop-i-init
unfolding table
loop-i-init c =
    let back : ℕ → ℕ = backward_word c.args.kind c.args.frame.now in
    let none : 0 ≡ min 0 c.levels-count.result = omega arith in
    sym (filled_none 3 back) ∙ ap (filled 3 back) none

pub level_word-requires : goal.level_word-requires
level_word-requires c =
    let k = c.args.kind in (
      ap (λ (n : ℕ). 8 * (n / 8)) c.requires.1 ∙ whole-blocks k c.requires.0 ∙ sym c.requires.1,
      omega (arith, few-positions k c.requires.0),
      omega arith,
    )

pub transformed-requires : goal.transformed-requires
transformed-requires c = kind-high c.args.kind c.requires.0

pub loop-i-preserved : goal.loop-i-preserved
loop-i-preserved c =
    let k = c.args.kind in
    let f = c.args.frame.now in
    let i = c.loop-i.i in
    let back : ℕ → ℕ = backward_word k f in
    elim c.if-i-count.branch [
      | then-i-count w ↦
          let now : min i c.levels-count.result ≡ i = omega arith in
          let next : i + 1 ≡ min (i + 1) c.levels-count.result = omega arith in
          let held : w.level_word.result ≡ number (length f) (level_word i f) = search rules in
          let is = w.transformed.ensures ∙ word-backwards k (length f) i f w.level_word.result c.requires.1 held in
          w.words-is ∙ ap₂ (λ (ws : List ℕ) (x : ℕ). set ws i x) (c.loop-i.invariant ∙ ap (filled 3 back) now) is
          ∙ filled_more 3 back i (omega arith)
          ∙ ap (filled 3 back) next
      | else-i-count w ↦
          let same : min i c.levels-count.result ≡ min (i + 1) c.levels-count.result = omega arith in
          w.words-is ∙ c.loop-i.invariant ∙ ap (filled 3 back) same
    ]

pub returns : goal.returns
unfolding backward_words
returns c =
    let all : min c.loop-i.i c.levels-count.result ≡ levels c.args.kind = omega (arith, few-levels c.args.kind c.requires.0) in
    c.loop-i.invariant ∙ ap (filled 3 (backward_word c.args.kind c.args.frame.now)) all
