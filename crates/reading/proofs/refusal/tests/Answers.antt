-- Past the tests of the open reading, a strict reading takes the least member of a class or refuses by 9. Assumes nothing.
use Rattle.std.proofs.Common.{sym, arith}
use Rattle.std.proofs.lemmas.Bool.Decides.{nat_tests}
use Rattle.std.proofs.lemmas.Result.{err_from_is_err_and}
use Rattle.e8.proofs.Within.{within-to}
use Rattle.frames.specs.Reading.{largest_read}
use Rattle.frames.proofs.Rows.{grade-low, grade-high}
use Rattle.frames.proofs.Limits.{few-levels}
use Rattle.frames.proofs.Refusals.{range-within, accepted}
use Rattle.reading.specs.Numbers.{sent_refusal}
use Rattle.reading.proofs.Answers.{sent-tested, even_rule, odd_rule}
use Rattle.reading.proofs.refusal.tests.Goals as goal

pub returns-in_err-words-clause-number : goal.returns-in_err-words-clause-number
unfolding sent_refusal
returns-in_err-words-clause-number c =
    let p = err_from_is_err_and c.from_residual.result c.from_residual.ensures.1 in
    rw (p.1, p.2) (grind (arith, nat_tests))

pub levels-requires : goal.levels-requires
levels-requires c = let a = accepted _ _ _ _ _ (sym c.in_ok-words.ensures.number) in a.kind

pub overflow_add-k : goal.overflow_add-k
overflow_add-k c = let a = accepted _ _ _ _ _ (sym c.in_ok-words.ensures.number) in record { fits = omega (arith, few-levels c.args.kind a.kind) }

pub overflow_sub-k : goal.overflow_sub-k
overflow_sub-k c = let a = accepted _ _ _ _ _ (sym c.in_ok-words.ensures.number) in omega (arith, grade-low c.args.grade a.grade)

pub overflow_cast-k-2 : goal.overflow_cast-k-2
overflow_cast-k-2 c =
    let a = accepted _ _ _ _ _ (sym c.in_ok-words.ensures.number) in record { fits = omega (arith, few-levels c.args.kind a.kind, grade-high c.args.grade a.grade) }

pub is_least-requires : goal.is_least-requires
is_least-requires c =
    let a = accepted _ _ _ _ _ (sym c.in_ok-words.ensures.number) in (
      a.kind,
      omega (arith, few-levels c.args.kind a.kind, grade-high c.args.grade a.grade),
      within-to largest_read 16777216 c.args.frame.now (omega arith) (range-within c.args.frame.now a.range),
      a.coordinates,
    )

pub returns-then-not-is_least-clause-number : goal.returns-then-not-is_least-clause-number
returns-then-not-is_least-clause-number c = grind (arith, nat_tests, sent-tested, even_rule, odd_rule)

pub returns-clause-number : goal.returns-clause-number
returns-clause-number c = grind (arith, nat_tests, sent-tested, even_rule, odd_rule)
