-- Of a frame that is sent for its whole message, the filling decides. Assumes nothing.
use Rattle.std.proofs.Common.{◌∙◌, sym, subst, arith}
use Rattle.std.proofs.lemmas.Bool.Decides.{nat_tests}
use Rattle.std.proofs.lemmas.Result.{err_from_is_err_and}
use Rattle.e8.specs.Energy.{Within}
use Rattle.frames.specs.Kind.{scale}
use Rattle.frames.specs.Reading.{message_after}
use Rattle.frames.proofs.Range.{sent-frame-within}
use Rattle.frames.proofs.Reading.{taken-in-set}
use Rattle.frames.proofs.Refusals.{accepted}
use Rattle.free_bits.proofs.ReadBack.{none-fixed}
use Rattle.free_bits.proofs.Strict.{strict-passed}
use Rattle.reading.proofs.Answers.{few-enough, few-open, whole-refused, whole-taken}
use Rattle.reading.proofs.strict.read_quiet.Goals as goal

pub returns-in_err-read_whole-clause-number : goal.returns-in_err-read_whole-clause-number
returns-in_err-read_whole-clause-number c =
    let p = err_from_is_err_and c.from_residual.result c.from_residual.ensures.1 in
    rw (p.1, p.2) (grind (arith, nat_tests, whole-refused, few-enough))

pub is_taken-requires : goal.is_taken-requires
unfolding message_after
is_taken-requires c =
    let x = c.args in
    let sent = strict-passed x.kind x.grade 0 x.number x.frame.now _ (sym c.in_ok-read_whole.ensures.number) in
    let a = accepted _ _ _ _ _ sent.0 in
    let set = taken-in-set _ _ _ _ _ sent.0 in
    let small = subst (Within (scale x.kind x.grade)) (sym sent.1) (sent-frame-within x.kind x.grade 0 x.number a.kind a.grade _) in
    let whole = c.in_ok-read_whole.ensures.message ∙ none-fixed x.kind x.grade a.kind a.grade x.frame.now set in
    (a.kind, a.grade, omega arith, omega arith, set, small, whole)

pub returns-then-not-is_taken-clause-number : goal.returns-then-not-is_taken-clause-number
returns-then-not-is_taken-clause-number c = grind (arith, nat_tests, whole-taken, few-enough)

pub returns-clause-number : goal.returns-clause-number
returns-clause-number c =
    let x = c.args in
    let sent = strict-passed x.kind x.grade 0 x.number x.frame.now _ (sym c.in_ok-read_whole.ensures.number) in
    grind (arith, nat_tests, whole-taken, few-enough, few-open)
