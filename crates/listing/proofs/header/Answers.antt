-- `header` meets its contract: the header, and after it the refusal of a long sheet. Assumes nothing.
use Rattle.std.proofs.Common.{ℕ, List, ◌++◌, ap, ◌∙◌, subst, arith}
use Rattle.text.specs.Text.{Put}
use Rattle.text.specs.Line.{header_text, refused_text}
use Rattle.text.proofs.Buffer.{put-more}
use Rattle.listing.proofs.Cases.{begins-long, header-length}
use Rattle.listing.proofs.header.Goals as goal

pub returns-then-sheet-gt-LONGEST-clause-line : goal.returns-then-sheet-gt-LONGEST-clause-line
returns-then-sheet-gt-LONGEST-clause-line c =
    let b = begins-long c.args.sheet.now (omega arith) in
    let e = ap (λ (n : ℕ). header_text ++ refused_text n) c.number.ensures ∙ b.0 in (
      subst (λ (t : List ℕ). Put c.args.out.now 0 t c.put_refused.result c.put_refused.new.out) e
          (put-more c.put_header-length.ensures c.put_refused.ensures.text (omega (arith, header-length))),
      omega (arith, header-length),
    )
